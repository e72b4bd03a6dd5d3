-- Books without what parts and objects are.
use Rattle.std.proofs.Common.{◌≡◌, ◌∙◌, ◌+◌, ◌-◌, ℕ, List, [], ◌∷◌, Option, Some, None, refl, ap, ap₂, sym, map, inl, inr, length}
use Rattle.std.specs.Prelude.{◌==◌, ◌&&◌, ◌||◌, if◌then◌else◌, is_some, max, nat_lt, not, option_map, sum_by, unwrap_or}
use Rattle.std.specs.BTreeMap.{insert_entry}
use Rattle.std.specs.Map.{lookup, remove_entry, set_value, values_of}
use Rattle.std.specs.Option.{option_map_or, option_or}
use Rattle.std.specs.Ordering.{nat_cmp}
use Rattle.std.specs.Str.{bytes_eq}
use Rattle.std.proofs.lemmas.Bool.{cases_Bool, cases_eq, cases_lt, eq-eqb, le-ltb, lt-ltb, ne_eqb}
use Rattle.std.proofs.lemmas.List.{length-map, map-append}
use Rattle.std.proofs.lemmas.List.Sums.{sum_by-cons}
use Rattle.std.proofs.lemmas.Map.Made.{lookup-map_values}
use Rattle.store_books.specs.declared.content.ObjectLabel.{ObjectLabel}
use Rattle.store_books.specs.declared.refusal.Refusal.{Refusal}
use Rattle.store_books.specs.declared.refusal.Refusal.TheVariants.{BelowUse, LimitTooLarge, NoTenant, NotHeld, NoUpload, OverQuota, TooLong}
use Rattle.store_upload.specs.declared.refusal.AddFault.{AddFault}
use Rattle.store_upload.specs.declared.refusal.FinishFault.{FinishFault}
use Rattle.store_upload.specs.declared.refusal.FixFault.{FixFault}
use Rattle.store_upload.specs.declared.refusal.AddFault.TheVariants.{Overlap, PastLast}
use Rattle.store_upload.specs.declared.refusal.FinishFault.TheVariants.{Incomplete, NotFixed}
use Rattle.store_upload.specs.declared.refusal.FixFault.TheVariants as fix
use Rattle.store_upload.specs.Uploads.{ModelUpload, finish_fault, first_gap, fix_fault, held_bytes, is_ragged, last_end, length_of, max_bytes, new_upload, overlap_at, overlaps, place_fault, with_more}
use Rattle.store_books.specs.Books.{ModelOwnedUpload, ModelBooks, Filed, addressed, in_use, is_absent, is_held_by, is_number, limit_of, max_limit, object_among, object_at, reserved_by, reserved_of, totals_of, upload_at, use_by, use_of}
use Rattle.store_books.specs.Commands.{add_refused, finish_refused, fix_refused, full_refusal, join_refusal, with_begun, with_end, with_holder, with_holders, with_known, with_left, with_new, with_part, without_holder}
use Rattle.store_books.specs.Forgetting.{Forgets, SeesCommands, SeesRefusals, bare, bare_begun, bare_object, bare_upload, label_of}
use Rattle.store_books.specs.Bare.{Bare, as_it_is, label_address, label_len}
use Rattle.store_books.proofs.Lists.{removed_seen, seen, set_seen, sum_values_seen}

pub inserted_seen : {X Y : Type 0} (f : X → Y) (es : List (ℕ × X)) (k : ℕ) (v : X) → seen f (insert_entry nat_cmp es k v) ≡ insert_entry nat_cmp (seen f es) k (f v)
inserted_seen f [] k v = refl
inserted_seen f (e ∷ es) k v = elim (cases_lt k e.0) [
  | inl less ↦ rw (lt-ltb k e.0 less) refl
  | inr more ↦ elim (cases_eq k e.0) [
    | inl same ↦ rw (le-ltb k e.0 more, eq-eqb k e.0 same) refl
    | inr apart ↦ rw (le-ltb k e.0 more, ne_eqb k e.0 apart) (ap (λ xs. (e.0, f e.1) ∷ xs) (inserted_seen f es k v))
  ]
]

sum_list_seen : {X Y : Type 0} (f : X → Y) (g : Y → ℕ) (h : X → ℕ) → ((x : X) → g (f x) ≡ h x) → (xs : List X) → sum_by g (map f xs) ≡ sum_by h xs
sum_list_seen f g h same [] = refl
sum_list_seen f g h same (x ∷ xs) = sum_by-cons g (f x) (map f xs) ∙ ap₂ (λ (m n : ℕ). m + n) (same x) (sum_list_seen f g h same xs) ∙ sym (sum_by-cons h x xs)

-- ---- an upload

module _ {P : Type 0} (len : P → ℕ) where
  abbrev spans : List (ℕ × P) → List (ℕ × ℕ)
  spans ps = map (λ p. (p.0, len p.1)) ps

  ends_same : (ps : List (ℕ × P)) → last_end as_it_is (spans ps) ≡ last_end len ps
  unfolding last_end
  ends_same [] = refl
  ends_same (p ∷ ps) = ap (max (p.0 + len p.1)) (ends_same ps)

  overlap_step : (offset n : ℕ) (p : ℕ × P) (ps : List (ℕ × P)) → overlap_at as_it_is offset n (spans ps) ≡ overlap_at len offset n ps → overlap_at as_it_is offset n (spans (p ∷ ps)) ≡ overlap_at len offset n (p ∷ ps)
  unfolding overlap_at
  overlap_step offset n p ps h = elim (cases_Bool (overlaps len offset n p)) [
    | inl t ↦ rw (t, overlap_at) refl
    | inr t ↦ rw (t, overlap_at) h
  ]

  overlap_same : (offset n : ℕ) (ps : List (ℕ × P)) → overlap_at as_it_is offset n (spans ps) ≡ overlap_at len offset n ps
  unfolding overlap_at
  overlap_same offset n [] = refl
  overlap_same offset n (p ∷ ps) = overlap_step offset n p ps (overlap_same offset n ps)

  gap_same : (a : ℕ) (ps : List (ℕ × P)) → first_gap as_it_is a (spans ps) ≡ first_gap len a ps
  unfolding first_gap
  gap_same a [] = refl
  gap_same a (p ∷ ps) = gap_step a p ps (gap_same (p.0 + len p.1) ps)
    where
      gap_step : (a : ℕ) (p : ℕ × P) (ps : List (ℕ × P)) → first_gap as_it_is (p.0 + len p.1) (spans ps) ≡ first_gap len (p.0 + len p.1) ps → first_gap as_it_is a (spans (p ∷ ps)) ≡ first_gap len a (p ∷ ps)
      gap_step a p ps h = elim (cases_eq p.0 a) [
        | inl same ↦ rw (eq-eqb p.0 a same, first_gap) h
        | inr apart ↦ rw (ne_eqb p.0 a apart, first_gap) refl
      ]

  abbrev place_by : ModelUpload P → ℕ → ℕ → Option ℕ → ℕ → Option AddFault
  place_by u offset n over last =
      option_or (option_map Overlap over) (option_map PastLast (if (is_some u.end && nat_lt (unwrap_or u.end last) (offset + n)) || (is_ragged n && nat_lt (offset + n) (unwrap_or u.end last)) then Some (unwrap_or u.end last) else None))

  pub place_same : (u : ModelUpload P) (offset n : ℕ) → place_fault as_it_is (bare_upload len u) offset n ≡ place_fault len u offset n
  place_same u offset n = ap₂ (place_by u offset n) (overlap_same offset n u.parts) (ends_same u.parts)

  pub more_same : (u : ModelUpload P) (offset : ℕ) (part : P) → bare_upload len (with_more len u offset part) ≡ with_more as_it_is (bare_upload len u) offset (len part)
  more_same u offset part = ap (λ (ps : List (ℕ × ℕ)). record (with_more as_it_is (bare_upload len u) offset (len part)) { parts = ps }) (inserted_seen len u.parts offset part)

  abbrev fix_by : ModelUpload P → ℕ → ℕ → Option FixFault
  fix_by u n last =
      if nat_lt u.plan.bound n then Some fix.TooLong
      else if (if is_some u.end then not (n == unwrap_or u.end last) else nat_lt n (unwrap_or u.end last)) then Some (fix.PastLast (unwrap_or u.end last))
      else None

  pub fix_same : (u : ModelUpload P) (n : ℕ) → fix_fault as_it_is (bare_upload len u) n ≡ fix_fault len u n
  fix_same u n = ap (fix_by u n) (ends_same u.parts)

  abbrev finish_by : ModelUpload P → ℕ → Option FinishFault
  finish_by u gap = if is_some u.end then option_map Incomplete (if nat_lt gap (length_of u) then Some gap else None) else Some NotFixed

  pub finish_same : (u : ModelUpload P) → finish_fault as_it_is (bare_upload len u) ≡ finish_fault len u
  finish_same u = ap (finish_by u) (gap_same 0 u.parts)

-- ---- books

-- what speaks against a command on an upload, seen another way
on_seen : {X Y : Type 0} (f : X → Y) (g : Y → Option Refusal) (h : X → Option Refusal) → ((x : X) → g (f x) ≡ h x) → (o : Option X) → option_map_or g (option_map f o) (Some NoUpload) ≡ option_map_or h o (Some NoUpload)
on_seen f g h same None = refl
on_seen f g h same (Some x) = same x

module _ {O : Type 0} (size : O → ℕ) (address : O → List ℕ) where
  addressed_seen : (os : List (Filed O)) → addressed label_address (map (bare_object size address) os) ≡ seen (bare_object size address) (addressed address os)
  addressed_seen [] = refl
  addressed_seen (o ∷ os) = ap (λ xs. (address o.content, bare_object size address o) ∷ xs) (addressed_seen os)

  among_seen : (os : List (Filed O)) (at : List ℕ) → object_among label_address (map (bare_object size address) os) at ≡ option_map (bare_object size address) (object_among address os at)
  among_seen os at = ap (lookup (bytes_eq at)) (addressed_seen os) ∙ lookup-map_values (bare_object size address) (bytes_eq at) (addressed address os)

  values_seen : {K : Type 0} (es : List (K × Filed O)) → values_of (seen (bare_object size address) es) ≡ map (bare_object size address) (values_of es)
  values_seen [] = refl
  values_seen (e ∷ es) = ap (λ xs. bare_object size address e.1 ∷ xs) (values_seen es)

  holders_seen : (os : List (Filed O)) (at : List ℕ) (o : Filed O) (hs : List ℕ) → map (bare_object size address) (with_holders address os at o hs) ≡ with_holders label_address (map (bare_object size address) os) at (bare_object size address o) hs
  holders_seen os at o [] =
      sym (values_seen (remove_entry (bytes_eq at) (addressed address os))) ∙ ap values_of (sym (removed_seen (bare_object size address) (bytes_eq at) (addressed address os)))
      ∙ ap (λ (es : List (List ℕ × Filed ObjectLabel)). values_of (remove_entry (bytes_eq at) es)) (sym (addressed_seen os))
  holders_seen os at o (h ∷ hs) =
      let w : Filed O = record o { holders = h ∷ hs } in
      sym (values_seen (set_value (bytes_eq at) (addressed address os) w)) ∙ ap values_of (sym (set_seen (bare_object size address) (bytes_eq at) (addressed address os) w))
      ∙ ap (λ (es : List (List ℕ × Filed ObjectLabel)). values_of (set_value (bytes_eq at) es (bare_object size address w))) (sym (addressed_seen os))

module _ {P O : Type 0} (len : P → ℕ) (size : O → ℕ) (address : O → List ℕ) where
  reserved_same : (b : ModelBooks P O) (t : ℕ) → reserved_of (bare len size address b) t ≡ reserved_of b t
  reserved_same b t = sum_values_seen (bare_begun len) (reserved_by t) (reserved_by t) (λ u. refl) b.uploads

  used_same : (b : ModelBooks P O) (t : ℕ) → use_of label_len (bare len size address b) t ≡ use_of size b t
  used_same b t = sum_list_seen (bare_object size address) (use_by label_len t) (use_by size t) (λ o. refl) b.objects

  in_use_same : (b : ModelBooks P O) (t : ℕ) → in_use label_len (bare len size address b) t ≡ in_use size b t
  in_use_same b t = ap₂ (λ (x y : ℕ). x + y) (used_same b t) (reserved_same b t)

  pub upload_same : (b : ModelBooks P O) (number : ℕ) → upload_at (bare len size address b) number ≡ option_map (bare_begun len) (upload_at b number)
  upload_same b number = lookup-map_values (bare_begun len) (is_number number) b.uploads

  pub object_same : (b : ModelBooks P O) (at : List ℕ) → object_at label_address (bare len size address b) at ≡ option_map (bare_object size address) (object_at address b at)
  object_same b at = among_seen size address b.objects at

  abbrev limit_by : ModelBooks P O → ℕ → ℕ → ℕ → Option Refusal
  limit_by b t limit used = if is_absent b t then Some NoTenant else if nat_lt max_limit limit then Some LimitTooLarge else if nat_lt limit used then Some (BelowUse used) else full_refusal b

  abbrev begin_by : ModelBooks P O → ℕ → ℕ → ℕ → Option Refusal
  begin_by b t n used =
      if is_absent b t then Some NoTenant else if nat_lt max_bytes n then Some TooLong else if nat_lt (limit_of b t) (used + n) then Some (OverQuota (limit_of b t - used)) else full_refusal b

  abbrev join_by : ModelBooks P O → ModelOwnedUpload P → Filed O → ℕ → Option Refusal
  join_by b u o used =
      if not (is_held_by u.tenant o) && nat_lt (length_of u.upload + (limit_of b u.tenant - used)) (size o.content) then Some (OverQuota (limit_of b u.tenant - used)) else full_refusal b

  join_same : (b : ModelBooks P O) (u : ModelOwnedUpload P) (f : Option (Filed O)) → join_refusal label_len label_address (bare len size address b) (bare_begun len u) (option_map (bare_object size address) f) ≡ join_refusal size address b u f
  join_same b u None = refl
  join_same b u (Some o) = ap (join_by b u o) (in_use_same b u.tenant)

  held_same : (b : ModelBooks P O) (t : ℕ) (f : Option (Filed O)) → option_map_or (λ (o : Filed ObjectLabel). if is_held_by t o then None else Some NotHeld) (option_map (bare_object size address) f) (Some NotHeld)
      ≡ option_map_or (λ (o : Filed O). if is_held_by t o then None else Some NotHeld) f (Some NotHeld)
  held_same b t None = refl
  held_same b t (Some o) = refl

  abbrev held_by : ModelBooks P O → ℕ → Option Refusal → Option Refusal
  held_by b t rest = option_or (if is_absent b t then Some NoTenant else rest) (full_refusal b)

  sees_refusals : (b : ModelBooks P O) → SeesRefusals len size address b
  sees_refusals b = record {
    tenant = λ limit. refl;
    limit = λ t limit. ap (limit_by b t limit) (in_use_same b t);
    begin = λ t n. ap (begin_by b t n) (in_use_same b t);
    put = λ number offset n.
        let g : ModelOwnedUpload ℕ → Option Refusal = λ u. option_or (option_map add_refused (place_fault as_it_is u.upload offset n)) (full_refusal b) in
        let h : ModelOwnedUpload P → Option Refusal = λ u. option_or (option_map add_refused (place_fault len u.upload offset n)) (full_refusal b) in
        ap (λ (o : Option (ModelOwnedUpload ℕ)). option_map_or g o (Some NoUpload)) (upload_same b number)
        ∙ on_seen (bare_begun len) g h (λ u. ap (λ x. option_or (option_map add_refused x) (full_refusal b)) (place_same len u.upload offset n)) (upload_at b number);
    fix = λ number n.
        let g : ModelOwnedUpload ℕ → Option Refusal = λ u. option_or (option_map fix_refused (fix_fault as_it_is u.upload n)) (full_refusal b) in
        let h : ModelOwnedUpload P → Option Refusal = λ u. option_or (option_map fix_refused (fix_fault len u.upload n)) (full_refusal b) in
        ap (λ (o : Option (ModelOwnedUpload ℕ)). option_map_or g o (Some NoUpload)) (upload_same b number)
        ∙ on_seen (bare_begun len) g h (λ u. ap (λ x. option_or (option_map fix_refused x) (full_refusal b)) (fix_same len u.upload n)) (upload_at b number);
    ready = λ number.
        let g : ModelOwnedUpload ℕ → Option Refusal = λ u. option_map finish_refused (finish_fault as_it_is u.upload) in
        let h : ModelOwnedUpload P → Option Refusal = λ u. option_map finish_refused (finish_fault len u.upload) in
        ap (λ (o : Option (ModelOwnedUpload ℕ)). option_map_or g o (Some NoUpload)) (upload_same b number)
        ∙ on_seen (bare_begun len) g h (λ u. ap (option_map finish_refused) (finish_same len u.upload)) (upload_at b number);
    file = λ number at.
        let g : ModelOwnedUpload ℕ → Option Refusal = λ u. join_refusal label_len label_address (bare len size address b) u (object_at label_address (bare len size address b) at) in
        let h : ModelOwnedUpload P → Option Refusal = λ u. join_refusal size address b u (object_at address b at) in
        ap (λ (o : Option (ModelOwnedUpload ℕ)). option_map_or g o (Some NoUpload)) (upload_same b number)
        ∙ on_seen (bare_begun len) g h (λ u. ap (join_refusal label_len label_address (bare len size address b) (bare_begun len u)) (object_same b at) ∙ join_same b u (object_at address b at)) (upload_at b number);
    abort = λ number.
        let g : ModelOwnedUpload ℕ → Option Refusal = λ u. full_refusal b in
        let h : ModelOwnedUpload P → Option Refusal = λ u. full_refusal b in
        ap (λ (o : Option (ModelOwnedUpload ℕ)). option_map_or g o (Some NoUpload)) (upload_same b number) ∙ on_seen (bare_begun len) g h (λ u. refl) (upload_at b number);
    forget = λ t at.
        ap (held_by b t) (ap (λ (f : Option (Filed ObjectLabel)). option_map_or (λ (o : Filed ObjectLabel). if is_held_by t o then None else Some NotHeld) f (Some NotHeld)) (object_same b at) ∙ held_same b t (object_at address b at));
  }

  -- ---- what commands leave

  abbrev with_uploads : ModelBooks P O → List (ℕ × ModelOwnedUpload ℕ) → Bare
  with_uploads b us = record (bare len size address b) { uploads = us; entry_count = b.entry_count + 1 }

  set_same : (b : ModelBooks P O) (number : ℕ) (w : ModelOwnedUpload P) → seen (bare_begun len) (set_value (is_number number) b.uploads w) ≡ set_value (is_number number) (seen (bare_begun len) b.uploads) (bare_begun len w)
  set_same b number w = sym (set_seen (bare_begun len) (is_number number) b.uploads w)

  removed_same : (b : ModelBooks P O) (number : ℕ) → seen (bare_begun len) (remove_entry (is_number number) b.uploads) ≡ remove_entry (is_number number) (seen (bare_begun len) b.uploads)
  removed_same b number = sym (removed_seen (bare_begun len) (is_number number) b.uploads)

  part_same : (b : ModelBooks P O) (number offset : ℕ) (part : P) (o : Option (ModelOwnedUpload P)) → bare len size address (with_part len b number offset part o) ≡ with_part as_it_is (bare len size address b) number offset (len part) (option_map (bare_begun len) o)
  part_same b number offset part None = refl
  part_same b number offset part (Some u) =
      let with : ModelUpload ℕ → ModelOwnedUpload ℕ = λ x. record { tenant = u.tenant; upload = x } in
      ap (with_uploads b) (set_same b number (record u { upload = with_more len u.upload offset part }) ∙ ap (λ (x : ModelUpload ℕ). set_value (is_number number) (seen (bare_begun len) b.uploads) (with x)) (more_same len u.upload offset part))

  end_same : (b : ModelBooks P O) (number n : ℕ) (o : Option (ModelOwnedUpload P)) → bare len size address (with_end b number n o) ≡ with_end (bare len size address b) number n (option_map (bare_begun len) o)
  end_same b number n None = refl
  end_same b number n (Some u) = ap (with_uploads b) (set_same b number _)

  abbrev with_both : ModelBooks P O → List (ℕ × ModelOwnedUpload ℕ) → List (Filed ObjectLabel) → Bare
  with_both b us os = record (bare len size address b) { uploads = us; objects = os; entry_count = b.entry_count + 1 }

  new_same : (b : ModelBooks P O) (number : ℕ) (content : O) (o : Option (ModelOwnedUpload P)) → bare len size address (with_new b number content o) ≡ with_new (bare len size address b) number (label_of size address content) (option_map (bare_begun len) o)
  new_same b number content None = refl
  new_same b number content (Some u) = ap₂ (with_both b) (removed_same b number) (map-append (bare_object size address) b.objects (record { content = content; holders = u.tenant ∷ []; number = b.entry_count } ∷ []))

  known_same : (b : ModelBooks P O) (number : ℕ) (at : List ℕ) (o : Option (ModelOwnedUpload P)) (f : Option (Filed O))
      → bare len size address (with_known address b number at o f) ≡ with_known label_address (bare len size address b) number at (option_map (bare_begun len) o) (option_map (bare_object size address) f)
  known_same b number at None f = refl
  known_same b number at (Some u) None = refl
  known_same b number at (Some u) (Some object) = ap₂ (with_both b) (removed_same b number) (holders_seen size address b.objects at object (with_holder u.tenant object.holders))

  abbrev with_objects : ModelBooks P O → List (Filed ObjectLabel) → Bare
  with_objects b os = record (bare len size address b) { objects = os; entry_count = b.entry_count + 1 }

  left_same : (b : ModelBooks P O) (t : ℕ) (at : List ℕ) (f : Option (Filed O)) → bare len size address (with_left address b t at f) ≡ with_left label_address (bare len size address b) t at (option_map (bare_object size address) f)
  left_same b t at None = refl
  left_same b t at (Some object) = ap (with_objects b) (holders_seen size address b.objects at object (without_holder t object.holders))

  sees_commands : (b : ModelBooks P O) → SeesCommands len size address b
  sees_commands b = record {
    tenant = λ limit. refl;
    limit = λ t limit. refl;
    begin = λ t plan. ap (λ (us : List (ℕ × ModelOwnedUpload ℕ)). record (with_begun (bare len size address b) t plan) { uploads = us }) (map-append (λ (e : ℕ × ModelOwnedUpload P). (e.0, bare_begun len e.1)) b.uploads ((b.begun, record { tenant = t; upload = new_upload plan }) ∷ []));
    put = λ number offset part. part_same b number offset part (upload_at b number) ∙ ap (with_part as_it_is (bare len size address b) number offset (len part)) (sym (upload_same b number));
    fix = λ number n. end_same b number n (upload_at b number) ∙ ap (with_end (bare len size address b) number n) (sym (upload_same b number));
    new = λ number content. new_same b number content (upload_at b number) ∙ ap (with_new (bare len size address b) number (label_of size address content)) (sym (upload_same b number));
    known = λ number at. known_same b number at (upload_at b number) (object_at address b at) ∙ ap₂ (with_known label_address (bare len size address b) number at) (sym (upload_same b number)) (sym (object_same b at));
    abort = λ number. ap (with_uploads b) (removed_same b number);
    forget = λ t at. left_same b t at (object_at address b at) ∙ ap (with_left label_address (bare len size address b) t at) (sym (object_same b at));
  }

  -- ---- totals

  held_bytes_same : (ps : List (ℕ × P)) → held_bytes as_it_is (spans len ps) ≡ held_bytes len ps
  held_bytes_same ps = sum_values_seen len as_it_is len (λ p. refl) ps

  sees_totals : (b : ModelBooks P O) → totals_of as_it_is label_len (bare len size address b) ≡ totals_of len size b
  sees_totals b = λ i. record {
    objects = length-map {B = Filed ObjectLabel} b.objects (bare_object size address) i;
    object_bytes = sum_list_seen (bare_object size address) (λ (o : Filed ObjectLabel). label_len o.content) (λ (o : Filed O). size o.content) (λ o. refl) b.objects i;
    uploads = length-map {B = ℕ × ModelOwnedUpload ℕ} b.uploads (λ (e : ℕ × ModelOwnedUpload P). (e.0, bare_begun len e.1)) i;
    held_bytes = sum_values_seen (bare_begun len) (λ (u : ModelOwnedUpload ℕ). held_bytes as_it_is u.upload.parts) (λ (u : ModelOwnedUpload P). held_bytes len u.upload.parts) (λ u. held_bytes_same u.upload.parts) b.uploads i;
    parts = sum_values_seen (bare_begun len) (λ (u : ModelOwnedUpload ℕ). length u.upload.parts) (λ (u : ModelOwnedUpload P). length u.upload.parts) (λ u. length-map {B = ℕ × ℕ} u.upload.parts (λ (p : ℕ × P). (p.0, len p.1))) b.uploads i;
  }

  pub forgets : Forgets len size address
  forgets = record { refusals = sees_refusals; commands = sees_commands; totals = sees_totals }
