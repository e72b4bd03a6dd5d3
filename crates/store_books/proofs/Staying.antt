-- What is true of books stays true after each command.
use Rattle.std.proofs.Common.{◌≡◌, ◌∙◌, ◌<◌, ◌≤◌, ℕ, List, Option, Some, None, refl, ap, sym, arith, length, get_or, subst, inl, inr}
use Rattle.std.specs.Prelude.{if◌then◌else◌, nat_lt, option_map, slice_set}
use Rattle.std.specs.List.{AllByRecursion}
use Rattle.std.specs.Option.{option_map_or, option_or}
use Rattle.std.proofs.lemmas.Bool.{cases_eq, leb-false, ltb-false}
use Rattle.std.proofs.lemmas.List.{get_or-set_other, get_or-set_same, length-set}
use Rattle.store_books.specs.declared.refusal.Refusal.TheVariants.{LimitTooLarge, NoTenant, NoUpload, NotHeld}
use Rattle.store_books.specs.Books.{AreSound, ModelOwnedUpload, ModelBooks, Filed, IsOwnedUpload, IsFiledAmong, in_use, is_absent, is_held_by, max_limit, object_at, upload_at}
use Rattle.store_books.specs.Commands.{add_refused, begin_refusal, finish_refused, fix_refused, full_refusal, holding_refusal, is_over, join_refusal, limit_refusal, with_begun, with_known, with_left, with_limit, with_new, with_part, with_end, without_upload}
use Rattle.store_books.specs.Staying.{StaySound}
use Rattle.store_upload.specs.Uploads.{Fits, UploadPlan, finish_fault, fix_fault, length_of, place_fault}
use Rattle.store_upload.proofs.Places.{not_some}
use Rattle.store_books.proofs.Commands.{begins, both, ends, goes, none_mapped, passed, puts, room}
use Rattle.store_books.proofs.NewTenant.{all_tenants}
use Rattle.store_books.proofs.Objects.{files, is_held, joins, leaves, more_by}
use Rattle.store_books.proofs.Sums.{sound_after}

module _ {P O : Type 0} (len : P → ℕ) (size : O → ℕ) (address : O → List ℕ) where
  limit_sound : (b : ModelBooks P O) (t limit : ℕ) → limit_refusal size b t limit ≡ None → AreSound len size address b → AreSound len size address (with_limit b t limit)
  limit_sound b t limit free old =
      let there = passed (is_absent b t) NoTenant _ free in
      let large = passed (nat_lt max_limit limit) LimitTooLarge _ there.1 in
      let fits = passed (nat_lt limit (in_use size b t)) _ _ large.1 in
      let room = room b fits.1 in
      let within = ltb-false limit (in_use size b t) fits.0 in
      let most = ltb-false max_limit limit large.0 in
      let low = leb-false (length b.tenant_limits) t there.0 in
      let count : length (slice_set b.tenant_limits t limit) ≡ length b.tenant_limits = length-set b.tenant_limits t limit in
      record {
        few_tenants = old.few_tenants;
        few_entries = old.few_entries;
        tenants = omega (arith, count, old.tenants);
        entry_count = omega (arith, room);
        begun = omega (arith, old.begun);
        uploads = subst (λ (n : ℕ). AllByRecursion (IsOwnedUpload len n b.begun) b.uploads) (sym count) old.uploads;
        sorted = old.sorted;
        objects = subst (λ (n : ℕ). AllByRecursion (IsFiledAmong n) b.objects) (sym count) old.objects;
        apart = old.apart;
        within = λ n lt. elim (cases_eq t n) [
          | inl same ↦
              let is : get_or (slice_set b.tenant_limits t limit) n 0 ≡ limit = ap (λ (k : ℕ). get_or (slice_set b.tenant_limits t limit) k 0) (sym same) ∙ get_or-set_same b.tenant_limits t limit 0 low in
              let mine = subst (λ (k : ℕ). in_use size b k ≤ limit) same within in
              omega (arith, is, mine)
          | inr apart ↦
              let is : get_or (slice_set b.tenant_limits t limit) n 0 ≡ get_or b.tenant_limits n 0 = get_or-set_other b.tenant_limits t n limit 0 (λ same. apart (sym same)) in
              let before = old.within n (omega (arith, count, lt)) in
              omega (arith, is, before)
        ];
        limited = λ n lt. elim (cases_eq t n) [
          | inl same ↦
              let is : get_or (slice_set b.tenant_limits t limit) n 0 ≡ limit = ap (λ (k : ℕ). get_or (slice_set b.tenant_limits t limit) k 0) (sym same) ∙ get_or-set_same b.tenant_limits t limit 0 low in
              omega (arith, is, most)
          | inr apart ↦
              let is : get_or (slice_set b.tenant_limits t limit) n 0 ≡ get_or b.tenant_limits n 0 = get_or-set_other b.tenant_limits t n limit 0 (λ same. apart (sym same)) in
              let before = old.limited n (omega (arith, count, lt)) in
              omega (arith, is, before)
        ];
        stored = omega (arith, old.stored);
        parts = omega (arith, old.parts);
      }

  begin_sound : (b : ModelBooks P O) (t : ℕ) (plan : UploadPlan) → begin_refusal size b t plan.bound ≡ None → AreSound len size address b → AreSound len size address (with_begun b t plan)
  begin_sound b t plan free old = sound_after len size address (begins len size address b t plan plan.bound refl free old) old

  put_sound : (b : ModelBooks P O) (number offset : ℕ) (part : P) (found : Option (ModelOwnedUpload P)) → upload_at b number ≡ found → ((u : ModelOwnedUpload P) → found ≡ Some u → Fits u.upload.plan offset (len part))
      → option_map_or (λ (u : ModelOwnedUpload P). option_or (option_map add_refused (place_fault len u.upload offset (len part))) (full_refusal b)) found (Some NoUpload) ≡ None
      → AreSound len size address b → AreSound len size address (with_part len b number offset part found)
  put_sound b number offset part None is fits free old = old
  put_sound b number offset part (Some u) is fits free old = sound_after len size address (puts len size address b number offset part u is old (fits u refl) free) old

  fix_sound : (b : ModelBooks P O) (number n : ℕ) (found : Option (ModelOwnedUpload P)) → upload_at b number ≡ found → option_map_or (λ (u : ModelOwnedUpload P). option_or (option_map fix_refused (fix_fault len u.upload n)) (full_refusal b)) found (Some NoUpload) ≡ None
      → AreSound len size address b → AreSound len size address (with_end b number n found)
  fix_sound b number n None is free old = old
  fix_sound b number n (Some u) is free old = sound_after len size address (ends len size address b number n u is old free) old

  abort_sound : (b : ModelBooks P O) (number : ℕ) (found : Option (ModelOwnedUpload P)) → upload_at b number ≡ found → option_map_or (λ (u : ModelOwnedUpload P). full_refusal b) found (Some NoUpload) ≡ None → AreSound len size address b → AreSound len size address (without_upload b number)
  abort_sound b number None is free old = absurd (not_some NoUpload (sym free))
  abort_sound b number (Some u) is free old = sound_after len size address (goes len size address b number u is old (room b free)) old

  new_sound : (b : ModelBooks P O) (number : ℕ) (content : O) (found : Option (ModelOwnedUpload P)) → upload_at b number ≡ found
      → option_map_or (λ (u : ModelOwnedUpload P). option_map finish_refused (finish_fault len u.upload)) found (Some NoUpload) ≡ None
      → option_map_or (λ (u : ModelOwnedUpload P). join_refusal size address b u None) found (Some NoUpload) ≡ None
      → object_at address b (address content) ≡ None
      → ((u : ModelOwnedUpload P) → found ≡ Some u → size content ≡ length_of u.upload)
      → AreSound len size address b → AreSound len size address (with_new b number content found)
  new_sound b number content None is ready free absent long old = old
  new_sound b number content (Some u) is ready free absent long old =
      sound_after len size address (files len size address b number content u (length_of u.upload) refl is old (room b free) (none_mapped finish_refused (finish_fault len u.upload) ready) absent (long u refl)) old

  known_sound : (b : ModelBooks P O) (number : ℕ) (at : List ℕ) (found : Option (ModelOwnedUpload P)) (known : Option (Filed O)) → upload_at b number ≡ found → object_at address b at ≡ known
      → option_map_or (λ (u : ModelOwnedUpload P). join_refusal size address b u known) found (Some NoUpload) ≡ None → AreSound len size address b → AreSound len size address (with_known address b number at found known)
  known_sound b number at None known is object free old = old
  known_sound b number at (Some u) None is object free old = old
  known_sound b number at (Some u) (Some o) is object free old =
      let tests = passed (is_over size address b u o) _ (full_refusal b) free in
      sound_after len size address (joins len size address b number at u o (more_by len size address u o) refl is object old (room b tests.1) tests.0) old

  forget_sound : (b : ModelBooks P O) (t : ℕ) (at : List ℕ) (known : Option (Filed O)) → object_at address b at ≡ known → t < length b.tenant_limits → full_refusal b ≡ None
      → option_map_or (λ (o : Filed O). if is_held_by t o then None else Some NotHeld) known (Some NotHeld) ≡ None → AreSound len size address b → AreSound len size address (with_left address b t at known)
  forget_sound b t at None is there full free old = old
  forget_sound b t at (Some o) is there full free old =
      let held = is_held (is_held_by t o) None free in
      sound_after len size address (leaves len size address b t at o (size o.content) _ refl refl is old (room b full) there held.0) old

  pub stay_sound : StaySound len size address
  stay_sound b old = record {
    tenant = λ limit free. all_tenants len size address b limit free old;
    limit = λ t limit free. limit_sound b t limit free old;
    begin = λ t plan free. begin_sound b t plan free old;
    put = λ number offset part fits free. put_sound b number offset part (upload_at b number) refl fits free old;
    fix = λ number n free. fix_sound b number n (upload_at b number) refl free old;
    new = λ number content ready free absent long.
        new_sound b number content (upload_at b number) refl ready (rw absent at free) absent long old;
    known = λ number at free. known_sound b number at (upload_at b number) (object_at address b at) refl refl free old;
    abort = λ number free. abort_sound b number (upload_at b number) refl free old;
    forget = λ t at free.
        let all = both (holding_refusal address b t at) (full_refusal b) free in
        let there = passed (is_absent b t) NoTenant _ all.0 in
        forget_sound b t at (object_at address b at) refl (leb-false (length b.tenant_limits) t there.0) all.1 there.1 old;
  }
