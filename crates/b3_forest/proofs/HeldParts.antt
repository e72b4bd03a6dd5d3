-- What the parts of an upload hold, chunk by chunk.
use Rattle.std.proofs.Common.{◌≡◌, ℕ, ◌+◌, ◌-◌, ◌*◌, ◌%◌, ◌<◌, ◌≤◌, ◌⊎◌, List, [], ◌∷◌, length, take, drop, Some, None, nat_lt, true, false, Less, Greater, arith, refl, ap, subst, sym, ◌∙◌, inl, inr}
use Rattle.std.specs.Prelude.{Bool, nat_le, min, max}
use Rattle.std.specs.BTreeMap.{insert_entry}
use Rattle.std.specs.Ordering.{nat_cmp}
use Rattle.std.proofs.lemmas.Bool.Decides.{nat_tests}
use Rattle.std.proofs.lemmas.Bool.{cases_lt}
use Rattle.std.proofs.lemmas.List.{length-drop, length-take}
use Rattle.store_upload.specs.Uploads.{ArePlaced, Fits, closed_plan, end_of, overlap_at, overlaps}
use Rattle.b3_forest.specs.inner.Subtrees.{AreChunks, is_held}
use Rattle.b3_forest.specs.Parts.{HeldPart, chunk_in}
use Rattle.b3_forest.proofs.Growing.{IsUnionOf}
use Rattle.b3_forest.proofs.OneForest.{bool_cases}

-- ---- one part and a chunk

-- chunk i begins in the part, or it doesn't
abbrev pub BeginsIn : HeldPart → ℕ → Type 0
BeginsIn p i = (p.0 ≤ 1024 * i) × (1024 * i < end_of length p)

abbrev pub BeginsOut : HeldPart → ℕ → Type 0
BeginsOut p i = (1024 * i < p.0) ⊎ (end_of length p ≤ 1024 * i)

pub in_or_out : (p : HeldPart) (i : ℕ) → BeginsIn p i ⊎ BeginsOut p i
in_or_out p i = elim (cases_lt (1024 * i) p.0) [
  | inl before ↦ inr (inl before)
  | inr after ↦ elim (cases_lt (1024 * i) (end_of length p)) [ inl inside ↦ inl (after, inside) | inr following ↦ inr (inr following) ]
]

pub not_both : (p : HeldPart) (i : ℕ) → BeginsIn p i → BeginsOut p i → ⊥
not_both p i inside (inl before) = omega (arith, inside.0, before)
not_both p i inside (inr following) = omega (arith, inside.1, following)

abbrev pub own_chunk : HeldPart → ℕ → List ℕ
own_chunk p i = take 1024 (drop (1024 * i - p.0) p.1)

pub chunk_here : (p : HeldPart) (ps : List HeldPart) (i : ℕ) → BeginsIn p i → chunk_in (p ∷ ps) i ≡ own_chunk p i
unfolding chunk_in
chunk_here p ps i inside =
    let a = inside.0 in
    let b = inside.1 in
    let low : nat_le p.0 (1024 * i) ≡ true = grind (arith, nat_tests, a) in
    let high : nat_lt (1024 * i) (p.0 + length p.1) ≡ true = grind (arith, nat_tests, b) in
    rw (low, high, chunk_in) refl

pub chunk_there : (p : HeldPart) (ps : List HeldPart) (i : ℕ) → BeginsOut p i → chunk_in (p ∷ ps) i ≡ chunk_in ps i
unfolding chunk_in
chunk_there p ps i (inl before) =
    let low : nat_le p.0 (1024 * i) ≡ false = grind (arith, nat_tests, before) in
    rw (low, chunk_in) refl
chunk_there p ps i (inr following) =
    let high : nat_lt (1024 * i) (p.0 + length p.1) ≡ false = grind (arith, nat_tests, following) in
    go (nat_le p.0 (1024 * i)) refl high
  where
    go : (b : Bool) → nat_le p.0 (1024 * i) ≡ b → nat_lt (1024 * i) (p.0 + length p.1) ≡ false → chunk_in (p ∷ ps) i ≡ chunk_in ps i
    go true low high = rw (low, high, chunk_in) refl
    go false low high = rw (low, chunk_in) refl

own_length : (p : HeldPart) (i : ℕ) → BeginsIn p i → length (own_chunk p i) ≡ min 1024 (end_of length p - 1024 * i)
own_length p i inside =
    let b = drop (1024 * i - p.0) p.1 in
    omega (arith, length-take 1024 b, length-drop (1024 * i - p.0) p.1, inside.0, inside.1)

pub held_here : (p : HeldPart) (ps : List HeldPart) (i : ℕ) → BeginsIn p i → is_held (chunk_in (p ∷ ps)) i ≡ true
held_here p ps i inside =
    let len = own_length p i inside in
    let some : 0 < length (own_chunk p i) = omega (arith, len, inside.1) in
    let test : nat_lt 0 (length (own_chunk p i)) ≡ true = grind (arith, nat_tests, some) in
    ap (λ (b : List ℕ). nat_lt 0 (length b)) (chunk_here p ps i inside) ∙ test

pub held_there : (p : HeldPart) (ps : List HeldPart) (i : ℕ) → BeginsOut p i → is_held (chunk_in (p ∷ ps)) i ≡ is_held (chunk_in ps) i
held_there p ps i out = ap (λ (b : List ℕ). nat_lt 0 (length b)) (chunk_there p ps i out)

pub none_held_in_nothing : (i : ℕ) → is_held (chunk_in []) i ≡ false
unfolding chunk_in
none_held_in_nothing i = refl

-- ---- parts in order

pub held_after : (n a i : ℕ) (ps : List HeldPart) → ArePlaced length n a ps → is_held (chunk_in ps) i ≡ true → (a ≤ 1024 * i) × (1024 * i < n)
held_after n a i [] placed held = let none = none_held_in_nothing i in cc
held_after n a i (p ∷ ps) placed held = elim (in_or_out p i) [
  | inl inside ↦ (omega (arith, placed.0, inside.0), omega (arith, inside.1, placed.1.within))
  | inr out ↦
      let later = held_after n (end_of length p) i ps placed.2 (sym (held_there p ps i out) ∙ held) in
      (omega (arith, placed.0, later.0), later.1)
]

-- chunks are whole, but for the last of the upload
pub placed_chunks : (n a : ℕ) (ps : List HeldPart) → ArePlaced length n a ps → AreChunks n (chunk_in ps)
placed_chunks n a [] placed i held = let none = none_held_in_nothing i in cc
placed_chunks n a (p ∷ ps) placed i held = elim (in_or_out p i) [
  | inl inside ↦ ap length (chunk_here p ps i inside) ∙ own_length p i inside ∙ ends n p i placed.1 inside
  | inr out ↦ ap length (chunk_there p ps i out) ∙ placed_chunks n (end_of length p) ps placed.2 i (sym (held_there p ps i out) ∙ held)
]
  where
    ends : (n : ℕ) (p : HeldPart) (i : ℕ) → Fits (closed_plan n) p.0 (length p.1) → BeginsIn p i → min 1024 (end_of length p - 1024 * i) ≡ min 1024 (n - 1024 * i)
    ends n p i fits inside = elim (cases_lt 0 (length p.1 % 1024)) [
      | inl ragged ↦ let end = fits.whole refl (λ none. omega (arith, none, ragged)) in omega (arith, end)
      | inr whole ↦ omega (arith, whole, fits.aligned, fits.within, inside.0, inside.1)
    ]

-- ---- bytes and a part that is held

-- n bytes and a part have an offset in common
pub meet : (offset n : ℕ) (q : HeldPart) → q.0 < offset + n → offset < end_of length q → overlaps length offset n q ≡ true
meet offset n q a b =
    let first : nat_lt q.0 (offset + n) ≡ true = grind (arith, nat_tests, a) in
    let second : nat_lt offset (end_of length q) ≡ true = grind (arith, nat_tests, b) in
    rw (first, second) refl

pub meets : (offset n : ℕ) (q : HeldPart) → overlaps length offset n q ≡ true → (q.0 < offset + n) × (offset < end_of length q)
meets offset n q both = elim (cases_lt q.0 (offset + n)) [
  | inr no_first ↦ let test : nat_lt q.0 (offset + n) ≡ false = grind (arith, nat_tests, no_first) in let bad : overlaps length offset n q ≡ false = rw test refl in cc
  | inl first ↦ elim (cases_lt offset (end_of length q)) [
    | inl second ↦ (first, second)
    | inr no_second ↦
        let one : nat_lt q.0 (offset + n) ≡ true = grind (arith, nat_tests, first) in
        let two : nat_lt offset (end_of length q) ≡ false = grind (arith, nat_tests, no_second) in
        let bad : overlaps length offset n q ≡ false = rw (one, two) refl in cc
  ]
]

pub overlap_here : (offset n : ℕ) (q : HeldPart) (qs : List HeldPart) → overlaps length offset n q ≡ true → overlap_at length offset n (q ∷ qs) ≡ Some (max offset q.0)
unfolding overlap_at
overlap_here offset n q qs both = rw (both, overlap_at) refl

pub overlap_later : (offset n : ℕ) (q : HeldPart) (qs : List HeldPart) → overlaps length offset n q ≡ false → overlap_at length offset n (q ∷ qs) ≡ overlap_at length offset n qs
unfolding overlap_at
overlap_later offset n q qs apart = rw (apart, overlap_at) refl

pub no_overlap : (offset n : ℕ) (q : HeldPart) (qs : List HeldPart) → overlap_at length offset n (q ∷ qs) ≡ None → (overlaps length offset n q ≡ false) × (overlap_at length offset n qs ≡ None)
no_overlap offset n q qs none = elim (bool_cases (overlaps length offset n q)) [
  | inl both ↦ let some = overlap_here offset n q qs both in cc
  | inr apart ↦ (apart, sym (overlap_later offset n q qs apart) ∙ none)
]

-- ---- a part more

abbrev pub with_held : HeldPart → List HeldPart → List HeldPart
with_held p ps = insert_entry nat_cmp ps p.0 p.1

-- a part that overlaps none of others
abbrev pub IsApart : HeldPart → List HeldPart → Type 0
IsApart p ps = overlap_at length p.0 (length p.1) ps ≡ None

pub with_held_first : (p q : HeldPart) (qs : List HeldPart) → p.0 < q.0 → with_held p (q ∷ qs) ≡ p ∷ q ∷ qs
with_held_first p q qs before = let c : nat_cmp p.0 q.0 ≡ Less = grind (arith, nat_tests, before) in rw c refl

pub with_held_later : (p q : HeldPart) (qs : List HeldPart) → q.0 < p.0 → with_held p (q ∷ qs) ≡ q ∷ with_held p qs
with_held_later p q qs after = let c : nat_cmp p.0 q.0 ≡ Greater = grind (arith, nat_tests, after) in rw c refl

-- where two parts have no offset in common, one is before the other
pub overlap_order : (p q : HeldPart) → 0 < length p.1 → 0 < length q.1 → overlaps length p.0 (length p.1) q ≡ false → ((p.0 < q.0) × (end_of length p ≤ q.0)) ⊎ ((q.0 < p.0) × (end_of length q ≤ p.0))
overlap_order p q some other apart = elim (cases_lt q.0 (end_of length p)) [
  | inr before ↦ inl (omega (arith, before, some), before)
  | inl reaches ↦ elim (cases_lt p.0 (end_of length q)) [
    | inr after ↦ inr (omega (arith, after, other), after)
    | inl meets ↦ let both = meet p.0 (length p.1) q reaches meets in cc
  ]
]

-- a part goes before the first of others, or after it
pub record GoesLater (p q : HeldPart) (qs : List HeldPart) : Type 0 where
  pub following : end_of length q ≤ p.0
  pub put : with_held p (q ∷ qs) ≡ q ∷ with_held p qs

pub record GoesFirst (p q : HeldPart) (qs : List HeldPart) : Type 0 where
  pub before : end_of length p ≤ q.0
  pub put : with_held p (q ∷ qs) ≡ p ∷ q ∷ qs

pub goes : (p q : HeldPart) (qs : List HeldPart) → 0 < length p.1 → 0 < length q.1 → overlaps length p.0 (length p.1) q ≡ false → GoesFirst p q qs ⊎ GoesLater p q qs
goes p q qs some other apart = elim (overlap_order p q some other apart) [
  | inl before ↦ inl (record { before = before.1; put = with_held_first p q qs before.0 })
  | inr after ↦ inr (record { following = after.1; put = with_held_later p q qs after.0 })
]

-- parts that have no offset in common
apart_from : (p q : HeldPart) (i : ℕ) → overlaps length p.0 (length p.1) q ≡ false → BeginsIn p i → BeginsOut q i
apart_from p q i apart inside = elim (in_or_out q i) [
  | inr out ↦ out
  | inl both ↦ let meets = meet p.0 (length p.1) q (omega (arith, both.0, inside.1)) (omega (arith, inside.0, both.1)) in cc
]

-- the chunks of a part more are the part's own where it has them, and else the others'
chunk_more_in : (n a : ℕ) (p : HeldPart) (ps : List HeldPart) (i : ℕ) → 0 < length p.1 → ArePlaced length n a ps → IsApart p ps → BeginsIn p i → chunk_in (with_held p ps) i ≡ own_chunk p i
chunk_more_in n a p [] i some placed none inside = chunk_here p [] i inside
chunk_more_in n a p (q ∷ qs) i some placed none inside =
    let apart = no_overlap p.0 (length p.1) q qs none in
    elim (goes p q qs some placed.1.some apart.0) [
      | inl first ↦ ap (λ (l : List HeldPart). chunk_in l i) first.put ∙ chunk_here p (q ∷ qs) i inside
      | inr later ↦
          ap (λ (l : List HeldPart). chunk_in l i) later.put ∙ chunk_there q (with_held p qs) i (apart_from p q i apart.0 inside)
          ∙ chunk_more_in n (end_of length q) p qs i some placed.2 apart.1 inside
    ]

chunk_more_out : (n a : ℕ) (p : HeldPart) (ps : List HeldPart) (i : ℕ) → 0 < length p.1 → ArePlaced length n a ps → IsApart p ps → BeginsOut p i → chunk_in (with_held p ps) i ≡ chunk_in ps i
chunk_more_out n a p [] i some placed none out = chunk_there p [] i out
chunk_more_out n a p (q ∷ qs) i some placed none out =
    let apart = no_overlap p.0 (length p.1) q qs none in
    elim (goes p q qs some placed.1.some apart.0) [
      | inl first ↦ ap (λ (l : List HeldPart). chunk_in l i) first.put ∙ chunk_there p (q ∷ qs) i out
      | inr later ↦ ap (λ (l : List HeldPart). chunk_in l i) later.put ∙ elim (in_or_out q i) [
        | inl inside ↦ chunk_here q (with_held p qs) i inside ∙ sym (chunk_here q qs i inside)
        | inr outside ↦ chunk_there q (with_held p qs) i outside ∙ chunk_more_out n (end_of length q) p qs i some placed.2 apart.1 out ∙ sym (chunk_there q qs i outside)
      ]
    ]

held_not_in : (p : HeldPart) (ps : List HeldPart) (i : ℕ) → IsApart p ps → is_held (chunk_in ps) i ≡ true → BeginsOut p i
held_not_in p [] i none held = let no_one = none_held_in_nothing i in cc
held_not_in p (q ∷ qs) i none held =
    let apart = no_overlap p.0 (length p.1) q qs none in
    elim (in_or_out p i) [
      | inr out ↦ out
      | inl inside ↦ held_not_in p qs i apart.1 (sym (held_there q qs i (apart_from p q i apart.0 inside)) ∙ held)
    ]

alone_out : (p : HeldPart) (i : ℕ) → BeginsOut p i → is_held (chunk_in (p ∷ [])) i ≡ false
alone_out p i out = held_there p [] i out ∙ none_held_in_nothing i

alone_in : (p : HeldPart) (i : ℕ) → is_held (chunk_in (p ∷ [])) i ≡ true → BeginsIn p i
alone_in p i held = elim (in_or_out p i) [
  | inl inside ↦ inside
  | inr out ↦ let none = alone_out p i out in cc
]

pub parts_joined : (n : ℕ) (p : HeldPart) (ps : List HeldPart) → 0 < length p.1 → ArePlaced length n 0 ps → IsApart p ps → IsUnionOf (chunk_in ps) (chunk_in (p ∷ [])) (chunk_in (with_held p ps))
parts_joined n p ps some placed none = record {
  left = λ i held. chunk_more_out n 0 p ps i some placed none (held_not_in p ps i none held);
  right = λ i held. let inside = alone_in p i held in chunk_more_in n 0 p ps i some placed none inside ∙ sym (chunk_here p [] i inside);
  apart = λ i held. alone_out p i (held_not_in p ps i none held);
  only = λ i held. elim (in_or_out p i) [
    | inl inside ↦ inr (held_here p [] i inside)
    | inr out ↦ inl (ap (λ (b : List ℕ). nat_lt 0 (length b)) (sym (chunk_more_out n 0 p ps i some placed none out)) ∙ held)
  ];
}

pub placed_more : (n a : ℕ) (p : HeldPart) (ps : List HeldPart) → a ≤ p.0 → Fits (closed_plan n) p.0 (length p.1) → ArePlaced length n a ps → IsApart p ps → ArePlaced length n a (with_held p ps)
placed_more n a p [] from fits placed none = (from, fits, tt)
placed_more n a p (q ∷ qs) from fits placed none =
    let apart = no_overlap p.0 (length p.1) q qs none in
    elim (goes p q qs fits.some placed.1.some apart.0) [
      | inl first ↦ subst (ArePlaced length n a) (sym first.put) (from, fits, (first.before, placed.1, placed.2))
      | inr later ↦ subst (ArePlaced length n a) (sym later.put) (placed.0, placed.1, placed_more n (end_of length q) p qs later.following fits placed.2 apart.1)
    ]
