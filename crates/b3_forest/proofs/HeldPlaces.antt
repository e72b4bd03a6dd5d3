-- Where parts overlap.
use Rattle.std.proofs.Common.{◌≡◌, ℕ, ◌+◌, ◌*◌, ◌/◌, ◌%◌, ◌<◌, ◌≤◌, List, [], ◌∷◌, length, Some, None, true, false, arith, ap, sym, ◌∙◌, inl, inr, refl}
use Rattle.std.specs.Prelude.{max}
use Rattle.std.proofs.lemmas.Bool.{cases_lt}
use Rattle.store_upload.specs.Uploads.{ArePlaced, end_of, overlap_at, overlaps}
use Rattle.b3_forest.specs.inner.Subtrees.{IsLeastHeld, NoneHeld, is_held}
use Rattle.b3_forest.specs.Parts.{HeldPart, chunk_in}
use Rattle.b3_forest.proofs.HeldParts.{none_held_in_nothing, BeginsOut, in_or_out, meet, meets, not_both, held_here, held_there, held_after, overlap_here, overlap_later}
use Rattle.b3_forest.proofs.OneForest.{bool_cases}

-- the chunk past n bytes
abbrev pub chunk_end : ℕ → ℕ → ℕ
chunk_end offset n = (offset + n + 1023) / 1024

not_held_rest : (p : HeldPart) (ps : List HeldPart) (i : ℕ) → is_held (chunk_in (p ∷ ps)) i ≡ false → BeginsOut p i × (is_held (chunk_in ps) i ≡ false)
not_held_rest p ps i none = elim (in_or_out p i) [
  | inl inside ↦ let held = held_here p ps i inside in cc
  | inr out ↦ (out, sym (held_there p ps i out) ∙ none)
]

-- the chunk in which bytes and a part begin to overlap
meeting : (offset : ℕ) (q : HeldPart) → offset % 1024 ≡ 0 → q.0 % 1024 ≡ 0 → (i : ℕ) × (max offset q.0 ≡ 1024 * i)
meeting offset q first second = elim (cases_lt offset q.0) [
  | inl less ↦ (q.0 / 1024, omega (arith, second, less))
  | inr more ↦ (offset / 1024, omega (arith, first, more))
]

pub overlap_none : (m a offset n : ℕ) (ps : List HeldPart) → 0 < n → offset % 1024 ≡ 0 → ArePlaced length m a ps → NoneHeld (chunk_in ps) (offset / 1024) (chunk_end offset n) → overlap_at length offset n ps ≡ None
unfolding overlap_at
overlap_none m a offset n [] some aligned placed none = refl
overlap_none m a offset n (q ∷ qs) some aligned placed none = elim (bool_cases (overlaps length offset n q)) [
  | inl both ↦
      let t = meets offset n q both in
      let at = meeting offset q aligned placed.1.aligned in
      let i = at.0 in
      let low : offset ≤ 1024 * i = omega (arith, at.1) in
      let high : q.0 ≤ 1024 * i = omega (arith, at.1) in
      let ends : 1024 * i < offset + n = omega (arith, at.1, t.0, some) in
      let other : 1024 * i < end_of length q = omega (arith, at.1, t.1, placed.1.some) in
      let out = (not_held_rest q qs i (none i (omega (arith, low)) (omega (arith, ends)))).0 in
      absurd (not_both q i (high, other) out)
  | inr apart ↦ overlap_later offset n q qs apart ∙ overlap_none m (end_of length q) offset n qs some aligned placed.2 (λ i after before. (not_held_rest q qs i (none i after before)).1)
]

pub overlap_least : (m a offset n c : ℕ) (ps : List HeldPart) → 0 < n → offset % 1024 ≡ 0 → ArePlaced length m a ps → IsLeastHeld (chunk_in ps) (offset / 1024) (chunk_end offset n) c
    → overlap_at length offset n ps ≡ Some (1024 * c)
unfolding overlap_at
overlap_least m a offset n c [] some aligned placed least = let held = least.held in let none = none_held_in_nothing c in cc
overlap_least m a offset n c (q ∷ qs) some aligned placed least =
    let inside : offset ≤ 1024 * c = omega (arith, least.after, aligned) in
    let below : 1024 * c < offset + n = omega (arith, least.before, aligned) in
    elim (in_or_out q c) [
      | inl here ↦
          let both = meet offset n q (omega (arith, here.0, below)) (omega (arith, inside, here.1)) in
          let at = meeting offset q aligned placed.1.aligned in
          let low : max offset q.0 ≤ 1024 * c = omega (arith, inside, here.0) in
          let first : max offset q.0 ≡ 1024 * c = elim (cases_lt at.0 c) [
            | inl earlier ↦
                let out = (not_held_rest q qs at.0 (least.least at.0 (omega (arith, at.1)) earlier)).0 in
                absurd (not_both q at.0 (omega (arith, at.1), omega (arith, at.1, low, here.1)) out)
            | inr later ↦ omega (arith, at.1, low, later)
          ] in
          overlap_here offset n q qs both ∙ ap Some first
      | inr out ↦
          let held : is_held (chunk_in qs) c ≡ true = sym (held_there q qs c out) ∙ least.held in
          let following = held_after m (end_of length q) c qs placed.2 held in
          let apart : overlaps length offset n q ≡ false = elim (bool_cases (overlaps length offset n q)) [
            | inr apart ↦ apart
            | inl both ↦
                let t = meets offset n q both in
                let at = meeting offset q aligned placed.1.aligned in
                let earlier : at.0 < c = omega (arith, at.1, t.1, following.0, inside, placed.1.some) in
                let first = (not_held_rest q qs at.0 (least.least at.0 (omega (arith, at.1)) earlier)).0 in
                absurd (not_both q at.0 (omega (arith, at.1), omega (arith, at.1, t.1, placed.1.some)) first)
          ] in
          overlap_later offset n q qs apart ∙ overlap_least m (end_of length q) offset n c qs some aligned placed.2 (record {
            after = least.after;
            before = least.before;
            held = held;
            least = λ i after before. (not_held_rest q qs i (least.least i after before)).1;
          })
    ]
