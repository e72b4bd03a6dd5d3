use Rattle.std.proofs.Common.{◌≡◌, ◌∙◌, ◌+◌, ◌<◌, ℕ, suc, zero, List, [], ◌∷◌, arith, ap, length, refl, sym}
use Rattle.std.proofs.lemmas.Bool.{false≢true}
use Rattle.std.proofs.lemmas.Map.Keys.{ge_from_not_lt}
use Rattle.store_upload.specs.Uploads.{last_end}
use Rattle.store_upload.proofs.Places.{ends_within, last_is}
use Rattle.store_upload.proofs.parts.last_end.Goals as goal

pub overflow_add-result : goal.overflow_add-result
overflow_add-result g c =
    let ends = ends_within g.P.Length.len 0 c.requires.0 c.in-Some.start.now c.in-Some.part.now c.args.parts.now.entries c.requires.2 c.in-Some.ensures.value in
    let fits = c.requires.1 in
    omega (arith, ends, fits, c.length.ensures)

pub returns-in-Some : goal.returns-in-Some
returns-in-Some g c =
    let n = c.in-Some.start.now in
    ap (λ m. n + m) c.length.ensures
    ∙ sym (last_is g.P.Length.len 0 c.requires.0 n c.in-Some.part.now c.args.parts.now.entries c.requires.2 c.in-Some.ensures.value (λ q there. ge_from_not_lt n q (c.in-Some.ensures.greatest q there)))

no_end : {P : Type 0} (len : P → ℕ) (es : List (ℕ × P)) → length es ≡ 0 → last_end len es ≡ 0
unfolding last_end
no_end len [] none = refl
no_end len (e ∷ es) none = absurd (omega (arith, none))

none_from : (n : ℕ) → (0 < n → ⊥) → n ≡ 0
none_from zero f = refl
none_from (suc n) f = absurd (f (omega arith))

pub returns-in-None : goal.returns-in-None
returns-in-None g c = sym (no_end g.P.Length.len c.args.parts.now.entries (none_from (length c.args.parts.now.entries) (λ some. false≢true (c.in-None.ensures.variant.1 some))))
