use Rattle.std.proofs.Common.{◌≡◌, ℕ, ◌+◌, ◌*◌, ◌^◌, ◌<◌, ◌++◌, List, length, arith, rules, ap, sym, ◌∙◌, subst, append_assoc, length-append}
use Rattle.b3_core.specs.Hashers.{HasInput}
use Rattle.b3_core.proofs.Hashings.{makes_then}
use Rattle.b3_parallel.specs.inner.Parts.{AreHashedParts, AreAfter}
use Rattle.b3_parallel.proofs.Standing.{whole_front}
use Rattle.b3_parallel.proofs.updating.update_in_parts.Goals as goal

pub parts_of-requires-clause-whole : goal.parts_of-requires-clause-whole
parts_of-requires-clause-whole g c κs within =
    let size = c.bytes_of-size.ensures.value in
    rw (c.split_at.ensures.front_len, size) (whole_front (length c.args.bytes.now) (1024 * 2 ^ c.args.level))

-- the parts follow what the hasher was given
stand : (g : _) (c : goal.After-update g) (x : List ℕ) → HasInput c.args.hasher.now x → length x + length c.args.bytes.now < 2 ^ 64
    → AreAfter c.args.hasher.now c.args.level c.in-Ok.parts.items x c.split_at.result.0.now
stand g c x held few =
    let made : AreHashedParts c.mode-mode.result c.split_at.result.0.now c.args.level c.number-number.result c.in-Ok.parts.items = search (rules, c.parts_of.ensures, c.in-Ok) in
    (held, c.requires.fits, omega (arith, few, c.split_at.ensures.front_len), rw (c.mode-mode.ensures, c.number-number.ensures.value) at made)

-- both sides are the bytes
cut : (g : _) (c : goal.After-update g) → c.args.bytes.now ≡ c.split_at.result.0.now ++ c.split_at.result.1.now
cut g c = search (rules, c.split_at.ensures)

front_held : (g : _) (c : goal.After-update g) (x : List ℕ) → HasInput c.args.hasher.now x → length x + length c.args.bytes.now < 2 ^ 64
    → HasInput c.append_all.new.hasher (x ++ c.split_at.result.0.now)
front_held g c x held few = c.append_all.ensures.bytes x c.split_at.result.0.now (stand g c x held few)

room : (g : _) (c : goal.After-update g) (x : List ℕ) → length x + length c.args.bytes.now < 2 ^ 64 → length (x ++ c.split_at.result.0.now) + length c.split_at.result.1.now < 2 ^ 64
room g c x few = omega (arith, few, ap length (cut g c), length-append c.split_at.result.0.now c.split_at.result.1.now, length-append x c.split_at.result.0.now)

pub returns-in-Ok-clause-bytes : goal.returns-in-Ok-clause-bytes
returns-in-Ok-clause-bytes g c x held few =
    subst (HasInput c.update.new.self) (append_assoc x c.split_at.result.0.now c.split_at.result.1.now ∙ ap (λ y. x ++ y) (sym (cut g c)))
    (c.update.ensures.bytes (x ++ c.split_at.result.0.now) (front_held g c x held few) (room g c x few))

pub returns-in-Ok-clause-count : goal.returns-in-Ok-clause-count
returns-in-Ok-clause-count g c x held few =
    makes_then _ _ _ _ _ _ (c.append_all.ensures.count x c.split_at.result.0.now (stand g c x held few))
    (c.update.ensures.count (x ++ c.split_at.result.0.now) (front_held g c x held few) (room g c x few))
