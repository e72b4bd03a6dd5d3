use Rattle.std.proofs.Common.{◌≡◌, ◌+◌, ◌*◌, ◌/◌, ◌%◌, ◌^◌, ℕ, arith, length, ap, subst, sym}
use Rattle.std.proofs.Math.Nat.{div-add-mod}
use Rattle.b3_core.specs.Tree.{IsSubtree}
use Rattle.b3_parallel.proofs.Standing.{subtree_after}
use Rattle.b3_parallel.proofs.parts.part_of.Goals as goal

-- the chunks before an offset that is a multiple of a part
chunks_before : (start size : ℕ) → start % (1024 * size) ≡ 0 → (i : ℕ) × (start / 1024 ≡ size * i)
chunks_before start size whole =
    let i = start / (1024 * size) in
    let sum : 1024 * size * i + start % (1024 * size) ≡ start = div-add-mod start (1024 * size) in
    let all : 1024 * size * i ≡ 1024 * (size * i) = omega arith in
    (i, omega (arith, sum, whole, all))

pub of_subtree-top-requires-clause-subtree : goal.of_subtree-top-requires-clause-subtree
of_subtree-top-requires-clause-subtree g c =
    let (level, len) = c.requires.len in
    let size = 2 ^ level in
    let before = chunks_before c.args.start size (rw len at c.requires.start) in
    let place : c.args.number + c.args.start / 1024 ≡ c.args.number + size * before.0 = ap (λ n. c.args.number + n) before.1 in
    subst (λ n. IsSubtree (length c.args.bytes.now) n) (sym place)
    (subst (λ n. IsSubtree n (c.args.number + size * before.0)) (sym len) (subtree_after level c.args.number before.0 (rw len at c.requires.subtree)))
