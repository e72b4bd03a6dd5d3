-- Which chunks are a subtree.
use Rattle.std.proofs.Common.{◌≡◌, ℕ, ◌+◌, ◌-◌, ◌*◌, ◌/◌, ◌%◌, ◌^◌, ◌<◌, ◌≤◌, max, arith, ap, sym, ◌∙◌, add-one, inl, inr}
use Rattle.std.proofs.lemmas.Bool.{cases_lt}
use Rattle.std.proofs.lemmas.Nat.{div-add-mod', mod-mul-add, pow-add, pow_pos}
use Rattle.std.proofs.Math.Nat.{two-pow-succ}
use Rattle.std.proofs.Math.Pow.{pow_mono}
use Rattle.b3_core.specs.Tree.{IsSubtree, chunk_count}

-- a multiple of a multiple
times : (q a b : ℕ) → q * (a * b) ≡ q * a * b
times q a b = grind arith

-- a power of two that divides the chunks' number and is no less than their count
pub subtree_at : (n c k : ℕ) → (n ≡ 0 → c ≡ 0) → chunk_count n ≤ 2 ^ k → c % 2 ^ k ≡ 0 → IsSubtree n c
subtree_at n c k empty few divides = (empty, k, c / 2 ^ k, few, omega (arith, div-add-mod' c (2 ^ k), divides))

-- the least power of two that is no less than the count divides the number of a subtree
pub subtree_divides : (n c m : ℕ) → 2 ^ m / 2 < max 1 (chunk_count n) → IsSubtree n c → c % 2 ^ m ≡ 0
subtree_divides n c m least (empty, k, q, few, is) = elim (cases_lt k m) [
  | inl less ↦
      let up : 2 ^ (k + 1) ≤ 2 ^ m = pow_mono (omega (arith, less)) in
      let double : 2 ^ (k + 1) ≡ 2 ^ k + 2 ^ k = rw add-one (two-pow-succ k) in
      absurd (omega (arith, up, double, few, least))
  | inr no_less ↦
      let rest : k - m + m ≡ k = omega (arith, no_less) in
      let both : 2 ^ k ≡ 2 ^ (k - m) * 2 ^ m = ap (λ i. 2 ^ i) (sym rest) ∙ pow-add 2 (k - m) m in
      let number : c ≡ q * 2 ^ (k - m) * 2 ^ m + 0 = omega (arith, is, ap (λ i. q * i) both, times q (2 ^ (k - m)) (2 ^ m)) in
      ap (λ i. i % 2 ^ m) number ∙ mod-mul-add (q * 2 ^ (k - m)) (2 ^ m) 0 (pow_pos m)
]
