use Rattle.std.proofs.Common.{◌≡◌, ◌+◌, ◌-◌, ◌*◌, ◌^◌, ◌≤◌, arith, ap, ◌∙◌, sym}
use Rattle.std.proofs.lemmas.Nat.{pow-add}
use Rattle.std.proofs.Math.Nat.{mul-le-mul_left}
use Rattle.std.proofs.Math.Pow.{pow_mono}
use Rattle.b3_parallel.proofs.sizes.block_limit.Goals as goal

pub returns : goal.returns
returns c n below =
    let rest = 53 - c.args.level in
    let few : 2 ^ rest ≤ 2 ^ 53 = pow_mono {i = rest} {j = 53} (omega arith) in
    let sum : c.args.level + rest ≡ 53 = omega (arith, c.requires) in
    let all : 2 ^ c.args.level * 2 ^ rest ≡ 2 ^ 53 = sym (pow-add 2 c.args.level rest) ∙ ap (λ k. 2 ^ k) sum in
    let up : 2 ^ c.args.level * (n + 1) ≤ 2 ^ c.args.level * 2 ^ rest = mul-le-mul_left (2 ^ c.args.level) (omega (arith, below, few)) in
    omega (arith, up, all)
