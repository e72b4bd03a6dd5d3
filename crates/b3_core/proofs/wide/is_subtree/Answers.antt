use Rattle.std.proofs.Common.{◌≡◌, ◌/◌, ◌%◌, ◌^◌, ◌<◌, ◌≤◌, max, arith, ap, sym, ◌∙◌}
use Rattle.std.proofs.lemmas.Bool.Decides.{nat_tests}
use Rattle.b3_core.specs.Tree.{chunk_count}
use Rattle.b3_core.proofs.SubtreePlaces.{subtree_at, subtree_divides}
use Rattle.b3_core.proofs.wide.is_subtree.Goals as goal

pub returns-then-len-gt0 : goal.returns-then-len-gt0
returns-then-len-gt0 c =
    let (k, is) = c.next_power_of_two.ensures.power in
    let few : chunk_count c.args.len ≤ 2 ^ k = omega (arith, c.div_ceil.ensures, c.max-chunks.ensures, c.next_power_of_two.ensures.lower_bound, is) in
    let divides : c.args.number % 2 ^ k ≡ 0 = sym (ap (λ w. c.args.number % w) is) ∙ c.if-number-next_power_of_two-eq0.true in
    (λ _. subtree_at c.args.len c.args.number k (λ none. absurd (omega (arith, none, c.if-len-gt0.true))) few divides, λ _. grind (arith, nat_tests, c.if-len-gt0.true))

pub returns-else-number-next_power_of_two-eq0 : goal.returns-else-number-next_power_of_two-eq0
returns-else-number-next_power_of_two-eq0 c =
    let (k, is) = c.next_power_of_two.ensures.power in
    let least : 2 ^ k / 2 < max 1 (chunk_count c.args.len) = omega (arith, c.div_ceil.ensures, c.max-chunks.ensures, c.next_power_of_two.ensures.upper_bound, is) in
    let no = c.if-number-next_power_of_two-eq0.false in (
      (λ yes. absurd (no (grind (arith, nat_tests, yes)))),
      (λ at. absurd (no (ap (λ w. c.args.number % w) is ∙ subtree_divides c.args.len c.args.number k least at))),
    )
