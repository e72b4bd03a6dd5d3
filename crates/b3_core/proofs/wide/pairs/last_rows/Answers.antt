use Rattle.std.proofs.Common.{◌∙◌, ◌/◌, ◌%◌, ◌^◌, arith, ap, refl}
use Rattle.b3_core.proofs.EachRow.{only_two}
use Rattle.b3_core.proofs.wide.pairs.last_rows.Goals as goal

pub returns : goal.returns
returns c =
    only_two _
    (c.low.ensures ∙ ap (λ n. n % 2 ^ 32) (omega arith), c.high.ensures ∙ ap (λ n. n / 2 ^ 32) (omega arith), refl, refl)
    (c.low-2.ensures, c.high-2.ensures, refl, refl)
