use Rattle.std.proofs.Common.{arith, ◌*◌, ◌+◌, ◌∙◌, slice_index, sym}
use Rattle.std.proofs.lemmas.Bool.{and_parts}
use Rattle.hex.proofs.Pairs.{decode_done, decode_step}
use Rattle.edge.proofs.DigitPairs.{pair_is}
use Rattle.edge.proofs.digits.decode_into.Goals as goal

pub bytes-preserved : goal.bytes-preserved
bytes-preserved c = λ good.
    let high = slice_index c.args.digits.now (2 * c.bytes.i) in
    let low = slice_index c.args.digits.now (2 * c.bytes.i + 1) in
    let before = and_parts c.bytes.good _ good in
    let both = and_parts c.is_digit.result c.is_digit-in-bytes.result before.1 in
    let pair = pair_is high low (2 * c.bytes.i) c.worth.result c.worth-in-bytes.result (sym c.is_digit.ensures ∙ both.0) (sym c.is_digit-in-bytes.ensures ∙ both.1) c.worth.ensures.value c.worth-in-bytes.ensures.value in
    decode_step c.args.digits.now c.bytes.bytes c.bytes.i _ (omega arith) (omega arith) pair (c.bytes.invariant before.0)

pub returns : goal.returns
returns c = λ good. decode_done _ c.bytes.bytes c.bytes.i (omega arith) (omega arith) (c.bytes.invariant good)
