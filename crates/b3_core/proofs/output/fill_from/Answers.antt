use Rattle.std.proofs.Common.{◌≡◌, ◌+◌, ◌-◌, ◌*◌, ◌%◌, ◌≤◌, length, rules, arith}
use Rattle.std.proofs.lemmas.Slice.{overwrites}
use Rattle.b3_core.proofs.OutputBytes.{part_more}
use Rattle.b3_core.proofs.output.fill_from.Goals as goal

pub blocks-2-preserved : goal.blocks-2-preserved
blocks-2-preserved c =
    let l = c.blocks-2 in
    let skip = (c.args.start + l.done) % 64 in
    let n = c.min-count.result in
    let width : skip + n - skip ≡ n = omega arith in
    let fits : l.done ≤ length l.out = omega arith in
    record {
      len = search (rules, overwrites);
      place = omega arith;
      bytes =
          part_more c.args.root.now c.args.start l.done n _ (64 * l.i) skip l.out _ c.output_block-block.result
          l.invariant.bytes fits c.output_block-block.ensures.bytes (rw width at c.copy_from_slice.ensures.after) (omega arith) (omega arith);
      work = omega arith;
    }
