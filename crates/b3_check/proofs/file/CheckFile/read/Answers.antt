use Rattle.std.proofs.Common.{◌+◌, ap, length, arith}
use Rattle.b3_check.specs.Files.{file_at}
use Rattle.b3_check.proofs.Cuts.{reads_all, reads_cut, reads_more}
use Rattle.b3_check.proofs.file.CheckFile.read.Goals as goal

pub loop-text-init : goal.loop-text-init
loop-text-init c =
    let same = c.into_iter-text-iterator.ensures.into_iter_gives in
    let cut = c.lines-text-items.ensures.value in
    record {
      reported = rw (c.new-lines.ensures.items, same, cut) (reads_cut c.args.bytes.now);
      few = rw same (omega (arith, c.lines-text-items.ensures.len));
    }

pub loop-text-preserved : goal.loop-text-preserved
loop-text-preserved c =
    let rest = c.in-Some.ensures.steps in
    let so_far = rw rest at c.loop-text.invariant.reported in
    record {
      reported = reads_more (c.loop-text.number + 1) c.loop-text.lines.items c.push_line.new.lines.items c.in-Some.text.now c.next.new.self (file_at c.args.bytes.now) c.in_ok-push_line.ensures so_far;
      few = omega (arith, c.loop-text.invariant.few, ap length rest);
    }

pub overflow_add-number : goal.overflow_add-number
overflow_add-number c = omega (arith, c.loop-text.invariant.few, ap length c.in-Some.ensures.steps)

pub returns : goal.returns
returns c =
    let so_far = rw (c.in-None.ensures.steps.0) at c.loop-text.invariant.reported in
    reads_all (c.loop-text.number + 1) c.loop-text.lines.items (file_at c.args.bytes.now) so_far
