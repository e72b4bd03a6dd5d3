use Rattle.std.proofs.Common.{Bor, List, [], ℕ}
use Rattle.std.proofs.lemmas.Result.{err_from_is_err_and}
use Rattle.b3_check.proofs.Truncations.{truncated_at}
use Rattle.b3_check.proofs.output.write_slices.Goals as goal

pub returns-in_err-write_whole-clause-failed : goal.returns-in_err-write_whole-clause-failed
returns-in_err-write_whole-clause-failed g c =
    let p = err_from_is_err_and c.from_residual.result c.from_residual.ensures.1 in
    rw (p.1) (truncated_at (λ (slice : Bor (List ℕ)). slice.now) (g.W.Write.contents c.args.writer.now) (g.W.Write.contents c.loop-slice.writer) (g.W.Write.contents c.write_whole.new.writer) c.args.slices.now c.loop-slice.slice-index
    (record { ref_ptr = (0, 0); now = [] }) c.loop-slice-test.true c.loop-slice.invariant c.in_err-write_whole.ensures.failed)
