use Rattle.std.proofs.lemmas.Result.{err_from_is_err_and}
use Rattle.hash_engines.proofs.FileSums.{one_name_more, stopped_at}
use Rattle.hash_engines.proofs.summing.sum_files.Goals as goal

pub returns-in_err-found-clause-stopped : goal.returns-in_err-found-clause-stopped
returns-in_err-found-clause-stopped g c =
    let p = err_from_is_err_and c.from_residual.result c.from_residual.ensures.1 in
    rw (p.1, p.2) (stopped_at g.S.Sources.gives g.S.Sources.reports c.args.lines.now.length c.args.sources.now c.expect.new.self c.sum_file.new.sources c.args.lines.now.names.now c.loop-index.index c.index-names-index.result c.loop-index.verdict
    (g.W.Write.contents c.args.writer.now) (g.W.Write.contents c.loop-index.writer) (g.W.Write.contents c.sum_file.new.writer) c.in_err-found.field-0.0
    c.loop-index-test.true c.index-names-index.is (rw c.expect.ensures c.loop-index.invariant) (rw (← c.as_bytes-name.ensures.value) c.in_err-found.ensures.stopped))

pub loop-index-preserved : goal.loop-index-preserved
loop-index-preserved g c =
    one_name_more g.S.Sources.gives g.S.Sources.reports c.args.lines.now.length c.args.sources.now c.expect.new.self c.sum_file.new.sources c.args.lines.now.names.now c.loop-index.index c.index-names-index.result c.loop-index.verdict c.in_ok-found.found c.both-verdict.result
    (g.W.Write.contents c.args.writer.now) (g.W.Write.contents c.loop-index.writer) (g.W.Write.contents c.sum_file.new.writer)
    c.loop-index-test.true c.index-names-index.is (rw c.expect.ensures c.loop-index.invariant) (rw (← c.as_bytes-name.ensures.value) c.in_ok-found.ensures.summed) c.both-verdict.ensures
