use Rattle.std.proofs.Common.{rules, ◌≡◌, subst}
use Rattle.b3_check.specs.Files.{file_at}
use Rattle.hash_engines.specs.Checks.{IsCut}
use Rattle.edge.proofs.Inputs.{known}
use Rattle.hash_engines.proofs.Flushing.{cut_after}
use Rattle.hash_engines.proofs.checking.check.Goals as goal

pub returns-clause-stopped : goal.returns-clause-stopped
returns-clause-stopped g c =
    let report = c.in_ok-counts.ensures.report in
    let before = g.W.Write.contents c.args.writer.now in
    let last = g.W.Write.contents c.flush.new.self in
    let input = c.in-Ok.input.items in
    let file : c.in_ok-file.file ≡ file_at input = search rules in
    known (g.R.Read.remaining c.args.reader.now) input (λ x. IsCut g.N.Names.gives c.args.options c.args.names.now (file_at x) c.verify.new.names before last) c.in-Ok.ensures.bytes
    (subst (λ lines. IsCut g.N.Names.gives c.args.options c.args.names.now lines c.verify.new.names before last) file
    (cut_after g.N.Names.gives c.args.options c.args.names.now c.in_ok-file.file c.verify.new.names before (g.W.Write.contents c.verify.new.writer) last report.0 report.1 report.3 c.flush.ensures.bytes))
