use Rattle.std.proofs.Common.{rules, refl, Ok, Err}
use Rattle.std.specs.Io.KnownBytes.{Appends}
use Rattle.std.proofs.KnownBytes.{Appends-nil}
use Rattle.hash_engines.specs.Sums.{root_text}
use Rattle.hash_engines.specs.declared.sources.FileFault.TheVariants.{Failed}
use Rattle.hash_engines.proofs.summing.sum_file.Goals as goal

pub returns-in_ok-write_root-in-Ok-clause-summed : goal.returns-in_ok-write_root-in-Ok-clause-summed
returns-in_ok-write_root-in-Ok-clause-summed g c =
    let given : g.S.Sources.gives c.args.sources.now c.args.line.now.name.now (Ok c.in-Ok.root) c.root_of.new.self = search rules in
    let wrote : Appends (g.W.Write.contents c.args.writer.now) (g.W.Write.contents c.write_root.new.writer) (root_text c.args.line.now.length c.args.line.now.name.now c.in-Ok.root) = search rules in
    record { answer = Ok c.in-Ok.root; answered = given; wrote = wrote; good = refl }

pub returns-in-Err-Failed-clause-summed : goal.returns-in-Err-Failed-clause-summed
returns-in-Err-Failed-clause-summed g c =
    let reason = c.in-Err-Failed.reason in
    let given : g.S.Sources.gives c.args.sources.now c.args.line.now.name.now (Err (Failed reason)) c.root_of.new.self = search rules in
    let reported : g.S.Sources.reports c.root_of.new.self c.args.line.now.name.now reason c.report.new.self = search rules in
    record { answer = Err reason; answered = (c.root_of.new.self, given, reported); wrote = Appends-nil (g.W.Write.contents c.args.writer.now); good = refl }
