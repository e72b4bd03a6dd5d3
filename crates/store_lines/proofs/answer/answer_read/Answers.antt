use Rattle.std.proofs.Common.{rules, refl}
use Rattle.store_lines.proofs.LineOutcomes.{read_bad, read_lacks, read_nothing, read_request}
use Rattle.store_lines.proofs.Told.{nothing_told, read_told, request_untold}
use Rattle.store_lines.proofs.answer.answer_read.Goals as goal

pub returns-in-Empty-clause-answered : goal.returns-in-Empty-clause-answered
returns-in-Empty-clause-answered g c = read_nothing c.args.store.now c.args.read c.args.line.now _ _ c.script_line.result (search rules) c.script_line.ensures refl refl

pub returns-in-Empty-clause-told : goal.returns-in-Empty-clause-told
returns-in-Empty-clause-told g c = nothing_told g.F.BadLines.tells c.args.faults.now c.args.number c.args.read c.args.line.now c.script_line.result (search rules) c.script_line.ensures

pub returns-in-Bad-clause-answered : goal.returns-in-Bad-clause-answered
returns-in-Bad-clause-answered g c = read_bad c.args.store.now c.args.read c.args.line.now _ _ c.script_line.result c.in-Bad.fault (search rules) c.script_line.ensures (refl, refl)

pub returns-in-Bad-clause-told : goal.returns-in-Bad-clause-told
returns-in-Bad-clause-told g c = read_told g.F.BadLines.tells c.args.faults.now c.tell.new.self c.args.number c.args.read c.args.line.now c.script_line.result c.in-Bad.fault (search rules) c.script_line.ensures c.tell.ensures

pub returns-in-NoMemory-clause-memory : goal.returns-in-NoMemory-clause-memory
returns-in-NoMemory-clause-memory g c = read_lacks c.args.read c.args.line.now c.script_line.result (search rules) c.script_line.ensures

pub returns-in-Has-clause-answered : goal.returns-in-Has-clause-answered
returns-in-Has-clause-answered g c = read_request c.args.store.now c.answer_request.new.store c.args.read c.args.line.now _ _ c.script_line.result c.in-Has.request (search rules) c.script_line.ensures c.answer_request.ensures

pub returns-in-Has-clause-told : goal.returns-in-Has-clause-told
returns-in-Has-clause-told g c = request_untold g.F.BadLines.tells c.args.faults.now c.args.number c.args.read c.args.line.now c.script_line.result c.in-Has.request (search rules) c.script_line.ensures
