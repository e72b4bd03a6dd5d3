use Rattle.std.proofs.Common.{rules, refl}
use Rattle.store_lines.proofs.LineOutcomes.{request_asked, request_done, request_listed, request_put}
use Rattle.store_lines.proofs.answer.answer_request.Goals as goal

pub returns-in-Does : goal.returns-in-Does
returns-in-Does c = request_done c.args.store.now c.run_command.new.store c.args.request c.in-Does.command c.run_command.result _ _ (search rules) c.run_command.ensures (refl, refl)

pub returns-in-Asks : goal.returns-in-Asks
returns-in-Asks c = request_asked c.args.store.now c.args.request c.in-Asks.question c.ask.result _ _ (search rules) c.ask.ensures (refl, refl)

pub returns-in-Entries : goal.returns-in-Entries
returns-in-Entries c = request_listed c.args.store.now c.args.request c.in-Entries.range (search rules)

pub returns-in-Put : goal.returns-in-Put
returns-in-Put c = request_put c.args.store.now c.put_bytes.new.access c.args.request c.in-Put.part c.put_bytes.result (search rules) c.put_bytes.ensures
