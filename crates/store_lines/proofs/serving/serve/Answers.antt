use Rattle.std.proofs.Common.{rules, ◌≡◌}
use Rattle.std.specs.Io.KnownBytes.{Appends}
use Rattle.edge.specs.Output.{WroteSome}
use Rattle.store_core.specs.Carried.{IsCarried}
use Rattle.store_lines.specs.Access.{alone_stands}
use Rattle.store_lines.specs.Owning.{alone}
use Rattle.store_lines.specs.Script.{widest_start}
use Rattle.store_lines.specs.Turns.{Finishes}
use Rattle.store_lines.proofs.Alone.{from_empty, to_lawful}
use Rattle.store_lines.proofs.Owned.{served_all, served_some}
use Rattle.store_lines.proofs.serving.serve.Goals as goal

pub returns-clause-written : goal.returns-clause-written
returns-clause-written g c =
    let is : c.new-store.result ≡ widest_start = search rules in
    let new = c.serve_over-ended.new.access in
    served_all alone (alone_stands c.new-store.result) (alone_stands widest_start) (Finishes alone (alone_stands new)) (Finishes alone (λ last. IsCarried last.store)) (from_empty c.new-store.result is) (to_lawful new c.journal-lawful.ensures.carried)
    c.serve_over-ended.result (g.R.Read.remaining c.args.reader.now) (g.W.Write.contents c.args.writer.now) (g.W.Write.contents c.serve_over-ended.new.writer) c.serve_over-ended.ensures.written

pub returns-clause-read : goal.returns-clause-read
returns-clause-read g c = λ failed.
    let is : c.new-store.result ≡ widest_start = search rules in
    let new = c.serve_over-ended.new.access in
    served_some alone (alone_stands c.new-store.result) (alone_stands widest_start) (Finishes alone (alone_stands new)) (Finishes alone (λ last. IsCarried last.store)) (from_empty c.new-store.result is) (to_lawful new c.journal-lawful.ensures.carried)
    (Appends (g.W.Write.contents c.args.writer.now) (g.W.Write.contents c.serve_over-ended.new.writer)) (g.R.Read.remaining c.args.reader.now) (c.serve_over-ended.ensures.read failed)

pub returns-clause-failed : goal.returns-clause-failed
returns-clause-failed g c = λ failed.
    let is : c.new-store.result ≡ widest_start = search rules in
    let new = c.serve_over-ended.new.access in
    served_some alone (alone_stands c.new-store.result) (alone_stands widest_start) (Finishes alone (alone_stands new)) (Finishes alone (λ last. IsCarried last.store)) (from_empty c.new-store.result is) (to_lawful new c.journal-lawful.ensures.carried)
    (WroteSome (g.W.Write.contents c.args.writer.now) (g.W.Write.contents c.serve_over-ended.new.writer)) (g.R.Read.remaining c.args.reader.now) (c.serve_over-ended.ensures.failed failed)
