use Rattle.std.proofs.Common.{rules, ◌≡◌, sym}
use Rattle.std.specs.Io.KnownBytes.{Appends}
use Rattle.edge.specs.Output.{WroteSome}
use Rattle.store_lines.specs.Owning.{session_of}
use Rattle.store_lines.specs.Turns.{Finishes}
use Rattle.store_lines.specs.inner.Reporting.{Owns}
use Rattle.store_lines.proofs.Owned.{finished, served_all, served_some}
use Rattle.store_lines.proofs.serving.serve_over.Goals as goal

pub returns-clause-written : goal.returns-clause-written
returns-clause-written g c =
    let was = g.A.Access.stands c.args.access.now in
    let mid = g.A.Access.stands c.serve_lines-ended.new.access in
    let is = g.A.Access.stands c.abort_all.new.access in
    let own = c.serve_lines-ended.new.own.numbers.items in
    let session = session_of g.A.Access.reach c.new-own.result.at_end in
    let same : c.new-own.result.at_end ≡ c.args.at_end = search rules in
    rw (sym same) (served_all session was was (Owns session mid own) (Finishes session is) (λ start stood. stood) (finished session mid is own c.abort_all.ensures.aborted) c.serve_lines-ended.result (g.R.Read.remaining c.args.reader.now) (g.W.Write.contents c.args.writer.now) (g.W.Write.contents c.serve_lines-ended.new.writer) c.serve_lines-ended.ensures.written)

pub returns-clause-read : goal.returns-clause-read
returns-clause-read g c = λ failed.
    let was = g.A.Access.stands c.args.access.now in
    let mid = g.A.Access.stands c.serve_lines-ended.new.access in
    let is = g.A.Access.stands c.abort_all.new.access in
    let own = c.serve_lines-ended.new.own.numbers.items in
    let session = session_of g.A.Access.reach c.new-own.result.at_end in
    let same : c.new-own.result.at_end ≡ c.args.at_end = search rules in
    rw (sym same) (served_some session was was (Owns session mid own) (Finishes session is) (λ start stood. stood) (finished session mid is own c.abort_all.ensures.aborted) (Appends (g.W.Write.contents c.args.writer.now) (g.W.Write.contents c.serve_lines-ended.new.writer)) (g.R.Read.remaining c.args.reader.now) (c.serve_lines-ended.ensures.read failed))

pub returns-clause-failed : goal.returns-clause-failed
returns-clause-failed g c = λ failed.
    let was = g.A.Access.stands c.args.access.now in
    let mid = g.A.Access.stands c.serve_lines-ended.new.access in
    let is = g.A.Access.stands c.abort_all.new.access in
    let own = c.serve_lines-ended.new.own.numbers.items in
    let session = session_of g.A.Access.reach c.new-own.result.at_end in
    let same : c.new-own.result.at_end ≡ c.args.at_end = search rules in
    rw (sym same) (served_some session was was (Owns session mid own) (Finishes session is) (λ start stood. stood) (finished session mid is own c.abort_all.ensures.aborted) (WroteSome (g.W.Write.contents c.args.writer.now) (g.W.Write.contents c.serve_lines-ended.new.writer)) (g.R.Read.remaining c.args.reader.now) (c.serve_lines-ended.ensures.failed failed))
