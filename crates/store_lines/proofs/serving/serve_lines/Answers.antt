use Rattle.std.proofs.Common.{rules, ◌≡◌, ◌∙◌, refl, ◌≤◌, ◌<◌, Err, arith, false, inl, inr, subst, sym, true, vec_capacity, List, ℕ}
use Rattle.std.specs.Prelude.{IfSome}
use Rattle.std.specs.Io.KnownBytes.{Appends}
use Rattle.std.proofs.KnownBytes.{Appends-trans}
use Rattle.edge.specs.Output.{WroteSome}
use Rattle.edge.proofs.Output.{some_after}
use Rattle.edge.specs.declared.outcome.Cause.TheVariants as causes
use Rattle.store_lines.specs.Lines.{max_request}
use Rattle.store_lines.specs.inner.Requests.{IsFound}
use Rattle.edge.specs.declared.outcome.Verdict.TheVariants as verdicts
use Rattle.store_lines.specs.Owning.{session_of}
use Rattle.store_lines.specs.Turns.{ServedAllOver, ServedSomeOver}
use Rattle.store_lines.specs.inner.Reporting.{Owns}
use Rattle.store_lines.specs.declared.owning.OwnUploads.{OwnUploads}
use Rattle.store_lines.proofs.Serves.{noted_read}
use Rattle.store_lines.proofs.Under.{Noted, all_read, at_cut, at_end, begun, left_read, truncated, stopped, turned, unended, unread}
use Rattle.store_lines.proofs.serving.serve_lines.Goals as goal

pub loop-init : goal.loop-init
loop-init g c =
    let room : max_request ≤ vec_capacity c.in_ok-line.line = search rules in
    (begun (session_of g.A.Access.reach c.args.own.now.at_end) (g.A.Access.stands c.args.access.now) c.args.own.now.numbers.items (g.R.Read.remaining c.args.reader.now) (g.W.Write.contents c.args.writer.now) c.requires, room, refl)

pub returns-in_err-read-clause-read : goal.returns-in_err-read-clause-read
returns-in_err-read-clause-read g c = λ is. stopped (session_of g.A.Access.reach c.args.own.now.at_end) (g.A.Access.stands c.args.access.now) (g.A.Access.stands c.loop.access) (g.A.Access.stands c.loop.access) c.loop.own.numbers.items (g.R.Read.remaining c.args.reader.now) (g.R.Read.remaining c.loop.reader) (Appends (g.W.Write.contents c.args.writer.now) (g.W.Write.contents c.loop.writer)) c.loop.invariant.0 (unread g.A.Access.reach (g.A.Access.stands c.loop.access) (g.R.Read.remaining c.loop.reader))

pub returns-then-read-eq0-clause-written : goal.returns-then-read-eq0-clause-written
returns-then-read-eq0-clause-written g c =
    at_end (session_of g.A.Access.reach c.args.own.now.at_end) (g.A.Access.stands c.args.access.now) (g.A.Access.stands c.loop.access) c.loop.own.numbers.items (g.R.Read.remaining c.args.reader.now) (g.R.Read.remaining c.loop.reader) (g.W.Write.contents c.args.writer.now) (g.W.Write.contents c.loop.writer) c.in_ok-read.read c.next_line.new.line.items c.loop.invariant.0 c.in_ok-read.ensures.read (search rules)

pub returns-then-read-eq0-clause-end : goal.returns-then-read-eq0-clause-end
returns-then-read-eq0-clause-end g c =
    all_read (session_of g.A.Access.reach c.args.own.now.at_end) (g.A.Access.stands c.args.access.now) (g.A.Access.stands c.loop.access) c.loop.own.numbers.items (g.R.Read.remaining c.args.reader.now) (g.R.Read.remaining c.loop.reader) (g.R.Read.remaining c.next_line.new.reader) (g.W.Write.contents c.args.writer.now) (g.W.Write.contents c.loop.writer)
    c.in_ok-read.read c.next_line.new.line.items c.loop.invariant.0 c.in_ok-read.ensures.read c.in_ok-read.ensures.rest (inl (search rules))

pub returns-in_err-serve_line-clause-read : goal.returns-in_err-serve_line-clause-read
returns-in_err-serve_line-clause-read g c = λ is.
    let cause : c.in_err-serve_line.field-0.0 ≡ causes.CannotRead = search rules in
    let same : c.serve_line.new.writer ≡ c.loop.writer = search rules in
    let reach = g.A.Access.reach in
    let session = session_of reach c.args.own.now.at_end in
    let was = g.A.Access.stands c.args.access.now in
    let now = g.A.Access.stands c.serve_line.new.access in
    let failed : c.serve_line.result ≡ Err causes.CannotRead = search rules in
    let mid = g.A.Access.stands c.loop.access in
    let kept : c.as_slice.result.now ≡ c.next_line.new.line.items = search rules in
    let found = subst (λ (k : List ℕ). IsFound c.in_ok-read.read k c.line_of-found.result) kept c.line_of-found.ensures in
    let left = left_read reach mid now (g.R.Read.remaining c.loop.reader) (g.R.Read.remaining c.next_line.new.reader) c.in_ok-read.read c.next_line.new.line.items c.line_of-found.result found c.in_ok-read.ensures.read c.in_ok-read.ensures.rest (c.serve_line.ensures.left failed) in
    let before = stopped session was mid now c.loop.own.numbers.items (g.R.Read.remaining c.args.reader.now) (g.R.Read.remaining c.loop.reader) (Appends (g.W.Write.contents c.args.writer.now) (g.W.Write.contents c.loop.writer)) c.loop.invariant.0 left in
    let unread = c.serve_line.ensures.unread failed in
    subst (λ (o : OwnUploads). IfSome (g.R.Read.remaining c.args.reader.now) (λ input. ServedSomeOver session was (Owns session now o.numbers.items) input (Appends (g.W.Write.contents c.args.writer.now) (g.W.Write.contents c.serve_line.new.writer)))) (sym unread)
    (subst (λ w. IfSome (g.R.Read.remaining c.args.reader.now) (λ input. ServedSomeOver session was (Owns session now c.loop.own.numbers.items) input (Appends (g.W.Write.contents c.args.writer.now) (g.W.Write.contents w)))) (sym same) before)

pub returns-in_err-serve_line-clause-failed : goal.returns-in_err-serve_line-clause-failed
returns-in_err-serve_line-clause-failed g c = λ is.
    let cause : c.serve_line.result ≡ Err causes.CannotWrite = search rules in
    let reach = g.A.Access.reach in
    let session = session_of reach c.args.own.now.at_end in
    let mid = g.A.Access.stands c.loop.access in
    let now = g.A.Access.stands c.serve_line.new.access in
    let kept : c.as_slice.result.now ≡ c.next_line.new.line.items = search rules in
    let served = noted_read reach c.args.own.now.at_end mid now c.loop.own c.serve_line.new.own true (g.R.Read.remaining c.next_line.new.reader) (g.R.Read.remaining c.serve_line.new.reader) (WroteSome (g.W.Write.contents c.loop.writer) (g.W.Write.contents c.serve_line.new.writer)) c.in_ok-read.read c.as_slice.result.now c.next_line.new.line.items c.line_of-found.result c.loop.invariant.2 kept c.line_of-found.ensures (c.serve_line.ensures.failed cause) in
    let some : 0 < c.in_ok-read.read.count = omega arith in
    let w1 = g.W.Write.contents c.args.writer.now in
    let w2 = g.W.Write.contents c.loop.writer in
    let w3 = g.W.Write.contents c.serve_line.new.writer in
    let own = c.serve_line.new.own.numbers.items in
    let left = g.R.Read.remaining c.serve_line.new.reader in
    let more = turned session (g.A.Access.stands c.args.access.now) mid now c.loop.own.numbers.items own (g.R.Read.remaining c.args.reader.now) (g.R.Read.remaining c.loop.reader) (g.R.Read.remaining c.next_line.new.reader) left (Appends w1 w2) (WroteSome w2 w3) (WroteSome w1 w3)
    c.in_ok-read.read c.next_line.new.line.items true refl (c.is_cut.ensures.whole (search rules)) (some_after w1 w2 w3) c.loop.invariant.0 c.in_ok-read.ensures.read some c.in_ok-read.ensures.rest served in
    stopped session (g.A.Access.stands c.args.access.now) now now own (g.R.Read.remaining c.args.reader.now) left (WroteSome w1 w3) more (unread reach now left)

pub returns-then-not-branch-clause-written : goal.returns-then-not-branch-clause-written
returns-then-not-branch-clause-written g c =
    let reach = g.A.Access.reach in
    let session = session_of reach c.args.own.now.at_end in
    let mid = g.A.Access.stands c.loop.access in
    let now = g.A.Access.stands c.serve_line.new.access in
    let none : c.in_ok-serve_line.field-0 ≡ false = search rules in
    let kept : c.as_slice.result.now ≡ c.next_line.new.line.items = search rules in
    let served = noted_read reach c.args.own.now.at_end mid now c.loop.own c.serve_line.new.own c.in_ok-serve_line.field-0 (g.R.Read.remaining c.next_line.new.reader) (g.R.Read.remaining c.serve_line.new.reader) (Appends (g.W.Write.contents c.loop.writer) (g.W.Write.contents c.serve_line.new.writer)) c.in_ok-read.read c.as_slice.result.now c.next_line.new.line.items c.line_of-found.result c.loop.invariant.2 kept c.line_of-found.ensures c.in_ok-serve_line.ensures.served in
    let same = c.in_ok-serve_line.ensures.truncated none in
    let cut = truncated session (g.A.Access.stands c.args.access.now) mid now c.loop.own.numbers.items (Noted session c.loop.own.numbers.items c.serve_line.new.own.numbers.items) (g.R.Read.remaining c.args.reader.now) (g.R.Read.remaining c.loop.reader) (g.R.Read.remaining c.next_line.new.reader) (g.R.Read.remaining c.serve_line.new.reader) (g.W.Write.contents c.args.writer.now) (g.W.Write.contents c.loop.writer) (g.W.Write.contents c.serve_line.new.writer)
    c.in_ok-read.read c.next_line.new.line.items c.in_ok-serve_line.field-0 none c.loop.invariant.0 c.in_ok-read.ensures.read c.in_ok-read.ensures.rest served in
    subst (λ (o : OwnUploads). IfSome (g.R.Read.remaining c.args.reader.now) (λ input. ServedAllOver session (g.A.Access.stands c.args.access.now) (Owns session now o.numbers.items) input (g.W.Write.contents c.args.writer.now) (g.W.Write.contents c.serve_line.new.writer) verdicts.Refused)) (sym same) cut

pub returns-then-is_cut-clause-written : goal.returns-then-is_cut-clause-written
returns-then-is_cut-clause-written g c =
    let some : 0 < c.in_ok-read.read.count = omega arith in
    let cut = c.is_cut.ensures.cut (search rules) in
    unended (session_of g.A.Access.reach c.args.own.now.at_end) (g.A.Access.stands c.args.access.now) (g.A.Access.stands c.loop.access) c.loop.own.numbers.items (g.R.Read.remaining c.args.reader.now) (g.R.Read.remaining c.loop.reader) (g.W.Write.contents c.args.writer.now) (g.W.Write.contents c.loop.writer) c.in_ok-read.read c.next_line.new.line.items c.loop.invariant.0 c.in_ok-read.ensures.read some cut.0 cut.1

pub returns-then-is_cut-clause-end : goal.returns-then-is_cut-clause-end
returns-then-is_cut-clause-end g c =
    let cut = c.is_cut.ensures.cut (search rules) in
    all_read (session_of g.A.Access.reach c.args.own.now.at_end) (g.A.Access.stands c.args.access.now) (g.A.Access.stands c.loop.access) c.loop.own.numbers.items (g.R.Read.remaining c.args.reader.now) (g.R.Read.remaining c.loop.reader) (g.R.Read.remaining c.next_line.new.reader) (g.W.Write.contents c.args.writer.now) (g.W.Write.contents c.loop.writer)
    c.in_ok-read.read c.next_line.new.line.items c.loop.invariant.0 c.in_ok-read.ensures.read c.in_ok-read.ensures.rest (inr cut.1)

pub returns-then-not-branch-clause-end : goal.returns-then-not-branch-clause-end
returns-then-not-branch-clause-end g c =
    let reach = g.A.Access.reach in
    let session = session_of reach c.args.own.now.at_end in
    let mid = g.A.Access.stands c.loop.access in
    let now = g.A.Access.stands c.serve_line.new.access in
    let none : c.in_ok-serve_line.field-0 ≡ false = search rules in
    let kept : c.as_slice.result.now ≡ c.next_line.new.line.items = search rules in
    let served = noted_read reach c.args.own.now.at_end mid now c.loop.own c.serve_line.new.own c.in_ok-serve_line.field-0 (g.R.Read.remaining c.next_line.new.reader) (g.R.Read.remaining c.serve_line.new.reader) (Appends (g.W.Write.contents c.loop.writer) (g.W.Write.contents c.serve_line.new.writer)) c.in_ok-read.read c.as_slice.result.now c.next_line.new.line.items c.line_of-found.result c.loop.invariant.2 kept c.line_of-found.ensures c.in_ok-serve_line.ensures.served in
    at_cut session (g.A.Access.stands c.args.access.now) mid now c.loop.own.numbers.items (Noted session c.loop.own.numbers.items c.serve_line.new.own.numbers.items) (g.R.Read.remaining c.args.reader.now) (g.R.Read.remaining c.loop.reader) (g.R.Read.remaining c.next_line.new.reader) (g.R.Read.remaining c.serve_line.new.reader) (g.W.Write.contents c.args.writer.now) (g.W.Write.contents c.loop.writer)
    (Appends (g.W.Write.contents c.loop.writer) (g.W.Write.contents c.serve_line.new.writer)) c.in_ok-read.read c.next_line.new.line.items c.in_ok-serve_line.field-0 none c.loop.invariant.0 c.in_ok-read.ensures.read c.in_ok-read.ensures.rest served

pub loop-preserved : goal.loop-preserved
loop-preserved g c =
    let reach = g.A.Access.reach in
    let session = session_of reach c.args.own.now.at_end in
    let mid = g.A.Access.stands c.loop.access in
    let now = g.A.Access.stands c.serve_line.new.access in
    let whole : c.in_ok-serve_line.field-0 ≡ true = search rules in
    let kept : c.as_slice.result.now ≡ c.next_line.new.line.items = search rules in
    let served = noted_read reach c.args.own.now.at_end mid now c.loop.own c.serve_line.new.own c.in_ok-serve_line.field-0 (g.R.Read.remaining c.next_line.new.reader) (g.R.Read.remaining c.serve_line.new.reader) (Appends (g.W.Write.contents c.loop.writer) (g.W.Write.contents c.serve_line.new.writer)) c.in_ok-read.read c.as_slice.result.now c.next_line.new.line.items c.line_of-found.result c.loop.invariant.2 kept c.line_of-found.ensures c.in_ok-serve_line.ensures.served in
    let some : 0 < c.in_ok-read.read.count = omega arith in
    let w1 = g.W.Write.contents c.args.writer.now in
    let w2 = g.W.Write.contents c.loop.writer in
    let w3 = g.W.Write.contents c.serve_line.new.writer in
    let room : max_request ≤ vec_capacity c.next_line.new.line = search rules in (
      turned session (g.A.Access.stands c.args.access.now) mid now c.loop.own.numbers.items c.serve_line.new.own.numbers.items (g.R.Read.remaining c.args.reader.now) (g.R.Read.remaining c.loop.reader) (g.R.Read.remaining c.next_line.new.reader) (g.R.Read.remaining c.serve_line.new.reader) (Appends w1 w2) (Appends w2 w3) (Appends w1 w3)
          c.in_ok-read.read c.next_line.new.line.items c.in_ok-serve_line.field-0 whole (c.is_cut.ensures.whole (search rules)) (Appends-trans w1 w2 w3) c.loop.invariant.0 c.in_ok-read.ensures.read some c.in_ok-read.ensures.rest served,
      room,
      c.serve_line.ensures.at_end ∙ c.loop.invariant.2,
    )

pub returns-clause-read : goal.returns-clause-read
returns-clause-read g c = λ is. stopped (session_of g.A.Access.reach c.args.own.now.at_end) (g.A.Access.stands c.args.access.now) (g.A.Access.stands c.loop.access) (g.A.Access.stands c.loop.access) c.loop.own.numbers.items (g.R.Read.remaining c.args.reader.now) (g.R.Read.remaining c.loop.reader) (Appends (g.W.Write.contents c.args.writer.now) (g.W.Write.contents c.loop.writer)) c.loop.invariant.0 (unread g.A.Access.reach (g.A.Access.stands c.loop.access) (g.R.Read.remaining c.loop.reader))
