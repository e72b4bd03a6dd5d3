use Rattle.std.proofs.Common.{arith, ◌≡◌, ◌≢◌, ◌≤◌, ◌∙◌, ◌++◌, length, length-append, sym, true≢false, vec_capacity}
use Rattle.std.proofs.lemmas.List.Elements.{All-append}
use Rattle.std.specs.Io.Iter.{u64_saturate}
use Rattle.std.specs.Io.BufRead.{take_through}
use Rattle.std.proofs.KnownBytes.{Consumes-trans}
use Rattle.std.proofs.BufReadLemmas.{Consumes_through}
use Rattle.edge.specs.Lines.{IsLineRead}
use Rattle.std.specs.Prelude.{nat_lt}
use Rattle.edge.proofs.LineParts.{ended_by, if_some_weaken, is_read, kept_on, unended_by}
use Rattle.edge.proofs.lines.read_line.Goals as goal

pub returns-then-is_done-clause-read : goal.returns-then-is_done-clause-read
returns-then-is_done-clause-read g c =
    let (done, count, free, read, kept, room) = c.loop.invariant in
    let (part, took, held) = c.in_ok-len.ensures.part in
    let all = Consumes_through 10 _ _ _ done part read free took.consumes took.stops (took.ends c.if-is_done.true) (took.none c.if-is_done.true) in
    let total = c.saturating_add-count.result in
    let counted : total ≡ u64_saturate (length (done ++ part)) = omega (arith, length-append done part, c.saturating_add-count.ensures, took.count_is) in
    let now = kept_on c.args.max_len (vec_capacity c.args.line.now) (vec_capacity c.loop.line) c.loop.is_kept c.in_ok-len.is_held c.loop.line.items c.line_part.new.line.items done part room kept held in
    let more = nat_lt 0 c.in_ok-len.len in
    if_some_weaken (g.R.Read.remaining c.args.reader.now) (λ input. done ++ part ≡ take_through 10 input) (λ input. IsLineRead c.args.max_len (vec_capacity c.args.line.now) (take_through 10 input) (record { count = total; is_kept = c.in_ok-len.is_held; is_ended = more }) c.line_part.new.line.items)
    (λ input e. is_read c.args.max_len (vec_capacity c.args.line.now) (done ++ part) (take_through 10 input) total c.in_ok-len.is_held more c.line_part.new.line.items e counted now (ended_by done part c.in_ok-len.len took.count_is (took.ends c.if-is_done.true)) (unended_by done part c.in_ok-len.len took.count_is free)) all.0

pub returns-then-is_done-clause-rest : goal.returns-then-is_done-clause-rest
returns-then-is_done-clause-rest g c =
    let (done, count, free, read, kept, room) = c.loop.invariant in
    let (part, took, held) = c.in_ok-len.ensures.part in
    let all = Consumes_through 10 _ _ _ done part read free took.consumes took.stops (took.ends c.if-is_done.true) (took.none c.if-is_done.true) in
    all.1

pub loop-preserved : goal.loop-preserved
loop-preserved g c =
    let (done, count, free, read, kept, room) = c.loop.invariant in
    let (part, took, held) = c.in_ok-len.ensures.part in
    let roomy : vec_capacity c.args.line.now ≤ vec_capacity c.line_part.new.line = omega (arith, room, c.in_ok-len.ensures.room) in (
      done ++ part,
      omega (arith, length-append done part, c.saturating_add-count.ensures, took.count_is),
      All-append (λ x. x ≢ 10) done part free (took.goes_on (λ e. true≢false (sym e ∙ c.if-is_done.false))),
      Consumes-trans _ _ _ _ _ read took.consumes,
      kept_on c.args.max_len (vec_capacity c.args.line.now) (vec_capacity c.loop.line) c.loop.is_kept c.in_ok-len.is_held c.loop.line.items c.line_part.new.line.items done part room kept held,
      roomy,
    )
