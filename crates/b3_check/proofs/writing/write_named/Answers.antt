use Rattle.std.proofs.Common.{◌≡◌, ◌∙◌, ap, subst, ℕ, List, [], ◌∷◌}
use Rattle.std.specs.Io.KnownBytes.{Appends}
use Rattle.std.proofs.lemmas.Result.{err_from_is_err_and}
use Rattle.b3_check.specs.Names.{escaped, mark_of}
use Rattle.edge.specs.Output.{IsTruncated}
use Rattle.b3_check.proofs.Truncations.{truncated_end, truncated_name, truncated_word}
use Rattle.b3_check.proofs.writing.write_named.Goals as goal

pub returns-in_err-write_slices-clause-failed : goal.returns-in_err-write_slices-clause-failed
returns-in_err-write_slices-clause-failed g c =
    let p = err_from_is_err_and c.from_residual.result c.from_residual.ensures.1 in
    let name = c.args.name.now in
    let is : c.mark_of.result.now ≡ mark_of name = c.mark_of.ensures ∙ ap mark_of c.as_bytes-name.ensures.value in
    rw (p.1) (truncated_word (g.W.Write.contents c.args.writer.now) (g.W.Write.contents c.write_slices.new.writer) c.mark_of.result.now (mark_of name) c.args.what.now c.args.gap.now (escaped name) (10 ∷ []) is
    c.in_err-write_slices.ensures.failed)

pub returns-in_err-write_escaped-clause-failed : goal.returns-in_err-write_escaped-clause-failed
returns-in_err-write_escaped-clause-failed g c =
    let p = err_from_is_err_and c.from_residual-in_err-write_escaped.result c.from_residual-in_err-write_escaped.ensures.1 in
    let name = c.args.name.now in
    let mid = g.W.Write.contents c.write_slices.new.writer in
    let new = g.W.Write.contents c.write_escaped.new.writer in
    let is : c.mark_of.result.now ≡ mark_of name = c.mark_of.ensures ∙ ap mark_of c.as_bytes-name.ensures.value in
    rw (p.1) (truncated_name (g.W.Write.contents c.args.writer.now) mid new c.mark_of.result.now (mark_of name) c.args.what.now c.args.gap.now (escaped name) (10 ∷ []) is c.in_ok-write_slices.ensures.written
    (subst (λ (n : List ℕ). IsTruncated mid new (escaped n)) c.as_bytes-name.ensures.value c.in_err-write_escaped.ensures.failed))

pub returns-clause-failed : goal.returns-clause-failed
returns-clause-failed g c =
    let name = c.args.name.now in
    let mid = g.W.Write.contents c.write_slices.new.writer in
    let then = g.W.Write.contents c.write_escaped.new.writer in
    let is : c.mark_of.result.now ≡ mark_of name = c.mark_of.ensures ∙ ap mark_of c.as_bytes-name.ensures.value in
    truncated_end c.write_whole.result (g.W.Write.contents c.args.writer.now) mid then (g.W.Write.contents c.write_whole.new.writer) c.mark_of.result.now (mark_of name) c.args.what.now c.args.gap.now (escaped name) (10 ∷ []) is
    c.in_ok-write_slices.ensures.written (subst (λ (n : List ℕ). Appends mid then (escaped n)) c.as_bytes-name.ensures.value c.in_ok-write_escaped.ensures.written) c.write_whole.ensures.failed
