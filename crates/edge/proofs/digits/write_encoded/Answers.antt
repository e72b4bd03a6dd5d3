use Rattle.std.proofs.Common.{rules, ◌≡◌, ◌∙◌, ◌++◌, [], ap, append_assoc, drop, refl, subst, sym, take, take-append-drop}
use Rattle.std.specs.Io.KnownBytes.{Appends}
use Rattle.hex.specs.Hex.{encode_lower, lower_digits}
use Rattle.edge.proofs.Encoding.{digits_append, no_digits}
use Rattle.edge.proofs.Joining.{appends_more, appends_none}
use Rattle.std.proofs.lemmas.Result.{err_from_is_err_and}
use Rattle.edge.specs.Output.{IsTruncated}
use Rattle.edge.proofs.Output.{split_between}
use Rattle.edge.proofs.digits.write_encoded.Goals as goal

pub loop-rest-init : goal.loop-rest-init
loop-rest-init g c = ([], subst (Appends (g.W.Write.contents c.args.writer.now) (g.W.Write.contents c.args.writer.now)) (sym no_digits) (appends_none (g.W.Write.contents c.args.writer.now)), refl)

pub loop-rest-preserved : goal.loop-rest-preserved
loop-rest-preserved g c =
    let (done, wrote, is) = c.loop-rest.invariant in
    let front = c.split_at.result.0.now in
    let rest = c.loop-rest.rest.now in
    let front_is : front ≡ take c.min.result rest = search rules in
    let back_is : c.split_at.result.1.now ≡ drop c.min.result rest = search rules in
    let whole : rest ≡ front ++ c.split_at.result.1.now = rw (front_is, back_is) (sym (take-append-drop c.min.result rest)) in
    let more : Appends (g.W.Write.contents c.loop-rest.writer) (g.W.Write.contents c.write_block.new.writer) (encode_lower front) = search rules in
    let all = appends_more (g.W.Write.contents c.args.writer.now) (g.W.Write.contents c.loop-rest.writer) (g.W.Write.contents c.write_block.new.writer) (encode_lower done) (encode_lower front) wrote more in (
      done ++ front,
      subst (Appends (g.W.Write.contents c.args.writer.now) (g.W.Write.contents c.write_block.new.writer)) (sym (digits_append lower_digits done front)) all,
      is ∙ ap (λ (w : _). done ++ w) whole ∙ sym (append_assoc done front c.split_at.result.1.now),
    )

pub returns-in_err-write_block-clause-failed : goal.returns-in_err-write_block-clause-failed
returns-in_err-write_block-clause-failed g c =
    let (done, wrote, is) = c.loop-rest.invariant in
    let front = c.split_at.result.0.now in
    let following = c.split_at.result.1.now in
    let rest = c.loop-rest.rest.now in
    let front_is : front ≡ take c.min.result rest = search rules in
    let back_is : following ≡ drop c.min.result rest = search rules in
    let whole : rest ≡ front ++ following = rw (front_is, back_is) (sym (take-append-drop c.min.result rest)) in
    let text : encode_lower done ++ (encode_lower front ++ encode_lower following) ≡ encode_lower c.args.bytes.now =
    ap (λ w. encode_lower done ++ w) (sym (digits_append lower_digits front following)) ∙ sym (digits_append lower_digits done (front ++ following)) ∙ ap encode_lower (ap (λ w. done ++ w) (sym whole) ∙ sym is) in
    let p = err_from_is_err_and c.from_residual.result c.from_residual.ensures.1 in
    rw (p.1) (subst (IsTruncated (g.W.Write.contents c.args.writer.now) (g.W.Write.contents c.write_block.new.writer)) text
    (split_between (g.W.Write.contents c.args.writer.now) (g.W.Write.contents c.loop-rest.writer) (g.W.Write.contents c.write_block.new.writer) (encode_lower done) (encode_lower front) (encode_lower following) wrote c.in_err-write_block.ensures.failed))
