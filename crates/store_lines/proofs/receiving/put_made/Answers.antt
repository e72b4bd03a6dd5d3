use Rattle.std.proofs.Common.{rules, ◌≡◌, Err, List, None, Ok, length, refl, subst, ℕ}
use Rattle.b3_forest.specs.Parts.{planned}
use Rattle.store_core.specs.declared.store.questions.Reply.TheVariants as replies
use Rattle.store_upload.specs.Uploads.{part_fault}
use Rattle.store_lines.specs.declared.answer.Answer.TheVariants as answers
use Rattle.store_lines.proofs.Puts.{made, no_part}
use Rattle.store_lines.proofs.receiving.put_made.Goals as goal

pub returns-in-Ok-put : goal.returns-in-Ok-put
returns-in-Ok-put g c =
    let held = c.in-Ok-put.held in
    let p = c.args.part in
    let same : c.into_vec.result.items ≡ p.bytes = search rules in
    let fits : part_fault c.args.plan.now p.offset (length p.bytes) ≡ None = search rules in
    let part_is = subst (λ (b : List ℕ). c.in-Ok.part ≡ planned c.args.plan.now p.offset b) same c.in-Ok.ensures.made in
    made g.A.Access.reach (g.A.Access.stands c.args.access.now) (g.A.Access.stands c.put.new.self) p.upload p.offset c.args.plan.now p.bytes c.in-Ok.part (Ok (replies.Held held)) (answers.Replied (Ok (replies.Held held))) fits part_is c.in-Ok-put.ensures.took (λ entries. refl) refl

pub returns-in-Err-put : goal.returns-in-Err-put
returns-in-Err-put g c =
    let refusal = c.in-Err-put.refused.reason in
    let p = c.args.part in
    let same : c.into_vec.result.items ≡ p.bytes = search rules in
    let fits : part_fault c.args.plan.now p.offset (length p.bytes) ≡ None = search rules in
    let part_is = subst (λ (b : List ℕ). c.in-Ok.part ≡ planned c.args.plan.now p.offset b) same c.in-Ok.ensures.made in
    made g.A.Access.reach (g.A.Access.stands c.args.access.now) (g.A.Access.stands c.put.new.self) p.upload p.offset c.args.plan.now p.bytes c.in-Ok.part (Err refusal) (answers.Replied (Err refusal)) fits part_is c.in-Err-put.ensures.took (λ entries. refl) refl

pub returns-in-Err : goal.returns-in-Err
returns-in-Err g c =
    let p = c.args.part in
    no_part g.A.Access.reach (g.A.Access.stands c.args.access.now) p.upload p.offset c.args.plan.now p.bytes c.in-Err.refused.reason (search rules)
