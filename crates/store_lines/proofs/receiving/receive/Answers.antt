use Rattle.std.proofs.Common.{rules, ◌≡◌, List, None, Some, Err, true, length, subst, ℕ}
use Rattle.store_lines.specs.declared.answer.Answer.TheVariants as answers
use Rattle.store_upload.specs.Uploads.{part_fault}
use Rattle.store_upload.specs.declared.refusal.PartFault.TheVariants as faults
use Rattle.store_lines.proofs.Puts.{MadeOver, dropped, leaves, fault_reported, no_fault, no_part, no_plan, planned_put, whole}
use Rattle.store_lines.proofs.receiving.receive.Goals as goal

pub returns-in-Err-clause-received : goal.returns-in-Err-clause-received
returns-in-Err-clause-received g c =
    let reach = g.A.Access.reach in
    let was = g.A.Access.stands c.args.access.now in
    let mid = g.A.Access.stands c.plan.new.self in
    dropped c.dropped.result (g.R.Read.remaining c.args.reader.now) (g.R.Read.remaining c.dropped.new.reader) reach was mid c.args.part.upload c.args.part.offset c.args.part.len (answers.Replied (Err c.in-Err.refusal))
    (λ bytes long. no_plan reach was mid c.args.part.upload c.args.part.offset bytes c.in-Err.refusal c.in-Err.ensures) (leaves reach was mid c.args.part.upload c.plan.result c.plan.ensures) c.dropped.ensures.dropped

pub returns-in-Some-clause-received : goal.returns-in-Some-clause-received
returns-in-Some-clause-received g c =
    let reach = g.A.Access.reach in
    let was = g.A.Access.stands c.args.access.now in
    let mid = g.A.Access.stands c.plan.new.self in
    let is : Some c.in-Some.fault ≡ part_fault c.in-Ok.plan c.args.part.offset c.args.part.len = search rules in
    dropped c.dropped-in-Some.result (g.R.Read.remaining c.args.reader.now) (g.R.Read.remaining c.dropped-in-Some.new.reader) reach was mid c.args.part.upload c.args.part.offset c.args.part.len (answers.Unmade c.in-Some.fault)
    (λ bytes long. planned_put reach was mid mid c.args.part.upload c.args.part.offset c.in-Ok.plan bytes (answers.Unmade c.in-Some.fault) c.in-Ok.ensures (no_part reach mid c.args.part.upload c.args.part.offset c.in-Ok.plan bytes c.in-Some.fault (fault_reported c.in-Ok.plan c.args.part.offset c.args.part.len (length bytes) c.in-Some.fault is long)))
    (leaves reach was mid c.args.part.upload c.plan.result c.plan.ensures) c.dropped-in-Some.ensures.dropped

pub returns-in_default-with_capacity-clause-received : goal.returns-in_default-with_capacity-clause-received
returns-in_default-with_capacity-clause-received g c =
    let reach = g.A.Access.reach in
    let was = g.A.Access.stands c.args.access.now in
    let mid = g.A.Access.stands c.plan.new.self in
    let none : None ≡ part_fault c.in-Ok.plan c.args.part.offset c.args.part.len = search rules in
    dropped c.dropped-in_default-with_capacity.result (g.R.Read.remaining c.args.reader.now) (g.R.Read.remaining c.dropped-in_default-with_capacity.new.reader) reach was mid c.args.part.upload c.args.part.offset c.args.part.len (answers.Unmade faults.NoMemory)
    (λ bytes long. planned_put reach was mid mid c.args.part.upload c.args.part.offset c.in-Ok.plan bytes (answers.Unmade faults.NoMemory) c.in-Ok.ensures (no_part reach mid c.args.part.upload c.args.part.offset c.in-Ok.plan bytes faults.NoMemory (no_fault c.in-Ok.plan c.args.part.offset c.args.part.len (length bytes) none long)))
    (leaves reach was mid c.args.part.upload c.plan.result c.plan.ensures) c.dropped-in_default-with_capacity.ensures.dropped

pub returns-clause-received : goal.returns-clause-received
returns-clause-received g c =
    let reach = g.A.Access.reach in
    let was = g.A.Access.stands c.args.access.now in
    let mid = g.A.Access.stands c.plan.new.self in
    let is = g.A.Access.stands c.put_made.new.access in
    let all : c.in_ok-copy.field-0 ≡ true = search rules in
    let same : c.new.result ≡ c.copy.new.bytes.items = search rules in
    let made = subst (λ (b : List ℕ). MadeOver reach mid is c.args.part.upload c.args.part.offset c.in-Ok.plan b c.put_made.result) same c.put_made.ensures in
    whole (g.R.Read.remaining c.args.reader.now) (g.R.Read.remaining c.copy.new.reader) reach was is c.args.part.upload c.args.part.offset c.args.part.len c.copy.new.bytes.items c.put_made.result c.in_ok-copy.field-0 all c.in_ok-copy.ensures.copied
    (planned_put reach was mid is c.args.part.upload c.args.part.offset c.in-Ok.plan c.copy.new.bytes.items c.put_made.result c.in-Ok.ensures made)
