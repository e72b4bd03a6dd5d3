use Rattle.store_lines.proofs.Puts.{no_plan}
use Rattle.store_lines.proofs.receiving.put_bytes.Goals as goal

pub returns-in-Err : goal.returns-in-Err
returns-in-Err g c =
    no_plan g.A.Access.reach (g.A.Access.stands c.args.access.now) (g.A.Access.stands c.plan.new.self) c.args.part.upload c.args.part.offset c.args.part.bytes c.in-Err.refusal c.in-Err.ensures
