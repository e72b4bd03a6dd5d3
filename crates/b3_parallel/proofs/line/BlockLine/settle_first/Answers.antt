use Rattle.std.proofs.Common.{◌≡◌, ◌∷◌, rules}
use Rattle.b3_parallel.proofs.Carrying.{bytes_of, first_settled}
use Rattle.b3_parallel.proofs.line.BlockLine.settle_first.Goals as goal

pub returns-in-Some-clause-carries : goal.returns-in-Some-clause-carries
returns-in-Some-clause-carries g c p x few is =
    let t = c.in-Some.handle in
    let first : c.args.self.now.handles.items ≡ t ∷ c.pop_front.new.self.items = search (rules, c.in-Some.ensures) in
    first_settled p c.args.self.now.level c.args.self.now.front c.append.new.self t c.pop_front.new.self.items x c.join-bytes.result.top c.join-bytes.result.work few c.join-bytes.ensures
    (λ y ready len hashed short. c.append.ensures p y (bytes_of t) ready len hashed short) (rw first at is)
