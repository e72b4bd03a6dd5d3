use Rattle.std.proofs.Common.{◌≡◌, ◌+◌, arith, rules, ap}
use Rattle.b3_core.specs.ExtendedOutput.{ModelOutputReader, output_of}
use Rattle.b3_core.proofs.OutputBytes.{left_more, left_none}
use Rattle.b3_core.proofs.counted_output.CountedOutputRead.read.Goals as goal

pub returns-clause-bytes : goal.returns-clause-bytes
returns-clause-bytes c =
    let r = c.args.self.now.0 in
    let n = c.min-count.result in
    let bytes : c.fill.new.out ≡ output_of r.root r.position n = search (rules, c.in-Ok.ensures, c.self, c.split_at_mut-front.ensures) in
    let moved : c.fill.new.self ≡ record r { position = r.position + n } = search (rules, c.in-Ok.ensures, c.self, c.split_at_mut-front.ensures) in
    let place : c.position-left.result ≡ r.position = search (rules, c.position-left.ensures, c.self) in
    let following : c.fill.new.self.position ≡ r.position + n = ap (λ (x : ModelOutputReader). x.position) moved in (
      left_more r c.fill.new.self n c.fill.new.out c.split_at_mut-front.result.1.now bytes moved (omega (arith, c.min-count.ensures, place)),
      (λ none some. left_none c.fill.new.self (omega (arith, c.min-count.ensures, place, following, none, some))),
    )
