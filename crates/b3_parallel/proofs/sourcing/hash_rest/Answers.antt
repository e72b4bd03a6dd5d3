use Rattle.std.proofs.Common.{◌≡◌, ◌++◌, ◌∙◌, arith, length}
use Rattle.b3_parallel.specs.Sources.{known_from}
use Rattle.b3_parallel.proofs.Placing.{front_all}
use Rattle.b3_parallel.proofs.sourcing.hash_rest.Goals as goal

pub returns-in-Ok-hash_until-clause-all : goal.returns-in-Ok-hash_until-clause-all
returns-in-Ok-hash_until-clause-all g c x given short stands ended =
    let known = g.S.Source.bytes c.args.source.now in
    let left = known_from (g.S.Source.bytes c.hash_until.new.reader.source.now) c.hash_until.new.reader.place in
    let start : c.new-reader.result.place ≡ length x = c.new-reader.ensures.place ∙ c.count.ensures.bytes x given.0 short in
    let there = rw (c.new-reader.ensures.source, start) at c.in-Ok-hash_until.ensures.given x given (omega (arith, short)) in
    (x ++ there.0, there.1, front_all known left x there.0 stands there.2 (c.in-Ok-hash_until.ensures.end ended))
