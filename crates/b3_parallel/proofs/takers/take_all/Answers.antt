use Rattle.std.proofs.Common.{rules}
use Rattle.b3_parallel.specs.inner.Rounds.{AreTaken}
use Rattle.b3_parallel.proofs.takers.take_all.Goals as goal

pub returns : goal.returns
returns g c =
    let round = c.args.round.now in
    let known = g.S.Source.bytes c.args.source.now in
    let none : AreTaken round.mode known round.level c.new-lists.result.items = search rules in
    c.join_all.ensures round.mode known round.level c.start_all-handles.ensures (c.add-added.ensures round.mode known round.level c.take_blocks-mine.ensures none)
