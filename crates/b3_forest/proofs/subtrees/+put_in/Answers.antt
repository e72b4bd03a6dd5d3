use Rattle.std.proofs.Common.{◌∙◌}
use Rattle.b3_forest.proofs.Growing.{with_none, with_first, fresh_rest, fresh_taken}
use Rattle.b3_forest.proofs.subtrees.+put_in.Goals as goal

pub returns-in_default-clause-put : goal.returns-in_default-clause-put
returns-in_default-clause-put t c = with_none c.args.pieces.now c.args.subtrees.now.entries c.in_default.ensures.cases

pub returns-in_default-put_in-clause-back : goal.returns-in_default-put_in-clause-back
returns-in_default-put_in-clause-back t c fresh =
    let cut = c.in-Some.ensures.cases.0 in
    let put = c.in_ok-insert.ensures.entries in
    let rest = fresh_rest c.args.pieces.now c.in-Some.rest.now c.in-Some.piece.now c.of.result c.args.subtrees.now.entries c.insert.new.self.entries cut c.of.ensures put fresh in
    fresh_taken c.args.pieces.now c.in-Some.rest.now c.in-Some.piece.now c.of.result c.args.subtrees.now.entries c.insert.new.self.entries
    c.put_in.new.subtrees.entries c.remove.new.self.entries cut put fresh (c.in_default-put_in.ensures.back rest) c.remove.ensures.entries

pub returns-clause-put : goal.returns-clause-put
returns-clause-put t c =
    c.in-Ok.ensures.put ∙ with_first c.args.pieces.now c.in-Some.rest.now c.in-Some.piece.now c.of.result c.args.subtrees.now.entries c.insert.new.self.entries
    c.in-Some.ensures.cases.0 c.of.ensures c.in_ok-insert.ensures.entries
