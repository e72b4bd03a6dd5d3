use Rattle.std.proofs.Common.{◌≡◌, ◌*◌, ◌/◌, Some, arith, ap, subst, sym, ◌∙◌}
use Rattle.b3_forest.specs.inner.Subtrees.{IsLeastHeld, NoneHeld}
use Rattle.b3_forest.specs.Parts.{chunk_in}
use Rattle.b3_forest.proofs.HeldPlaces.{chunk_end, overlap_least, overlap_none}
use Rattle.b3_forest.proofs.held.overlap.Goals as goal

pub returns-in-Some : goal.returns-in-Some
returns-in-Some c n ps keeps =
    let offset = c.args.offset in
    let found = c.in-Some.ensures.least (chunk_in ps) keeps.forest in
    let end : c.div_ceil-end.result ≡ chunk_end offset c.args.len = omega (arith, c.div_ceil-end.ensures) in
    let least = subst (λ e. IsLeastHeld (chunk_in ps) (offset / 1024) e c.in-Some.chunk) end found in
    let place : c.in-Some.chunk * 1024 ≡ 1024 * c.in-Some.chunk = omega arith in
    ap Some place ∙ sym (overlap_least n 0 offset c.args.len c.in-Some.chunk ps c.requires.positive c.requires.aligned keeps.placed least)

pub returns-in-None : goal.returns-in-None
returns-in-None c n ps keeps =
    let offset = c.args.offset in
    let end : c.div_ceil-end.result ≡ chunk_end offset c.args.len = omega (arith, c.div_ceil-end.ensures) in
    let found = c.in-None.ensures.none (chunk_in ps) (omega (arith, end, c.requires.within)) keeps.forest in
    let none = subst (λ e. NoneHeld (chunk_in ps) (offset / 1024) e) end found in
    sym (overlap_none n 0 offset c.args.len ps c.requires.positive c.requires.aligned keeps.placed none)
