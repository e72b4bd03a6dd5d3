use Rattle.std.proofs.Common.{List, ap, ◌∙◌, length}
use Rattle.store_upload.specs.Uploads.{last_end}
use Rattle.b3_forest.specs.Parts.{HeldPart}
use Rattle.b3_forest.proofs.Ends.{whole_of}
use Rattle.b3_forest.proofs.hashed_parts.HashedParts.top.Goals as goal

pub top-requires : goal.top-requires
top-requires c =
    let old = c.self.inside in
    (old.last_end, c.args.self.now, whole_of old.last_end old.parts.entries c.args.self.now old.subtrees.entries c.self.view_is c.self.invariant c.requires)

pub returns-clause-top : goal.returns-clause-top
returns-clause-top c =
    let old = c.self.inside in
    c.top.ensures.top old.last_end c.args.self.now (whole_of old.last_end old.parts.entries c.args.self.now old.subtrees.entries c.self.view_is c.self.invariant c.requires)

pub returns-clause-len : goal.returns-clause-len
returns-clause-len c =
    let old = c.self.inside in
    c.top.ensures.len old.last_end c.args.self.now (whole_of old.last_end old.parts.entries c.args.self.now old.subtrees.entries c.self.view_is c.self.invariant c.requires)
    ∙ c.self.invariant.end_is ∙ ap (λ (ps : List HeldPart). last_end length ps) c.self.view_is

pub returns-clause-count : goal.returns-clause-count
returns-clause-count c =
    let old = c.self.inside in
    c.top.ensures.count old.last_end c.args.self.now (whole_of old.last_end old.parts.entries c.args.self.now old.subtrees.entries c.self.view_is c.self.invariant c.requires)
