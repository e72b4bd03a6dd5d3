use Rattle.store_upload.proofs.Ends.{apart_of}
use Rattle.store_upload.proofs.held_parts.BTreeMapU64HeldParts.first_gap.Goals as goal

pub first_gap-requires : goal.first_gap-requires
first_gap-requires g c = apart_of g.P.Length.len c.args.self.now.entries c.requires
