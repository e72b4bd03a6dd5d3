use Rattle.store_upload.proofs.Ends.{apart_of}
use Rattle.store_upload.proofs.held_parts.BTreeMapU64HeldParts.last_end.Goals as goal

pub last_end-requires : goal.last_end-requires
last_end-requires g c = apart_of g.P.Length.len c.args.self.now.entries c.requires
