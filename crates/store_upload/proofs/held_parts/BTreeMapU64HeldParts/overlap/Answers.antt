use Rattle.store_upload.proofs.Ends.{apart_of}
use Rattle.store_upload.proofs.held_parts.BTreeMapU64HeldParts.overlap.Goals as goal

pub overlap-requires-clause-apart : goal.overlap-requires-clause-apart
overlap-requires-clause-apart g c = apart_of g.P.Length.len c.args.self.now.entries c.requires.placed
