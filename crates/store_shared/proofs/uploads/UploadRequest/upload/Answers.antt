use Rattle.std.proofs.Common.{◌<◌, ◌≤◌, rules}
use Rattle.b3_forest.specs.Borrowed.{borrowed_bytes}
use Rattle.store_shared.specs.Uploading.{ModelCut}
use Rattle.store_shared.proofs.Answering.{answered}
use Rattle.store_shared.proofs.uploads.UploadRequest.upload.Goals as goal
use Rattle.store_upload.specs.Uploads.{max_part_chunks}

pub returns : goal.returns
returns g c =
    let asked = c.args.self.now in
    let gate = asked.gate.now in
    let cut : ModelCut = record { bytes = borrowed_bytes asked.bytes; part_chunks = asked.part_chunks } in
    let good : (0 < asked.part_chunks) × (asked.part_chunks ≤ max_part_chunks) × (0 < asked.workers) × (asked.workers ≤ c.args.shared.now) = search rules in
    answered (g.G.Gate.rule gate) cut asked.workers c.args.shared.now c.args.share c.upload_parts.result.0 c.upload_parts.result.1 good
    c.upload_parts.ensures.passed c.upload_parts.ensures.uploaded
