use Rattle.store_upload.proofs.Least.{least_missing, least_overlap}
use Rattle.store_upload.proofs.laws.upload_laws.Goals as goal

pub returns : goal.returns
returns g c = record { missing = least_missing g.P.Length.len; overlap = least_overlap g.P.Length.len }
