use Rattle.std.proofs.Common.{ℕ, List, length, subst}
use Rattle.store_upload.specs.Uploads.{IsUpload, ModelUpload}
use Rattle.b3_forest.proofs.forest.Forest.plan.Goals as goal

pub returns-clause-lawful : goal.returns-clause-lawful
returns-clause-lawful c = subst (λ (u : ModelUpload (List ℕ)). IsUpload length u) c.self.view_is c.plan.ensures.lawful
