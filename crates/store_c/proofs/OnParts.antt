-- Facts about what a handle keeps, from which value it is.
use Rattle.std.specs.Prelude.{◌≡◌, Option, Some, None}
use Rattle.std.proofs.Common.{sym, subst}
use Rattle.b3_forest.specs.Parts.{ModelPrepared}
use Rattle.store_core.specs.Model.{ModelStore}
use Rattle.store_handle.specs.declared.Kept.{Kept}
use Rattle.store_handle.specs.declared.Kept.TheVariants as kept
use Rattle.store_c.specs.Keeping.{OnPart, OnStore}

pub on_store : {k : Option Kept} {s : ModelStore} (P : ModelStore → Type 0) (Q : Type 0) → k ≡ Some (kept.Store s) → P s → OnStore k P Q
on_store P Q is holds = subst (λ k. OnStore k P Q) (sym is) holds

pub on_part : {k : Option Kept} {p : ModelPrepared} (P : ModelPrepared → Type 0) (Q : Type 0) → k ≡ Some (kept.Part p) → P p → OnPart k P Q
on_part P Q is holds = subst (λ k. OnPart k P Q) (sym is) holds

-- from what is so of the part to what follows from it
pub part_to : (k : Option Kept) (P P' : ModelPrepared → Type 0) (Q Q' : Type 0) → ((p : ModelPrepared) → P p → P' p) → (Q → Q') → OnPart k P Q → OnPart k P' Q'
part_to None P P' Q Q' f g x = g x
part_to (Some (kept.Store s)) P P' Q Q' f g x = g x
part_to (Some (kept.Part p)) P P' Q Q' f g x = f p x
part_to (Some (kept.Object o)) P P' Q Q' f g x = g x
part_to (Some (kept.Text t)) P P' Q Q' f g x = g x
part_to (Some (kept.Objects l)) P P' Q Q' f g x = g x
part_to (Some (kept.Uploads l)) P P' Q Q' f g x = g x
part_to (Some (kept.Tenants l)) P P' Q Q' f g x = g x
part_to (Some kept.Nothing) P P' Q Q' f g x = g x
