-- What handles keep.
use Rattle.std.specs.Prelude.{ℕ, List, Option, Some, None}
use Rattle.b3_forest.specs.Parts.{ModelPrepared}
use Rattle.store_books.specs.declared.books.UploadStatus.{UploadStatus}
use Rattle.store_books.specs.declared.books.Usage.{Usage}
use Rattle.store_core.specs.Model.{ModelStore}
use Rattle.store_handle.specs.declared.Kept.{Kept}
use Rattle.store_handle.specs.declared.Kept.TheVariants as kept

-- the bytes of an object or of a text
abbrev pub bytes_in : Option Kept → Option (List ℕ)
bytes_in (Some (kept.Object o)) = Some o
bytes_in (Some (kept.Text t)) = Some t.items
bytes_in _ = None

-- what is so of the store, the part or the bytes that a handle keeps, and what if it keeps none
abbrev pub OnStore : Option Kept → (ModelStore → Type 0) → Type 0 → Type 0
OnStore (Some (kept.Store s)) holds otherwise = holds s
OnStore _ holds otherwise = otherwise

abbrev pub OnPart : Option Kept → (ModelPrepared → Type 0) → Type 0 → Type 0
OnPart (Some (kept.Part p)) holds otherwise = holds p
OnPart _ holds otherwise = otherwise

abbrev pub OnBytes : Option Kept → (List ℕ → Type 0) → Type 0 → Type 0
OnBytes (Some (kept.Object o)) holds otherwise = holds o
OnBytes (Some (kept.Text t)) holds otherwise = holds t.items
OnBytes _ holds otherwise = otherwise

-- what is so of the list that a handle keeps, and what if it keeps none of that kind
abbrev pub OnObjects : Option Kept → (List (List ℕ × ℕ) → Type 0) → Type 0 → Type 0
OnObjects (Some (kept.Objects items)) holds otherwise = holds items
OnObjects _ holds otherwise = otherwise

abbrev pub OnUploads : Option Kept → (List UploadStatus → Type 0) → Type 0 → Type 0
OnUploads (Some (kept.Uploads items)) holds otherwise = holds items
OnUploads _ holds otherwise = otherwise

abbrev pub OnTenants : Option Kept → (List Usage → Type 0) → Type 0 → Type 0
OnTenants (Some (kept.Tenants items)) holds otherwise = holds items
OnTenants _ holds otherwise = otherwise

-- what is so of a closed handle, and what of an open one
abbrev pub IfClosed : Option Kept → Type 0 → Type 0 → Type 0
IfClosed None holds otherwise = holds
IfClosed (Some k) holds otherwise = otherwise
