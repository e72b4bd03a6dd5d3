-- Definitions for private functions, in addition to specs/Model.
use Rattle.std.specs.Prelude.{ℕ, List}
use Rattle.b3_forest.specs.Uploads.{content_of}
use Rattle.store_books.specs.Books.{ModelOwnedUpload}

-- an open upload of bytes and an object of bytes, with their tenants
abbrev pub ModelStoreUpload : Type 0
ModelStoreUpload = ModelOwnedUpload (List ℕ)

-- an upload's parts, joined by offset
abbrev pub content : ModelStoreUpload → List ℕ
content u = content_of u.upload.parts
