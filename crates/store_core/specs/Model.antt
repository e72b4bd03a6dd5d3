-- The store that commands are about: the books over parts and objects with bytes, and the journal. It keeps no hash, no tree value and no
-- sum: an object's address is the hash of its bytes.
use Rattle.std.specs.Prelude.{◌≡◌, ◌<◌, ℕ, List, [], ◌∷◌, length}
use Rattle.b3_forest.specs.Parts.{HeldPart}
use Rattle.store_books.specs.Books.{ModelBooks, Filed, empty_books}
use Rattle.store_books.specs.declared.limits.Limits.{Limits}
use Rattle.store_journal.specs.declared.entry.Entry.{Entry}
use Rattle.store_upload.specs.Uploads.{end_of}

abbrev pub ModelObject : Type 0
ModelObject = Filed (List ℕ)

abbrev pub ModelStoreBooks : Type 0
ModelStoreBooks = ModelBooks (List ℕ) (List ℕ)

-- a store and its journal
pub record ModelStore : Type 0 where
  pub state : ModelStoreBooks
  pub journal : List Entry

-- an empty store
abbrev pub start : Limits → ModelStore
start l = record { state = empty_books l.tenants l.entries l.workers; journal = [] }

-- parts with bytes, the first at offset a, and each other one where the one before it ends
abbrev pub AreJoined : ℕ → List HeldPart → Type 0
AreJoined a [] = Unit {0}
AreJoined a (p ∷ ps) = (p.0 ≡ a) × (0 < length p.1) × AreJoined (end_of length p) ps
