-- Definitions for private functions, in addition to specs/Uploads.
use Rattle.std.specs.Prelude.{◌≡◌, ℕ, Bool, List, Some, Ok, length}
use Rattle.b3_core.specs.Modes.{hash_of}
use Rattle.store_books.specs.Bare.{Bare}
use Rattle.store_books.specs.Books.{object_at}
use Rattle.store_core.specs.Model.{ModelObject, ModelStoreBooks, ModelStore}
use Rattle.store_journal.specs.Replay.{accepted_of, replay_of}
use Rattle.store_ledger.specs.Shares.{all_parts}
use Rattle.store_ledger.specs.declared.amounts.ShareAmounts.{ShareAmounts}
use Rattle.store_shared.specs.Cuts.{cut_of}
use Rattle.store_engines.specs.Uploads.{uploaded_text, HasObject}

-- an object of n bytes is filed at the address
abbrev pub IsFiled : ModelStoreBooks → List ℕ → ℕ → Type 0
IsFiled s address n = (o : ModelObject) × (object_at hash_of s address ≡ Some o) × (length o.content ≡ n)

-- An input that is filed at its hash, by an upload in parts of `part_chunks` chunks. The share is whole, and has the bytes and the number of
-- these parts, and nothing else.
pub record IsFiledInput (part_chunks : ℕ) (input address : List ℕ) (store : ModelStore) (share : ShareAmounts) : Type 0 where
  pub hash : address ≡ hash_of input
  pub whole : share.parts ≡ all_parts
  pub bytes : share.bytes ≡ length input
  pub calls : share.calls ≡ length (cut_of input part_chunks)
  pub filed : IsFiled store.state address share.bytes

-- What is written for a store with a filed upload: its journal is legal and results in an object at the address, and what it accepted is
-- what the share says.
pub record IsUploadReport (journal : Bool) (address : List ℕ) (share : ShareAmounts) (store : ModelStore) (text : List ℕ) : Type 0 where
  pub left : Bare
  pub legal : replay_of store.journal ≡ Ok left
  pub filed : HasObject left address share.bytes
  pub bytes : (accepted_of store.journal).bytes ≡ share.bytes
  pub calls : (accepted_of store.journal).calls ≡ share.calls
  pub text_is : text ≡ uploaded_text journal address share.bytes share.calls store.journal
