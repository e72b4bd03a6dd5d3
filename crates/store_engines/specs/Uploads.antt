-- What `upload` writes.
use Rattle.std.specs.Prelude.{◌≡◌, ◌⊎◌, ℕ, Bool, true, false, List, ◌++◌, Option, Some, Ok, [], codes, length}
use Rattle.std.specs.Io.KnownBytes.{Appends}
use Rattle.b3_check.specs.Lines.{written_line}
use Rattle.b3_core.specs.Modes.{hash_of}
use Rattle.store_books.specs.Bare.{Bare, label_address}
use Rattle.store_books.specs.Books.{Filed, max_workers, object_at}
use Rattle.store_books.specs.declared.content.ObjectLabel.{ObjectLabel}
use Rattle.store_journal.specs.Journal.{journal_text}
use Rattle.store_journal.specs.declared.version.Version.TheVariants.{Two}
use Rattle.store_books.specs.declared.refusal.Refusal.TheVariants as refusals
use Rattle.store_journal.specs.Replay.{accepted_of, replay_of}
use Rattle.store_journal.specs.declared.entry.Entry.{Entry}
use Rattle.store_shared.specs.Cuts.{IsBadCut, cut_of}
use Rattle.store_shared.specs.Faults.{fault_text}
use Rattle.store_shared.specs.Gates.{IsOwnFault}
use Rattle.store_shared.specs.declared.fault.UploadFaultKind.{UploadFaultKind}
use Rattle.store_shared.specs.declared.fault.UploadFaultKind.TheVariants.{BadCut, NoMemory, Refused}
use Rattle.store_engines.specs.Audits.{accepted_text}
use Rattle.edge.specs.Output.{WroteSome}
use Rattle.store_engines.specs.declared.uploading.UploadOptions.{UploadOptions}

-- the journal's text, if it is requested
abbrev pub journal_part : Bool → List Entry → List ℕ
journal_part true entries = journal_text Two entries
journal_part false entries = []

-- the check line of an address, what was accepted, and the journal's text if it is requested
abbrev pub uploaded_text : Bool → List ℕ → ℕ → ℕ → List Entry → List ℕ
uploaded_text journal address bytes calls entries =
    written_line (record { digest = address; name = codes "-" }) ++ (accepted_text bytes calls ++ (codes "\n" ++ journal_part journal entries))

-- books that have an object of n bytes at the address
abbrev pub HasObject : Bare → List ℕ → ℕ → Type 0
HasObject books address n = (o : Filed ObjectLabel) × (object_at label_address books address ≡ Some o) × (o.content.len ≡ n)

-- a legal journal, which results in an object of the input's length at its hash; its put entries are as many as the parts of the split
-- input, and have as many bytes as the input
pub record IsJournal (part_chunks : ℕ) (input : List ℕ) (entries : List Entry) : Type 0 where
  pub left : Bare
  pub legal : replay_of entries ≡ Ok left
  pub filed : HasObject left (hash_of input) (length input)
  pub bytes : (accepted_of entries).bytes ≡ length input
  pub calls : (accepted_of entries).calls ≡ length (cut_of input part_chunks)

-- a text that is written for an input that was filed
pub record IsUploadText (o : UploadOptions) (input text : List ℕ) : Type 0 where
  pub entries : List Entry
  pub journal : IsJournal o.part_chunks input entries
  pub is : text ≡ uploaded_text o.journal (hash_of input) (length input) (length (cut_of input o.part_chunks)) entries

-- the writer grew by it
abbrev pub WroteUpload : UploadOptions → List ℕ → Option (List ℕ) → Option (List ℕ) → Type 0
WroteUpload o input old new = (text : List ℕ) × IsUploadText o input text × Appends old new text

-- ---- failed uploads

-- it ran out of memory, in the store or elsewhere
abbrev pub is_memory : UploadFaultKind → Bool
is_memory NoMemory = true
is_memory (Refused refusals.NoMemory) = true
is_memory _ = false

-- the line of a failed upload
abbrev pub failed_text : UploadFaultKind → List ℕ
failed_text kind = codes "refused " ++ (fault_text kind ++ codes "\n")

-- why the store opened no tenant for the upload
abbrev pub IsUnopened : UploadFaultKind → Type 0
IsUnopened (Refused refusals.TenantsFull) = Unit {0}
IsUnopened (Refused refusals.JournalFull) = Unit {0}
IsUnopened (Refused refusals.NoMemory) = Unit {0}
IsUnopened _ = ⊥

-- Why an upload with these options may fail, if its gate passes all parts: with BadCut only if the numbers of workers or chunks are out of
-- range, and then in no other way once the store opened a tenant.
abbrev pub MayFail : UploadOptions → UploadFaultKind → Type 0
MayFail o BadCut = IsBadCut o.part_chunks o.workers max_workers
MayFail o kind = IsOwnFault kind × (IsBadCut o.part_chunks o.workers max_workers → IsUnopened kind)

-- the line of an upload with these options that failed, other than by running out of memory
abbrev pub IsRefusedText : UploadOptions → List ℕ → Type 0
IsRefusedText o text = (kind : UploadFaultKind) × MayFail o kind × (is_memory kind ≡ false) × (text ≡ failed_text kind)

-- the writer grew by it
abbrev pub SomeRefusal : UploadOptions → Option (List ℕ) → Option (List ℕ) → Type 0
SomeRefusal o old new = (text : List ℕ) × IsRefusedText o text × Appends old new text

-- ---- uploads that were stopped

-- a prefix of the line for running out of memory was written, which may be empty, or the whole line
abbrev pub WroteMemory : Option (List ℕ) → Option (List ℕ) → Type 0
WroteMemory old new = (kind : UploadFaultKind) × (is_memory kind ≡ true) × WroteSome old new (failed_text kind)

-- a prefix of what is written for an input was written
abbrev pub WrotePrefix : UploadOptions → List ℕ → Option (List ℕ) → Option (List ℕ) → Type 0
WrotePrefix o input old new = (text : List ℕ) × (IsUploadText o input text ⊎ IsRefusedText o text) × WroteSome old new text
