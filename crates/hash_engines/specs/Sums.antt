-- What `sum` writes.
use Rattle.std.specs.Prelude.{◌≡◌, ◌≢◌, ◌⊎◌, ℕ, Bool, true, false, List, [], ◌∷◌, ◌++◌, Option, Some, None, Result, Ok, Err, codes, IfErr, OnOk, if◌then◌else◌}
use Rattle.std.specs.List.{list_all}
use Rattle.std.specs.Io.KnownBytes.{Appends, IsAtEnd}
use Rattle.std.specs.Str.{IsUtf8}
use Rattle.hex.specs.Hex.{encode_lower}
use Rattle.b3_core.specs.Tree.{ModelTop, ModelMode, tree_top}
use Rattle.b3_core.specs.ExtendedOutput.{output_of}
use Rattle.b3_core.specs.Modes.{hash_mode, keyed_mode, derive_mode}
use Rattle.b3_check.specs.Lines.{written_line}
use Rattle.edge.specs.declared.outcome.Cause.{Cause}
use Rattle.edge.specs.declared.outcome.Cause.TheVariants.{CannotRead, CannotWrite, OutOfMemory}
use Rattle.edge.specs.declared.outcome.Verdict.{Verdict}
use Rattle.edge.specs.declared.outcome.Verdict.TheVariants.{Good, Refused}
use Rattle.edge.specs.Output.{WroteSome}
use Rattle.hash_engines.specs.declared.sources.FileFault.{FileFault}
use Rattle.hash_engines.specs.declared.sources.Reason.{Reason}
use Rattle.hash_engines.specs.declared.sources.Reason.TheVariants.{IsFolder, Missing, NoPermission, NotUtf8, Unreadable}
use Rattle.hash_engines.specs.declared.sources.FileFault.TheVariants.{Failed, NoMemory}
use Rattle.hash_engines.specs.declared.summing.SumMode.{SumMode}
use Rattle.hash_engines.specs.declared.summing.SumMode.TheVariants.{Hash, Keyed, Derive}

-- the mode that the options ask for
abbrev pub sum_mode : SumMode → ModelMode
sum_mode Hash = hash_mode
sum_mode (Keyed key) = keyed_mode key
sum_mode (Derive context) = derive_mode context.now

-- What is written for an input's root: without a length the check line of the hash and the name; with one the digits of that many bytes of
-- the extended output, and no name.
abbrev pub root_text : Option ℕ → List ℕ → ModelTop → List ℕ
root_text None name root = written_line (record { digest = output_of root 0 32; name = name })
root_text (Some len) name root = encode_lower (output_of root 0 len) ++ codes "\n"

-- what `sum` writes for an input
abbrev pub sum_text : Option ℕ → List ℕ → ModelMode → List ℕ → List ℕ
sum_text length name mode input = root_text length name (tree_top input 0 mode)

-- ---- files

-- a reason as a message
abbrev pub reason_text : Reason → List ℕ
reason_text Missing = codes "no such file"
reason_text IsFolder = codes "it is a folder"
reason_text NoPermission = codes "no permission"
reason_text NotUtf8 = codes "the name is not UTF-8"
reason_text Unreadable = codes "it can't be read"

-- a source's result for a name, if it does not stop: the root of its file, or why there is none
abbrev pub RootAnswer : Type 0
RootAnswer = Result ModelTop Reason

-- a name was asked for; if there is no root, the reason was reported
abbrev pub IsRootAnswer : {S : Type 0} → (S → List ℕ → Result ModelTop FileFault → S → Type 0) → (S → List ℕ → Reason → S → Type 0) → S → List ℕ → RootAnswer → S → Type 0
IsRootAnswer gives reports old name (Ok root) new = gives old name (Ok root) new
IsRootAnswer {S} gives reports old name (Err reason) new = (mid : S) × gives old name (Err (Failed reason)) mid × reports mid name reason new

-- A chain of answers, one for each name, in order, each in the state that the one before left.
abbrev pub AreRootAnswers : {S : Type 0} → (S → List ℕ → Result ModelTop FileFault → S → Type 0) → (S → List ℕ → Reason → S → Type 0) → S → List (List ℕ) → List RootAnswer → S → Type 0
AreRootAnswers gives reports old [] [] new = new ≡ old
AreRootAnswers {S} gives reports old (name ∷ names) (answer ∷ answers) new = (mid : S) × IsRootAnswer gives reports old name answer mid × AreRootAnswers gives reports mid names answers new
AreRootAnswers gives reports old [] (answer ∷ answers) new = ⊥
AreRootAnswers gives reports old (name ∷ names) [] new = ⊥

-- what is written for an answer: a line if there is a root, otherwise nothing
abbrev pub root_answer_text : Option ℕ → List ℕ → RootAnswer → List ℕ
root_answer_text length name (Ok root) = root_text length name root
root_answer_text length name (Err reason) = []

-- what is written for answers to the names, in order
abbrev pub root_answers_text : Option ℕ → List (List ℕ) → List RootAnswer → List ℕ
root_answers_text length (name ∷ names) (answer ∷ answers) = root_answer_text length name answer ++ root_answers_text length names answers
root_answers_text length [] answers = []
root_answers_text length names [] = []

abbrev pub has_root : RootAnswer → Bool
has_root (Ok root) = true
has_root (Err reason) = false

-- good if and only if there is a root for each name
abbrev pub root_answers_verdict : List RootAnswer → Verdict
root_answers_verdict answers = if list_all has_root answers then Good else Refused

-- What stopped it, at a name: there was a root for it, and a prefix of its text was written; or there was no memory, in the source or for
-- the text of a root, and nothing was written.
abbrev pub IsStoppedAt : {S : Type 0} → (S → List ℕ → Result ModelTop FileFault → S → Type 0) → Option ℕ → Cause → S → List ℕ → S → Option (List ℕ) → Option (List ℕ) → Type 0
IsStoppedAt gives length CannotRead old name new before after = ⊥
IsStoppedAt gives length CannotWrite old name new before after = (root : ModelTop) × gives old name (Ok root) new × WroteSome before after (root_text length name root)
IsStoppedAt gives length OutOfMemory old name new before after = (gives old name (Err NoMemory) new ⊎ ((root : ModelTop) × gives old name (Ok root) new)) × (after ≡ before)

-- The names before the one at which it stopped were answered, and their texts were written.
pub record IsSumStopped {S : Type 0} (gives : S → List ℕ → Result ModelTop FileFault → S → Type 0) (reports : S → List ℕ → Reason → S → Type 0) (length : Option ℕ) (old : S) (names : List (List ℕ)) (cause : Cause) (new : S) (before after : Option (List ℕ)) : Type 0 where
  pub front : List (List ℕ)
  pub name : List ℕ
  pub back : List (List ℕ)
  pub answers : List RootAnswer
  pub mid : S
  pub grown : Option (List ℕ)
  pub all : front ++ name ∷ back ≡ names
  pub answered : AreRootAnswers gives reports old front answers mid
  pub wrote : Appends before grown (root_answers_text length front answers)
  pub stopped : IsStoppedAt gives length cause mid name new grown after

-- why an open or a read may fail: not for the name's bytes
abbrev pub IsReadFault : FileFault → Type 0
IsReadFault fault = fault ≢ Failed NotUtf8

-- the possible results for a file's name: the fault for a name that is not UTF-8 is returned if and only if the name is not UTF-8
abbrev pub IsRootOfFile : List ℕ → Result ModelTop FileFault → Type 0
IsRootOfFile name answer = (IsUtf8 name × IfErr answer IsReadFault) ⊎ ((IsUtf8 name → ⊥) × (answer ≡ Err (Failed NotUtf8)))

-- the possible results in a mode, of the system's files or another source of some bytes: a root is that of some bytes
abbrev pub IsRootOfSome : ModelMode → Result ModelTop FileFault → Type 0
IsRootOfSome mode (Ok root) = (bytes : List ℕ) × (root ≡ tree_top bytes 0 mode)
IsRootOfSome mode (Err fault) = Unit {0}

-- for an input with known bytes, a root is that of all its remaining bytes
abbrev pub IsRootOfLeft : Option (List ℕ) → ModelMode → Result ModelTop FileFault → Type 0
IsRootOfLeft None mode answer = Unit {0}
IsRootOfLeft (Some left) mode (Ok root) = root ≡ tree_top left 0 mode
IsRootOfLeft (Some left) mode (Err fault) = Unit {0}

-- the possible results for the file with this name
abbrev pub IsRootOfNamed : (List ℕ → Option (List ℕ)) → ModelMode → List ℕ → Result ModelTop FileFault → Type 0
IsRootOfNamed contents mode name answer = IsRootOfFile name answer × IsRootOfLeft (contents name) mode answer

-- the possible results for an input, which after a root is at its end; if there is none, those for a file
abbrev pub IsRootOfInput : {I : Type 0} → (I → Option (List ℕ)) → ModelMode → (Result ModelTop FileFault → Type 0) → Option I → Result ModelTop FileFault → Option I → Type 0
IsRootOfInput remaining mode of_file None answer new = of_file answer × (new ≡ None)
IsRootOfInput remaining mode of_file (Some old) answer None = ⊥
IsRootOfInput remaining mode of_file (Some old) answer (Some new) = OnOk answer (IsAtEnd (remaining new)) × IfErr answer IsReadFault × IsRootOfLeft (remaining old) mode answer
