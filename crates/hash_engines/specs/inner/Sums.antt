-- Definitions for private functions, in addition to specs/Sums.
use Rattle.std.specs.Prelude.{◌≡◌, ℕ, List, Option, Result, if◌then◌else◌}
use Rattle.std.specs.Io.KnownBytes.{Appends}
use Rattle.b3_core.specs.Tree.{ModelTop}
use Rattle.edge.specs.declared.outcome.Verdict.{Verdict}
use Rattle.edge.specs.declared.outcome.Verdict.TheVariants.{Good, Refused}
use Rattle.hash_engines.specs.declared.sources.FileFault.{FileFault}
use Rattle.hash_engines.specs.declared.sources.Reason.{Reason}
use Rattle.hash_engines.specs.Sums.{RootAnswer, IsRootAnswer, root_answer_text, has_root}

-- ---- files

-- good if both are
abbrev pub both : Verdict → Verdict → Verdict
both Good second = second
both Refused second = Refused

-- ---- one file

-- a name was answered, the text of the answer was written, and the verdict is on it
pub record IsSumOf {S : Type 0} (gives : S → List ℕ → Result ModelTop FileFault → S → Type 0) (reports : S → List ℕ → Reason → S → Type 0) (length : Option ℕ) (old : S) (name : List ℕ) (new : S) (before after : Option (List ℕ)) (verdict : Verdict) : Type 0 where
  pub answer : RootAnswer
  pub answered : IsRootAnswer gives reports old name answer new
  pub wrote : Appends before after (root_answer_text length name answer)
  pub good : verdict ≡ (if has_root answer then Good else Refused)
