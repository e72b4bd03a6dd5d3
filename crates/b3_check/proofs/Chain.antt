-- A chain of calls of names, one call longer.
use Rattle.std.proofs.Common.{ℕ, List, [], ◌∷◌, ◌++◌, refl, subst}
use Rattle.b3_check.specs.declared.file.NumberedLine.{NumberedLine}
use Rattle.b3_check.specs.Reports.{Answer, IsReport, IsVerdictBy, Verdict}

-- the verdict on one line more
pub IsReport-push : {S : Type 0} (gives : S → List ℕ → Answer → S → Type 0) (old mid new : S) (lines : List NumberedLine) (verdicts : List Verdict) (line : NumberedLine) (verdict : Verdict)
    → IsReport gives old lines verdicts mid → IsVerdictBy gives mid line.number line.line verdict new → IsReport gives old (lines ++ line ∷ []) (verdicts ++ verdict ∷ []) new
IsReport-push {S} gives old mid new [] [] line verdict h v = (new, subst (λ (s : S). IsVerdictBy gives s line.number line.line verdict new) h v, refl)
IsReport-push gives old mid new (first ∷ lines) (first_verdict ∷ verdicts) line verdict h v = (h.0, h.1, IsReport-push gives h.0 mid new lines verdicts line verdict h.2 v)
IsReport-push gives old mid new [] (first_verdict ∷ verdicts) line verdict h v = absurd h
IsReport-push gives old mid new (first ∷ lines) [] line verdict h v = absurd h
