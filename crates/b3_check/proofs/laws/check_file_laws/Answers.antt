use Rattle.std.proofs.Common.{◌≡◌, ◌∙◌, List, ℕ, Ok, Err, Result, ap, sym}
use Rattle.std.specs.Result.{result_unwrap_or}
use Rattle.b3_check.specs.declared.fault.Fault.{Fault}
use Rattle.b3_check.specs.declared.line.Line.{Line}
use Rattle.b3_check.proofs.Grammar.{IsLine-text_of, line_at-from_IsLine, without_returns-kept}
use Rattle.b3_check.proofs.Returns.{without_returns-push}
use Rattle.b3_check.proofs.Written.{file_at-written_lines, first_of, last_of}
use Rattle.b3_check.proofs.laws.check_file_laws.Goals as goal

pub returns-clause-returns : goal.returns-clause-returns
returns-clause-returns c = (without_returns-push, without_returns-kept)

pub returns-clause-feeds : goal.returns-clause-feeds
returns-clause-feeds c = (first_of, last_of)

pub returns-clause-written : goal.returns-clause-written
returns-clause-written c = IsLine-text_of

abbrev said : List ℕ → List ℕ → Line
said digest name = record { digest = digest; name = name }

pub returns-clause-one_meaning : goal.returns-clause-one_meaning
returns-clause-one_meaning c = λ text digest name other_digest other_name h k.
    let same = sym (line_at-from_IsLine text digest name h) ∙ line_at-from_IsLine text other_digest other_name k in (
      ap (λ (r : Result Line Fault). (result_unwrap_or r (said digest name)).digest) same,
      ap (λ (r : Result Line Fault). (result_unwrap_or r (said digest name)).name) same,
    )

differ : (line : Line) (fault : Fault) → ◌≡◌ {A = Result Line Fault} (Ok line) (Err fault) → ⊥
differ line fault e = cc

pub returns-clause-faults : goal.returns-clause-faults
returns-clause-faults c = λ text digest name fault bad h. differ (said digest name) fault (sym (line_at-from_IsLine text digest name h) ∙ bad)

pub returns-clause-read_back : goal.returns-clause-read_back
returns-clause-read_back c = file_at-written_lines
