-- The first words of lines with a command.
use Rattle.std.proofs.Common.{◌≡◌, List, Option, Some, None, codes, cond, refl, ℕ}
use Rattle.std.specs.Str.{bytes_eq}
use Rattle.edge.specs.Fields.{split_at, space}
use Rattle.edge.proofs.Steps.{by_kind, none_some}
use Rattle.store_lines.specs.Grammar.{by_word, command_forms, puts_at, question_forms, script_request_of_kind, split_line_at, word_command, word_fault, word_of}
use Rattle.store_core.specs.declared.command.Command.{Command}
use Rattle.store_core.specs.declared.store.questions.Question.{Question}
use Rattle.store_lines.proofs.Read.{or_found}
use Rattle.store_lines.specs.Spelling.{WordsAreKnown}
use Rattle.store_lines.specs.declared.bad_lines.LineFault.TheVariants.{BadFields}
use Rattle.store_lines.specs.declared.request.Request.{Request}

abbrev IsKnown : List ℕ → Type 0
IsKnown word = word_fault word ≡ BadFields

-- the word is this one, which is known, or the others decide
known_or : {A : Type 0} (kind word : List ℕ) (this other : Option A) (x : A) → IsKnown word → (other ≡ Some x → IsKnown kind) → cond (bytes_eq kind word) this other ≡ Some x → IsKnown kind
known_or kind word this other x known = by_kind IsKnown kind word this other x (λ _. known)

does_known : (kind fields : List ℕ) (x : Command) → by_word command_forms kind fields ≡ Some x → IsKnown kind
unfolding word_fault
does_known kind fields x =
    known_or kind (codes "tenant") _ _ x refl
    (known_or kind (codes "limit") _ _ x refl
    (known_or kind (codes "begin") _ _ x refl
    (known_or kind (codes "open") _ _ x refl
    (known_or kind (codes "fix") _ _ x refl
    (known_or kind (codes "seal") _ _ x refl
    (known_or kind (codes "sealas") _ _ x refl
    (known_or kind (codes "abort") _ _ x refl
    (known_or kind (codes "forget") _ _ x refl
    (λ h. absurd (none_some x h))))))))))

asks_known : (kind fields : List ℕ) (x : Question) → by_word question_forms kind fields ≡ Some x → IsKnown kind
unfolding word_fault
asks_known kind fields x =
    known_or kind (codes "fetch") _ _ x refl
    (known_or kind (codes "usage") _ _ x refl
    (known_or kind (codes "list") _ _ x refl
    (λ h. absurd (none_some x h))))

kind_known : (kind fields : List ℕ) (request : Request) → script_request_of_kind kind fields ≡ Some request → IsKnown kind
unfolding script_request_of_kind
kind_known kind fields request = or_found (λ _. IsKnown kind) (by_word command_forms kind fields) (by_word question_forms kind fields) request (does_known kind fields) (asks_known kind fields)

word_known : (word : List ℕ) (request : Request) → word_command word ≡ Some request → IsKnown word
unfolding word_fault
word_known word request = known_or word (codes "stat") _ _ request refl (known_or word (codes "journal") _ _ request refl (λ h. absurd (none_some request h)))

line_known : (line : List ℕ) (cut : Option (List ℕ × List ℕ)) (request : Request) → split_line_at line cut ≡ Some request → IsKnown (word_of line cut)
unfolding split_line_at word_fault
line_known line None request h = word_known line request h
line_known line (Some cut) request h = known_or cut.0 (codes "put") (puts_at cut.1) _ request refl (kind_known cut.0 cut.1 request) h

pub words_are_known : WordsAreKnown
words_are_known line request h = line_known line (split_at space line) request h
