-- How long the lines of commands are.
use Rattle.std.proofs.Common.{◌≡◌, ◌+◌, ◌<◌, ◌≤◌, ◌^◌, ℕ, List, ◌∷◌, ◌++◌, Some, None, refl, ap, arith, codes, inl, inr, length, length-append}
use Rattle.std.specs.Prelude.{Option}
use Rattle.std.specs.Fmt.{decimal}
use Rattle.std.proofs.lemmas.Fmt.{length-decimal-le}
use Rattle.hex.proofs.HexLemmas.{decode_sized-ok}
use Rattle.edge.specs.Fields.{three_fields, two_fields}
use Rattle.store_core.specs.declared.command.Command.{Command}
use Rattle.store_core.specs.declared.command.Command.TheVariants as commands
use Rattle.store_core.specs.declared.store.questions.Question.{Question}
use Rattle.store_core.specs.declared.store.questions.Question.TheVariants as questions
use Rattle.store_lines.specs.Grammar.{command_at}
use Rattle.store_lines.specs.declared.request.Request.{Request}
use Rattle.store_lines.specs.declared.request.Request.TheVariants.{Asks, Does, Entries, Put}
use Rattle.store_lines.specs.Lines.{max_line}
use Rattle.store_lines.specs.Spelling.{SpellsQuestion, SpellsCommand, IsNumberAndAddress, IsPart, IsSpelled, LongIsNone}
use Rattle.store_lines.proofs.Read.{found}

digits_few : (n : ℕ) → n < 2 ^ 64 → length (decimal n) ≤ 20
digits_few n lt = length-decimal-le 20 n (omega arith) (omega (arith, lt)) lt

one : (line word : List ℕ) (n : ℕ) → line ≡ word ++ decimal n → n < 2 ^ 64 → length word ≤ 10 → length line ≤ max_line
one line word n is lt few = omega (arith, ap length is, length-append word (decimal n), digits_few n lt, few)

two_few : (a b : List ℕ) (m n : ℕ) → length a ≤ m → length b ≤ n → length (two_fields a b) ≤ m + (n + 1)
two_few a b m n few less = omega (arith, length-append a (32 ∷ b), few, less)

two : (line word : List ℕ) (a b : ℕ) → line ≡ word ++ two_fields (decimal a) (decimal b) → a < 2 ^ 64 → b < 2 ^ 64 → length word ≤ 10 → length line ≤ max_line
two line word a b is la lb few =
    omega (arith, ap length is, length-append word (two_fields (decimal a) (decimal b)), two_few (decimal a) (decimal b) 20 20 (digits_few a la) (digits_few b lb), few)

held : (line word : List ℕ) (n : ℕ) (address : List ℕ) → IsNumberAndAddress line word n address → length word ≤ 10 → length line ≤ max_line
held line word n address h few =
    let digits : length h.0 ≤ 64 = omega (arith, decode_sized-ok h.0 32 address h.3) in
    omega (arith, ap length h.1, length-append word (two_fields (decimal n) h.0), two_few (decimal n) h.0 20 64 (digits_few n h.2) digits, few)

done : (line : List ℕ) (command : Command) → SpellsCommand line command → length line ≤ max_line
done line (commands.OpenTenant n) h = one line (codes "tenant ") n h.0 h.1 (omega arith)
done line (commands.SetLimit a b) h = two line (codes "limit ") a b h.0 h.1 h.2 (omega arith)
done line (commands.Begin a b) h = two line (codes "begin ") a b h.0 h.1 h.2 (omega arith)
done line (commands.BeginOpen a b) h = two line (codes "open ") a b h.0 h.1 h.2 (omega arith)
done line (commands.Fix a b) h = two line (codes "fix ") a b h.0 h.1 h.2 (omega arith)
done line (commands.Seal n) h = one line (codes "seal ") n h.0 h.1 (omega arith)
done line (commands.SealAs n a) h = held line (codes "sealas ") n a h (omega arith)
done line (commands.Abort n) h = one line (codes "abort ") n h.0 h.1 (omega arith)
done line (commands.Forget n a) h = held line (codes "forget ") n a h (omega arith)

asked : (line : List ℕ) (question : Question) → SpellsQuestion line question → length line ≤ max_line
asked line (questions.Fetch n a) h = held line (codes "fetch ") n a h (omega arith)
asked line (questions.Usage n) h = one line (codes "usage ") n h.0 h.1 (omega arith)
asked line (questions.List n) h = one line (codes "list ") n h.0 h.1 (omega arith)
asked line questions.Totals h = omega (arith, ap length h)
asked line _ h = absurd h

field_few : (offset : ℕ) (field bytes : List ℕ) → IsPart offset field bytes → length field ≤ 33554434
field_few offset field bytes (inl h) = omega (arith, ap length h.1, length-append (codes "x:") h.0, h.2)
field_few offset field bytes (inr h) = omega (arith, ap length h.1, length-append (codes "p:") (decimal h.0), digits_few h.0 (omega (arith, h.2)))

three_few : (a b c : List ℕ) (n : ℕ) → length a ≤ 20 → length b ≤ 20 → length c ≤ n → length (three_fields a b c) ≤ 42 + n
three_few a b c n few less least = omega (arith, length-append a (32 ∷ (b ++ 32 ∷ c)), length-append b (32 ∷ c), few, less, least)

spelled : (line : List ℕ) (command : Request) → IsSpelled line command → length line ≤ max_line
spelled line (Does command) h = done line command h
spelled line (Asks question) h = asked line question h
spelled line (Put part) h =
    omega (arith, ap length h.1, length-append (codes "put ") (three_fields (decimal part.upload) (decimal part.offset) h.0), three_few (decimal part.upload) (decimal part.offset) h.0 33554434 (digits_few part.upload h.2) (digits_few part.offset h.3) (field_few part.offset h.0 part.bytes h.4))
spelled line (Entries range) h = omega (arith, ap length h.0)
spelled line _ h = absurd h

pub long_is_none : LongIsNone
long_is_none line long = go (command_at line) refl
  where
    go : (o : Option Request) → command_at line ≡ o → o ≡ None
    go None is = refl
    go (Some command) is = absurd (omega (arith, spelled line command (found line command is), long))
