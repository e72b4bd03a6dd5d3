-- The grammar and the answers compute to worked rows.
use Rattle.std.proofs.Common.{◌≡◌, ◌∷◌, ◌++◌, ℕ, List, [], Some, None, Ok, Err, refl, false, codes}
use Rattle.std.specs.Prelude.{⊤, Option}
use Rattle.std.specs.Fmt.{digits}
use Rattle.hex.proofs.OnLiterals.{hex_on_literals}
use Rattle.store_upload.specs.declared.refusal.PartFault.TheVariants as faults
use Rattle.store_upload.specs.Uploads.{closed_plan}
use Rattle.store_books.specs.declared.refusal.Refusal.TheVariants as refusals
use Rattle.edge.specs.Lines.{lines_of}
use Rattle.store_core.specs.declared.command.Command.TheVariants as commands
use Rattle.store_core.specs.declared.store.questions.Question.TheVariants as questions
use Rattle.store_core.specs.Runs.{ask}
use Rattle.store_core.specs.declared.store.questions.Reply.TheVariants as replies
use Rattle.store_lines.specs.Grammar.{address_of_digits, script_request_of_kind, bytes_of_kind, command_at, fault_at, pattern_of, split_line_at, word_fault}
use Rattle.store_lines.specs.declared.bad_lines.LineFault.TheVariants.{BadFields, UnknownCommand}
use Rattle.store_lines.specs.declared.request.Request.{Request}
use Rattle.store_lines.specs.declared.request.Request.TheVariants.{Asks, Does, Put}
use Rattle.store_lines.specs.Script.{bad, ending_of, skipped, took, turn_text, unmade}
use Rattle.store_lines.specs.Questions.{answer_text}
use Rattle.store_lines.specs.declared.ending.Ending.TheVariants as endings

unfoldable on_literals : ⊤
unfolding hex_on_literals digits lines_of address_of_digits script_request_of_kind bytes_of_kind split_line_at pattern_of word_fault
on_literals = tt

-- ---- lines

abbrev none : Option Request
none = None

-- the bytes 0 to 31, by digits of both cases
abbrev address_digits : List ℕ
address_digits = codes "000102030405060708090A0b0C0d0E0f101112131415161718191a1B1c1D1e1F"

abbrev address_bytes : List ℕ
address_bytes = 0 ∷ 1 ∷ 2 ∷ 3 ∷ 4 ∷ 5 ∷ 6 ∷ 7 ∷ 8 ∷ 9 ∷ 10 ∷ 11 ∷ 12 ∷ 13 ∷ 14 ∷ 15 ∷ 16 ∷ 17 ∷ 18 ∷ 19 ∷ 20 ∷ 21 ∷ 22 ∷ 23 ∷ 24 ∷ 25 ∷ 26 ∷ 27 ∷ 28 ∷ 29 ∷ 30 ∷ 31 ∷ []

opens : command_at (codes "tenant 4096") ≡ Some (Does (commands.OpenTenant 4096))
unfolding on_literals
opens = refl

begins : command_at (codes "begin 0 18446744073709551615") ≡ Some (Does (commands.Begin 0 18446744073709551615))
unfolding on_literals
begins = refl

begins_open : command_at (codes "open 0 4096") ≡ Some (Does (commands.BeginOpen 0 4096))
unfolding on_literals
begins_open = refl

fixes : command_at (codes "fix 3 2048") ≡ Some (Does (commands.Fix 3 2048))
unfolding on_literals
fixes = refl

limits : command_at (codes "limit 3 0") ≡ Some (Does (commands.SetLimit 3 0))
unfolding on_literals
limits = refl

asks_totals : command_at (codes "stat") ≡ Some (Asks questions.Totals)
unfolding on_literals
asks_totals = refl

seals_as : command_at (codes "sealas 7 " ++ address_digits) ≡ Some (Does (commands.SealAs 7 address_bytes))
unfolding on_literals
seals_as = refl

puts_digits : command_at (codes "put 1 2 x:0aFF") ≡ Some (Put (record { upload = 1; offset = 2; bytes = 10 ∷ 255 ∷ [] }))
unfolding on_literals
puts_digits = refl

puts_nothing : command_at (codes "put 1 2 x:") ≡ Some (Put (record { upload = 1; offset = 2; bytes = [] }))
unfolding on_literals
puts_nothing = refl

-- the pattern goes on from the offset
puts_pattern : command_at (codes "put 0 249 p:4") ≡ Some (Put (record { upload = 0; offset = 249; bytes = 249 ∷ 250 ∷ 0 ∷ 1 ∷ [] }))
unfolding on_literals
puts_pattern = refl

-- outside the grammar: two spaces, a space at the end, a leading zero, a sign, a number of 2 ^ 64, other words, an odd number of
-- digits, a pattern that is too long, an address that is too short
two_spaces : command_at (codes "tenant  5") ≡ none
unfolding on_literals
two_spaces = refl

last_space : command_at (codes "stat ") ≡ none
unfolding on_literals
last_space = refl

leading_zero : command_at (codes "tenant 007") ≡ none
unfolding on_literals
leading_zero = refl

sign : command_at (codes "seal +1") ≡ none
unfolding on_literals
sign = refl

too_large : command_at (codes "begin 0 18446744073709551616") ≡ none
unfolding on_literals
too_large = refl

other_word : command_at (codes "frob") ≡ none
unfolding on_literals
other_word = refl

odd_digits : command_at (codes "put 0 0 x:0") ≡ none
unfolding on_literals
odd_digits = refl

long_pattern : command_at (codes "put 0 0 p:33554433") ≡ none
unfolding on_literals
long_pattern = refl

short_address : command_at (codes "forget 0 00") ≡ none
unfolding on_literals
short_address = refl

unknown_word : fault_at (codes "putb 0 0 5") ≡ Some UnknownCommand
unfolding on_literals
unknown_word = refl

word_alone : fault_at (codes "tenant") ≡ Some BadFields
unfolding on_literals
word_alone = refl

field_too_many : fault_at (codes "stat 0") ≡ Some BadFields
unfolding on_literals
field_too_many = refl

no_fault : fault_at (codes "stat") ≡ None
unfolding on_literals
no_fault = refl

-- ---- answers

opened : answer_text (Ok (replies.Tenant 12)) ≡ codes "tenant 12\n"
unfolding on_literals
opened = refl

held : answer_text (Ok (replies.Held (record { held = 1025; missing = Some 1024 }))) ≡ codes "held 1025 missing 1024\n"
unfolding on_literals
held = refl

all_held : answer_text (Ok (replies.Held (record { held = 1; missing = None }))) ≡ codes "held 1 all\n"
unfolding on_literals
all_held = refl

sealed : answer_text (Ok (replies.Sealed (record { address = 10 ∷ 255 ∷ []; new = false; bytes = 0 ∷ []; released = record { plan = closed_plan 1; end = Some 1; parts = [] } }))) ≡ codes "known 0aff 1\n"
unfolding on_literals
sealed = refl

no_object_bytes : answer_text (Ok (replies.Object [])) ≡ codes "object 0 -\n"
unfolding on_literals
no_object_bytes = refl

object_bytes : answer_text (Ok (replies.Object (10 ∷ 255 ∷ []))) ≡ codes "object 2 0aff\n"
unfolding on_literals
object_bytes = refl

listed : answer_text (Ok (replies.List ((10 ∷ [], 3) ∷ (11 ∷ [], 0) ∷ []))) ≡ codes "list 2\n0a 3\n0b 0\n"
unfolding on_literals
listed = refl

paged : answer_text (Ok (replies.Objects (record { objects = (10 ∷ [], 3) ∷ (11 ∷ [], 0) ∷ []; next = 8 }))) ≡ codes "objects 8 2\n0a 3\n0b 0\n"
unfolding on_literals
paged = refl

no_page : answer_text (Ok (replies.Objects (record { objects = []; next = 18446744073709551615 }))) ≡ codes "objects 18446744073709551615 0\n"
unfolding on_literals
no_page = refl

below_use : answer_text (Err (refusals.BelowUse 5)) ≡ codes "refused S4 use 5\n"
unfolding on_literals
below_use = refl

wrong_address : answer_text (Err (refusals.WrongAddress (171 ∷ []))) ≡ codes "refused S11 found ab\n"
unfolding on_literals
wrong_address = refl

unmade_part : turn_text (unmade faults.OffAlign) ≡ codes "refused F3\n"
unmade_part = refl

no_memory : turn_text (unmade faults.NoMemory) ≡ codes "refused S14\n"
no_memory = refl

-- ---- lines of a text, and endings

three_lines : lines_of (codes "a\n\nb") ≡ codes "a" ∷ [] ∷ codes "b" ∷ []
unfolding on_literals
three_lines = refl

ends_refused : ending_of (skipped ∷ bad ∷ took (ask questions.Totals) (Ok (replies.Tenant 0)) ∷ []) ≡ endings.Refused
ends_refused = refl

ends_without_memory : ending_of (took (ask questions.Totals) (Err refusals.NoMemory) ∷ bad ∷ []) ≡ endings.OutOfMemory
ends_without_memory = refl
