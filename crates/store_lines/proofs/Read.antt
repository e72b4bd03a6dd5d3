-- A line is read exactly where it is spelled so.
use Rattle.std.proofs.Common.{◌≡◌, ◌∙◌, ◌<◌, ◌≤◌, ◌^◌, ℕ, Bool, true, List, ◌∷◌, ◌++◌, Some, None, Ok, Err, Result, refl, ap, sym, subst, arith, cond, codes, inl, inr, length, nat_le}
use Rattle.std.specs.Prelude.{Option}
use Rattle.std.specs.Fmt.{decimal}
use Rattle.std.specs.Str.{bytes_eq}
use Rattle.std.proofs.lemmas.Bool.{leb-true, le-leb}
use Rattle.std.proofs.lemmas.Slice.Eq.{bytes_eq-Decides}
use Rattle.hex.specs.Hex.{decode_of, decode_sized}
use Rattle.hex.specs.declared.error.FromHexError.{FromHexError}
use Rattle.edge.specs.Fields.{split_at, number_at, space, three_fields, two_fields}
use Rattle.store_core.specs.declared.command.Command.{Command}
use Rattle.store_core.specs.declared.command.Command.TheVariants as commands
use Rattle.store_core.specs.declared.store.questions.Question.{Question}
use Rattle.store_core.specs.declared.store.questions.Question.TheVariants as questions
use Rattle.edge.proofs.FieldTexts.{split_again, split_found, decimal_spaceless, number_again, one_again, one_found, pair_again, pair_found}
use Rattle.edge.proofs.Steps.{bind_is, bind_some, by_kind, chosen, none_some, some_is}
use Rattle.edge.proofs.Numbers.{read_back}
use Rattle.store_lines.specs.Grammar.{address_of_digits, by_word, bytes_of_kind, colon, command_at, command_forms, command_or, decoded, digits_at, held_at, max_digits, max_pattern, of_held, part_bytes_at, pattern_at, pattern_of, puts_at, question_forms, script_request_of_kind, split_line_at, whole_journal, word_command}
use Rattle.store_lines.specs.declared.request.EntryRange.{EntryRange}
use Rattle.store_lines.specs.declared.request.Request.{Request}
use Rattle.store_lines.specs.declared.request.Request.TheVariants.{Asks, Does, Entries, Put}
use Rattle.store_lines.specs.Spelling.{SpellsQuestion, SpellsCommand, IsPart, IsSpelled}

-- ---- fields

decoded_found : (r : Result (List ℕ) FromHexError) (bytes : List ℕ) → decoded r ≡ Some bytes → r ≡ Ok bytes
decoded_found (Ok x) bytes h = ap (λ (b : List ℕ). let ok : Result (List ℕ) FromHexError = Ok b in ok) (some_is _ _ h)
decoded_found (Err fault) bytes h = absurd (none_some bytes h)

address_found : (digits address : List ℕ) → address_of_digits digits ≡ Some address → decode_sized digits 32 ≡ Ok address
unfolding address_of_digits
address_found digits address h = decoded_found (decode_sized digits 32) address h

address_again : (digits address : List ℕ) → decode_sized digits 32 ≡ Ok address → address_of_digits digits ≡ Some address
unfolding address_of_digits
address_again digits address h = ap decoded h

-- a number and an address
abbrev IsHeld : List ℕ → ℕ × List ℕ → Type 0
IsHeld fields x = (digits : List ℕ) × (fields ≡ two_fields (decimal x.0) digits) × (x.0 < 2 ^ 64) × (decode_sized digits 32 ≡ Ok x.1)

held_found : (fields : List ℕ) (x : ℕ × List ℕ) → held_at fields ≡ Some x → IsHeld fields x
held_found fields x h =
    let cut = bind_some (split_at space fields) _ x h in
    let number = bind_some (number_at cut.0.0) _ x cut.2 in
    let address = bind_some (address_of_digits cut.0.1) _ x number.2 in
    let is : (number.0, address.0) ≡ x = some_is _ _ address.2 in
    let read = read_back cut.0.0 number.0 number.1 in
    let text : fields ≡ two_fields (decimal number.0) cut.0.1 = sym (split_found space fields cut.0 cut.1) ∙ ap (λ (w : List ℕ). w ++ space ∷ cut.0.1) (sym read.0) in
    subst (IsHeld fields) is (cut.0.1, text, read.1, address_found cut.0.1 address.0 address.1)

held_again : (number : ℕ) (digits address : List ℕ) → number < 2 ^ 64 → decode_sized digits 32 ≡ Ok address → held_at (two_fields (decimal number) digits) ≡ Some (number, address)
held_again number digits address lt read =
    bind_is (split_at space (two_fields (decimal number) digits)) _ (decimal number, digits) (split_again space (decimal number) digits (decimal_spaceless number lt))
    ∙ bind_is (number_at (decimal number)) _ number (number_again number lt) ∙ bind_is (address_of_digits digits) _ address (address_again digits address read)

held_form_found : {A : Type 0} (P : List ℕ → A → Type 0) (fields : List ℕ) (make : ℕ → List ℕ → A) (x : A)
    → ((n : ℕ) (digits address : List ℕ) → n < 2 ^ 64 → decode_sized digits 32 ≡ Ok address → P (two_fields (decimal n) digits) (make n address)) → of_held make fields ≡ Some x → P fields x
held_form_found P fields make x f h =
    let held = bind_some (held_at fields) _ x h in
    let t = held_found fields held.0 held.1 in
    subst (λ (w : List ℕ). P w x) (sym t.1) (subst (P (two_fields (decimal held.0.0) t.0)) (some_is _ _ held.2) (f held.0.0 t.0 held.0.1 t.2 t.3))

held_form_again : {A : Type 0} (make : ℕ → List ℕ → A) (n : ℕ) (digits address : List ℕ) → n < 2 ^ 64 → decode_sized digits 32 ≡ Ok address → of_held make (two_fields (decimal n) digits) ≡ Some (make n address)
held_form_again make n digits address lt is = bind_is (held_at (two_fields (decimal n) digits)) _ (n, address) (held_again n digits address lt is)

-- ---- commands and questions

-- the command is spelled by the word and the fields, or the question is
abbrev DoesBy : List ℕ → List ℕ → Command → Type 0
DoesBy word fields command = SpellsCommand (word ++ space ∷ fields) command

abbrev AsksBy : List ℕ → List ℕ → Question → Type 0
AsksBy word fields question = SpellsQuestion (word ++ space ∷ fields) question

command_found : (word fields : List ℕ) (x : Command) → by_word command_forms word fields ≡ Some x → DoesBy word fields x
command_found word fields x =
    let by = by_kind (λ w. DoesBy w fields x) word in
    by (codes "tenant") _ _ x (one_found (DoesBy (codes "tenant")) fields _ x (λ n lt. (refl, lt)))
    (by (codes "limit") _ _ x (pair_found (DoesBy (codes "limit")) fields _ x (λ a b la lb. (refl, la, lb)))
    (by (codes "begin") _ _ x (pair_found (DoesBy (codes "begin")) fields _ x (λ a b la lb. (refl, la, lb)))
    (by (codes "open") _ _ x (pair_found (DoesBy (codes "open")) fields _ x (λ a b la lb. (refl, la, lb)))
    (by (codes "fix") _ _ x (pair_found (DoesBy (codes "fix")) fields _ x (λ a b la lb. (refl, la, lb)))
    (by (codes "seal") _ _ x (one_found (DoesBy (codes "seal")) fields _ x (λ n lt. (refl, lt)))
    (by (codes "sealas") _ _ x (held_form_found (DoesBy (codes "sealas")) fields _ x (λ n digits address lt is. (digits, refl, lt, is)))
    (by (codes "abort") _ _ x (one_found (DoesBy (codes "abort")) fields _ x (λ n lt. (refl, lt)))
    (by (codes "forget") _ _ x (held_form_found (DoesBy (codes "forget")) fields _ x (λ n digits address lt is. (digits, refl, lt, is)))
    (λ h. absurd (none_some x h))))))))))

question_found : (word fields : List ℕ) (x : Question) → by_word question_forms word fields ≡ Some x → AsksBy word fields x
question_found word fields x =
    let by = by_kind (λ w. AsksBy w fields x) word in
    by (codes "fetch") _ _ x (held_form_found (AsksBy (codes "fetch")) fields _ x (λ n digits address lt is. (digits, refl, lt, is)))
    (by (codes "usage") _ _ x (one_found (AsksBy (codes "usage")) fields _ x (λ n lt. (refl, lt)))
    (by (codes "list") _ _ x (one_found (AsksBy (codes "list")) fields _ x (λ n lt. (refl, lt)))
    (λ h. absurd (none_some x h))))

-- what holds of the command, or else of the question
pub or_found : (P : Request → Type 0) (c : Option Command) (q : Option Question) (request : Request) → ((x : Command) → c ≡ Some x → P (Does x)) → ((x : Question) → q ≡ Some x → P (Asks x))
    → command_or c q ≡ Some request → P request
or_found P (Some x) q request f g h = subst P (some_is _ _ h) (f x refl)
or_found P None (Some x) request f g h = subst P (some_is _ _ h) (g x refl)
or_found P None None request f g h = absurd (none_some request h)

script_request_found : (word fields : List ℕ) (request : Request) → script_request_of_kind word fields ≡ Some request → IsSpelled (word ++ space ∷ fields) request
unfolding script_request_of_kind
script_request_found word fields request = or_found (IsSpelled (word ++ space ∷ fields)) (by_word command_forms word fields) (by_word question_forms word fields) request (command_found word fields) (question_found word fields)

word_found : (word : List ℕ) (command : Request) → word_command word ≡ Some command → IsSpelled word command
word_found word command h =
    elim (chosen (bytes_eq word (codes "stat")) (Some (Asks questions.Totals)) _ (Some command) h) [
      | inl p ↦ subst (IsSpelled word) (some_is _ _ p.1) ((bytes_eq-Decides word (codes "stat")).0 p.0)
      | inr q ↦
          elim (chosen (bytes_eq word (codes "journal")) (Some (Entries whole_journal)) None (Some command) q.1) [
            | inl p ↦ subst (IsSpelled word) (some_is _ _ p.1) ((bytes_eq-Decides word (codes "journal")).0 p.0, refl)
            | inr p ↦ absurd (none_some command p.1)
          ]
    ]

-- ---- a part's bytes

pattern_found : (offset : ℕ) (o : Option ℕ) (bytes : List ℕ) → pattern_at offset o ≡ Some bytes → (len : ℕ) × (o ≡ Some len) × (len ≤ max_pattern) × (bytes ≡ pattern_of offset len)
pattern_found offset None bytes h = absurd (none_some bytes h)
pattern_found offset (Some len) bytes h =
    elim (chosen (nat_le len max_pattern) (Some (pattern_of offset len)) None (Some bytes) h) [
      | inl p ↦ (len, refl, leb-true len max_pattern p.0, sym (some_is _ _ p.1))
      | inr p ↦ absurd (none_some bytes p.1)
    ]

-- by the word in front of the colon
abbrev IsPartBy : ℕ → List ℕ → List ℕ → List ℕ → Type 0
IsPartBy offset kind digits bytes = IsPart offset (kind ++ colon ∷ digits) bytes

digits_found : (offset : ℕ) (digits bytes : List ℕ) → digits_at digits ≡ Some bytes → IsPartBy offset (codes "x") digits bytes
digits_found offset digits bytes h =
    elim (chosen (nat_le (length digits) max_digits) (decoded (decode_of digits)) None (Some bytes) h) [
      | inl p ↦ inl (digits, refl, leb-true (length digits) max_digits p.0, decoded_found (decode_of digits) bytes p.1)
      | inr p ↦ absurd (none_some bytes p.1)
    ]

patterned : (offset : ℕ) (digits bytes : List ℕ) → pattern_at offset (number_at digits) ≡ Some bytes → IsPartBy offset (codes "p") digits bytes
patterned offset digits bytes h =
    let found = pattern_found offset (number_at digits) bytes h in
    let read = read_back digits found.0 found.1 in
    inr (found.0, ap (λ (w : List ℕ). codes "p:" ++ w) (sym read.0), found.2, found.3)

kind_found : (offset : ℕ) (kind digits bytes : List ℕ) → bytes_of_kind offset kind digits ≡ Some bytes → IsPartBy offset kind digits bytes
unfolding bytes_of_kind
kind_found offset kind digits bytes h =
    elim (chosen (bytes_eq kind (codes "x")) (digits_at digits) _ (Some bytes) h) [
      | inl p ↦ subst (λ (w : List ℕ). IsPartBy offset w digits bytes) (sym ((bytes_eq-Decides kind (codes "x")).0 p.0)) (digits_found offset digits bytes p.1)
      | inr q ↦
          elim (chosen (bytes_eq kind (codes "p")) (pattern_at offset (number_at digits)) None (Some bytes) q.1) [
            | inl p ↦ subst (λ (w : List ℕ). IsPartBy offset w digits bytes) (sym ((bytes_eq-Decides kind (codes "p")).0 p.0)) (patterned offset digits bytes p.1)
            | inr p ↦ absurd (none_some bytes p.1)
          ]
    ]

bytes_found : (offset : ℕ) (field bytes : List ℕ) → part_bytes_at offset field ≡ Some bytes → IsPart offset field bytes
bytes_found offset field bytes h =
    let cut = bind_some (split_at colon field) _ bytes h in
    subst (λ (w : List ℕ). IsPart offset w bytes) (split_found colon field cut.0 cut.1) (kind_found offset cut.0.0 cut.0.1 bytes cut.2)

puts_text : (a b u o field others fields : List ℕ) → a ++ space ∷ others ≡ fields → b ++ space ∷ field ≡ others → u ≡ a → o ≡ b → codes "put " ++ fields ≡ codes "put " ++ three_fields u o field
puts_text a b u o field others fields first second eu eo = rw (eu, eo, second, first) refl

puts_found : (fields : List ℕ) (command : Request) → puts_at fields ≡ Some command → IsSpelled (codes "put " ++ fields) command
puts_found fields command h =
    let cut = bind_some (split_at space fields) _ command h in
    let upload = bind_some (number_at cut.0.0) _ command cut.2 in
    let others = bind_some (split_at space cut.0.1) _ command upload.2 in
    let offset = bind_some (number_at others.0.0) _ command others.2 in
    let bytes = bind_some (part_bytes_at offset.0 others.0.1) _ command offset.2 in
    let u = read_back cut.0.0 upload.0 upload.1 in
    let o = read_back others.0.0 offset.0 offset.1 in
    let text = puts_text cut.0.0 others.0.0 (decimal upload.0) (decimal offset.0) others.0.1 cut.0.1 fields (split_found space fields cut.0 cut.1) (split_found space cut.0.1 others.0 others.1) u.0 o.0 in
    subst (IsSpelled (codes "put " ++ fields)) (some_is _ _ bytes.2) (others.0.1, text, u.1, o.1, bytes_found offset.0 others.0.1 bytes.0 bytes.1)

-- ---- a line

line_found : (line : List ℕ) (cut : Option (List ℕ × List ℕ)) (command : Request) → split_at space line ≡ cut → split_line_at line cut ≡ Some command → IsSpelled line command
unfolding split_line_at
line_found line None command is h = word_found line command h
line_found line (Some cut) command is h =
    let whole = split_found space line cut is in
    subst (λ (w : List ℕ). IsSpelled w command) whole (elim (chosen (bytes_eq cut.0 (codes "put")) (puts_at cut.1) _ (Some command) h) [
      | inl p ↦ subst (λ (w : List ℕ). IsSpelled (w ++ space ∷ cut.1) command) (sym ((bytes_eq-Decides cut.0 (codes "put")).0 p.0)) (puts_found cut.1 command p.1)
      | inr p ↦ script_request_found cut.0 cut.1 command p.1
    ])

pub found : (line : List ℕ) (command : Request) → command_at line ≡ Some command → IsSpelled line command
found line command h = line_found line (split_at space line) command refl h

-- ---- what is spelled so is read

bytes_again : (offset : ℕ) (field bytes : List ℕ) → IsPart offset field bytes → part_bytes_at offset field ≡ Some bytes
unfolding bytes_of_kind
bytes_again offset field bytes (inl h) =
    let test : nat_le (length h.0) max_digits ≡ true = le-leb (length h.0) max_digits h.2 in
    ap (part_bytes_at offset) h.1 ∙ ap (λ (t : Bool). cond t (decoded (decode_of h.0)) None) test ∙ ap decoded h.3
bytes_again offset field bytes (inr h) =
    let small : h.0 < 2 ^ 64 = omega (arith, h.2) in
    let test : nat_le h.0 max_pattern ≡ true = le-leb h.0 max_pattern h.2 in
    ap (part_bytes_at offset) h.1 ∙ ap (pattern_at offset) (number_again h.0 small) ∙ ap (λ (t : Bool). cond t (Some (pattern_of offset h.0)) None) test ∙ ap (λ (b : List ℕ). Some b) (sym h.3)

puts_again : (upload offset : ℕ) (field bytes : List ℕ) → upload < 2 ^ 64 → offset < 2 ^ 64 → IsPart offset field bytes → puts_at (three_fields (decimal upload) (decimal offset) field) ≡ Some (Put (record { upload = upload; offset = offset; bytes = bytes }))
puts_again upload offset field bytes u o part =
    bind_is (split_at space (three_fields (decimal upload) (decimal offset) field)) _ (decimal upload, two_fields (decimal offset) field) (split_again space (decimal upload) (two_fields (decimal offset) field) (decimal_spaceless upload u))
    ∙ bind_is (number_at (decimal upload)) _ upload (number_again upload u)
    ∙ bind_is (split_at space (two_fields (decimal offset) field)) _ (decimal offset, field) (split_again space (decimal offset) field (decimal_spaceless offset o))
    ∙ bind_is (number_at (decimal offset)) _ offset (number_again offset o) ∙ bind_is (part_bytes_at offset field) _ bytes (bytes_again offset field bytes part)

does_again : (line : List ℕ) (command : Command) → SpellsCommand line command → command_at line ≡ Some (Does command)
unfolding split_line_at script_request_of_kind
does_again line (commands.OpenTenant n) h = ap command_at h.0 ∙ ap (λ x. command_or x None) (one_again (λ n. commands.OpenTenant n) n h.1)
does_again line (commands.SetLimit a b) h = ap command_at h.0 ∙ ap (λ x. command_or x None) (pair_again (λ a b. commands.SetLimit a b) a b h.1 h.2)
does_again line (commands.Begin a b) h = ap command_at h.0 ∙ ap (λ x. command_or x None) (pair_again (λ a b. commands.Begin a b) a b h.1 h.2)
does_again line (commands.BeginOpen a b) h = ap command_at h.0 ∙ ap (λ x. command_or x None) (pair_again (λ a b. commands.BeginOpen a b) a b h.1 h.2)
does_again line (commands.Fix a b) h = ap command_at h.0 ∙ ap (λ x. command_or x None) (pair_again (λ a b. commands.Fix a b) a b h.1 h.2)
does_again line (commands.Seal n) h = ap command_at h.0 ∙ ap (λ x. command_or x None) (one_again (λ n. commands.Seal n) n h.1)
does_again line (commands.SealAs n a) h = ap command_at h.1 ∙ ap (λ x. command_or x None) (held_form_again (λ n a. commands.SealAs n a) n h.0 a h.2 h.3)
does_again line (commands.Abort n) h = ap command_at h.0 ∙ ap (λ x. command_or x None) (one_again (λ n. commands.Abort n) n h.1)
does_again line (commands.Forget n a) h = ap command_at h.1 ∙ ap (λ x. command_or x None) (held_form_again (λ n a. commands.Forget n a) n h.0 a h.2 h.3)

asks_again : (line : List ℕ) (question : Question) → SpellsQuestion line question → command_at line ≡ Some (Asks question)
unfolding split_line_at script_request_of_kind
asks_again line (questions.Fetch n a) h = ap command_at h.1 ∙ ap (command_or None) (held_form_again (λ n a. questions.Fetch n a) n h.0 a h.2 h.3)
asks_again line (questions.Usage n) h = ap command_at h.0 ∙ ap (command_or None) (one_again (λ n. questions.Usage n) n h.1)
asks_again line (questions.List n) h = ap command_at h.0 ∙ ap (command_or None) (one_again (λ n. questions.List n) n h.1)
asks_again line questions.Totals h = ap command_at h
asks_again line _ h = absurd h

pub again : (line : List ℕ) (command : Request) → IsSpelled line command → command_at line ≡ Some command
unfolding split_line_at
again line (Does command) h = does_again line command h
again line (Asks question) h = asks_again line question h
again line (Put part) h = ap command_at h.1 ∙ puts_again part.upload part.offset h.0 part.bytes h.2 h.3 h.4
again line (Entries range) h = ap command_at h.0 ∙ ap (λ (r : EntryRange). Some (Entries r)) (sym h.1)
again line _ h = absurd h
