-- Reading what follows the backslash of an escaped line, or is another line, fault by fault.
use Rattle.std.proofs.Common.{◌≡◌, ◌∙◌, ℕ, ◌%◌, ◌<◌, ◌≤◌, Bool, true, false, List, [], ◌∷◌, Some, None, Ok, Err, Option, Result, refl, sym, ap, subst, length, take, drop, cond, inl, inr, arith}
use Rattle.std.specs.Prelude.{◌==◌, nat_eq, slice_index}
use Rattle.std.specs.List.{list_all, starts_with}
use Rattle.std.specs.Result.{result_unwrap_or}
use Rattle.std.proofs.lemmas.Bool.{and_from, lt-ltb, le-ltb, eq-eqb, ne_eqb, cases_eq, cases_Bool}
use Rattle.std.proofs.lemmas.List.{length-drop, nil_from_length}
use Rattle.std.proofs.lemmas.List.Sums.{list_all-from_AllPass, AllPass-from_list_all}
use Rattle.hex.specs.Hex.{decode_of, decode_sized, is_hex_digit}
use Rattle.hex.specs.declared.error.FromHexError.{FromHexError}
use Rattle.hex.proofs.HexLemmas.{decode_of-ok, decode_of-digits, decode_sized-twice}
use Rattle.b3_check.specs.declared.fault.Fault.{Fault}
use Rattle.b3_check.specs.declared.fault.Fault.TheVariants.{BadHex, BadSpaces, EmptyName, NulInName, Short, Tagged}
use Rattle.b3_check.specs.declared.fault.ReadError.{ReadError}
use Rattle.b3_check.specs.declared.fault.ReadError.TheVariants as errors
use Rattle.b3_check.specs.declared.line.Line.{Line}
use Rattle.b3_check.specs.Names.{after_escape, escape_value, has_nul, in_front, name_fault, unescaped_from, backslash}
use Rattle.b3_check.specs.Lines.{◌>>=◌, Fails, name_bytes_at, digest_at, has_two_spaces, name_without_nul, rest_at, tag}

abbrev read : Line → Result Line Fault
read line = Ok line

abbrev fails : Fault → Result Line Fault
fails fault = Err fault

-- ---- the faults before the name

pub at_tag : (e : Bool) (rest : List ℕ) → starts_with nat_eq rest tag ≡ true → rest_at e rest ≡ fails Tagged
unfolding rest_at
at_tag e rest h = rw h refl

pub at_short : (e : Bool) (rest : List ℕ) → starts_with nat_eq rest tag ≡ false → length rest < 66 → rest_at e rest ≡ fails Short
unfolding rest_at
at_short e rest h lt = rw (h, lt-ltb (length rest) 66 lt) refl

pub at_hex : (e : Bool) (rest : List ℕ) → starts_with nat_eq rest tag ≡ false → 66 ≤ length rest → list_all is_hex_digit (take 64 rest) ≡ false → rest_at e rest ≡ fails BadHex
unfolding rest_at
at_hex e rest h le bad = rw (h, le-ltb (length rest) 66 le, bad) refl

-- what is known where a name is read
pub record Reaches (rest : List ℕ) : Type 0 where
  pub untagged : starts_with nat_eq rest tag ≡ false
  pub long : 66 ≤ length rest
  pub digits : list_all is_hex_digit (take 64 rest) ≡ true

pub at_spaces : (e : Bool) (rest : List ℕ) → Reaches rest → has_two_spaces rest ≡ false → rest_at e rest ≡ fails BadSpaces
unfolding rest_at
at_spaces e rest h bad = rw (h.untagged, le-ltb (length rest) 66 h.long, h.digits, bad) refl

pub spaced : (rest : List ℕ) → slice_index rest 64 ≡ 32 → slice_index rest 65 ≡ 32 → has_two_spaces rest ≡ true
spaced rest first second = and_from (slice_index rest 64 == 32) (slice_index rest 65 == 32) (eq-eqb (slice_index rest 64) 32 first) (eq-eqb (slice_index rest 65) 32 second)

-- ---- the name

-- a line with the bytes as its name, if they are one
abbrev pub named_at : List ℕ → Result (List ℕ) Fault → Result Line Fault
named_at rest bytes = bytes >>= λ b. name_without_nul b >>= λ name. Ok (record { digest = digest_at (take 64 rest); name = name })

pub at_name : (e : Bool) (rest : List ℕ) → Reaches rest → has_two_spaces rest ≡ true → rest_at e rest ≡ cond (length rest == 66) (fails EmptyName) (named_at rest (name_bytes_at e (drop 66 rest)))
unfolding rest_at
at_name e rest h spaces = rw (h.untagged, le-ltb (length rest) 66 h.long, h.digits, spaces) refl

-- no units are no bytes, and some are some
front_some : (b : ℕ) (r : Result (List ℕ) Fault) (bytes : List ℕ) → in_front b r ≡ Ok bytes → 0 < length bytes
front_some b (Ok rest) bytes e = subst (λ (w : List ℕ). 0 < length w) (ok_is (b ∷ rest) bytes e) (omega arith)
  where
    ok : List ℕ → Result (List ℕ) Fault
    ok x = Ok x

    ok_is : (x y : List ℕ) → ◌≡◌ {A = Result (List ℕ) Fault} (Ok x) (Ok y) → x ≡ y
    ok_is x y e = cc
front_some b (Err fault) bytes e = absurd cc

escape_some : (o : Option ℕ) (r : Result (List ℕ) Fault) (bytes : List ℕ) → after_escape o r ≡ Ok bytes → 0 < length bytes
escape_some (Some b) r bytes e = front_some b r bytes e
escape_some None r bytes e = absurd cc

after_backslash : (units bytes : List ℕ) → unescaped_from true units ≡ Ok bytes → 0 < length bytes
unfolding unescaped_from
after_backslash [] bytes e = absurd cc
after_backslash (c ∷ units) bytes e = escape_some (escape_value c) (unescaped_from false units) bytes e

abbrev chosen : Bool → Result (List ℕ) Fault → Result (List ℕ) Fault → Result (List ℕ) Fault
chosen t x y = elim t [ true ↦ x | false ↦ y ]

some_byte : (units bytes : List ℕ) → 0 < length units → unescaped_from false units ≡ Ok bytes → 0 < length bytes
unfolding unescaped_from
some_byte [] bytes lt e = absurd (omega arith)
some_byte (b ∷ units) bytes lt e = here (b == backslash) e
  where
    here : (t : Bool) → chosen t (unescaped_from true units) (in_front b (unescaped_from false units)) ≡ Ok bytes → 0 < length bytes
    here true e = after_backslash units bytes e
    here false e = front_some b (unescaped_from false units) bytes e

ok_same : (x y : List ℕ) → ◌≡◌ {A = Result (List ℕ) Fault} (Ok x) (Ok y) → x ≡ y
ok_same x y e = cc

pub bytes_some : (e : Bool) (text bytes : List ℕ) → name_bytes_at e text ≡ Ok bytes → 0 < length text → 0 < length bytes
bytes_some true text bytes is lt = some_byte text bytes lt is
bytes_some false text bytes is lt = subst (λ (w : List ℕ). 0 < length w) (ok_same text bytes is) lt

no_bytes : (e : Bool) → name_bytes_at e [] ≡ Ok []
unfolding unescaped_from
no_bytes true = refl
no_bytes false = refl

pub bytes_none : (e : Bool) (text bytes : List ℕ) → name_bytes_at e text ≡ Ok bytes → length text ≡ 0 → bytes ≡ []
bytes_none e text bytes is none = ok_same bytes [] (sym is ∙ ap (name_bytes_at e) (nil_from_length text none) ∙ no_bytes e)

-- ---- the answer after the spaces

-- the name's fault, or the line
abbrev answer_at : List ℕ → List ℕ → Option Fault → Result Line Fault
answer_at rest bytes None = Ok (record { digest = digest_at (take 64 rest); name = bytes })
answer_at rest bytes (Some fault) = Err fault

nul_answer : (rest bytes : List ℕ) (t : Bool) → (cond t (Err NulInName) (Ok bytes) >>= λ name. Ok (record { digest = digest_at (take 64 rest); name = name })) ≡ answer_at rest bytes (cond t (Some NulInName) None)
nul_answer rest bytes true = refl
nul_answer rest bytes false = refl

pub at_bytes : (e : Bool) (rest bytes : List ℕ) → Reaches rest → has_two_spaces rest ≡ true → name_bytes_at e (drop 66 rest) ≡ Ok bytes → rest_at e rest ≡ answer_at rest bytes (name_fault bytes)
at_bytes e rest bytes h spaces is =
    elim (cases_eq (length rest) 66) [
      | inl just ↦
          let none : bytes ≡ [] = bytes_none e (drop 66 rest) bytes is (omega (arith, length-drop 66 rest)) in
          at_name e rest h spaces ∙ ap (λ t. cond t (fails EmptyName) (named_at rest (name_bytes_at e (drop 66 rest)))) (eq-eqb (length rest) 66 just) ∙ sym (ap (λ (w : List ℕ). answer_at rest w (name_fault w)) none)
      | inr more ↦
          let long = h.long in
          let some : 0 < length bytes = bytes_some e (drop 66 rest) bytes is (omega (arith, length-drop 66 rest)) in
          at_name e rest h spaces ∙ ap (λ t. cond t (fails EmptyName) (named_at rest (name_bytes_at e (drop 66 rest)))) (ne_eqb (length rest) 66 more)
          ∙ ap (named_at rest) is ∙ nul_answer rest bytes (has_nul bytes) ∙ ap (λ t. answer_at rest bytes (cond t (Some EmptyName) (cond (has_nul bytes) (Some NulInName) None))) (sym (ne_eqb (length bytes) 0 (λ z. absurd (omega arith))))
    ]

ok_err : (x : List ℕ) (fault : Fault) → ◌≡◌ {A = Result (List ℕ) Fault} (Ok x) (Err fault) → ⊥
ok_err x fault e = cc

pub at_error : (e : Bool) (rest : List ℕ) (error : ReadError) → Reaches rest → has_two_spaces rest ≡ true → Fails error (name_bytes_at e (drop 66 rest)) → Fails error (rest_at e rest)
at_error e rest errors.NoMemory h spaces is = tt
at_error e rest (errors.Fault fault) h spaces is =
    elim (cases_eq (length rest) 66) [
      | inl just ↦ absurd (ok_err [] fault (sym (ap (name_bytes_at e) (nil_from_length (drop 66 rest) (omega (arith, length-drop 66 rest))) ∙ no_bytes e) ∙ is))
      | inr more ↦ at_name e rest h spaces ∙ ap (λ t. cond t (fails EmptyName) (named_at rest (name_bytes_at e (drop 66 rest)))) (ne_eqb (length rest) 66 more) ∙ ap (named_at rest) is
    ]

-- ---- digits

abbrev bytes_or_none : Result (List ℕ) FromHexError → List ℕ
bytes_or_none r = result_unwrap_or r []

pub digest_at-decoded : (digits digest : List ℕ) → decode_of digits ≡ Ok digest → digest_at digits ≡ digest
digest_at-decoded digits digest e = ap bytes_or_none {x = decode_of digits} {y = Ok digest} e

decode_ok : (s d : List ℕ) → decode_of s ≡ Ok d → (list_all is_hex_digit s ≡ true) × (d ≡ digest_at s)
decode_ok s d e = (list_all-from_AllPass is_hex_digit s (decode_of-ok s d e).1, sym (digest_at-decoded s d e))

decode_bad : (s : List ℕ) (error : FromHexError) → length s % 2 ≡ 0 → decode_of s ≡ Err error → list_all is_hex_digit s ≡ false
decode_bad s error even e =
    elim (cases_Bool (list_all is_hex_digit s)) [
      | inl all ↦ let r = decode_of-digits s even (AllPass-from_list_all is_hex_digit s all) in absurd (differ r.0 error (sym r.1 ∙ e))
      | inr some ↦ some
    ]
  where
    differ : (x : List ℕ) (error : FromHexError) → ◌≡◌ {A = Result (List ℕ) FromHexError} (Ok x) (Err error) → ⊥
    differ x error e = cc

-- what decoding into 32 bytes says of 64 bytes
pub digits_good : (s digest : List ℕ) → length s ≡ 64 → Ok digest ≡ decode_sized s 32 → (list_all is_hex_digit s ≡ true) × (digest ≡ digest_at s)
digits_good s digest len e = decode_ok s digest (sym (e ∙ decode_sized-twice s 32 len))

pub digits_bad : (s : List ℕ) (error : FromHexError) → length s ≡ 64 → Err error ≡ decode_sized s 32 → list_all is_hex_digit s ≡ false
digits_bad s error len e = decode_bad s error (omega arith) (sym (e ∙ decode_sized-twice s 32 len))
