-- What is read is in the grammar, what is in the grammar is read, and what is written is in the grammar.
use Rattle.std.proofs.Common.{◌≡◌, ◌≢◌, ◌∙◌, ℕ, ◌+◌, ◌<◌, ◌≤◌, Bool, true, false, List, [], ◌∷◌, ◌++◌, None, Ok, Err, Result, refl, sym, ap, subst, length, get_or, take, drop, cond, inl, inr, arith, append_assoc}
use Rattle.std.specs.Prelude.{◌==◌, ◌⊎◌, nat_eq, nat_lt, not, slice_index, IfOk}
use Rattle.std.specs.List.{AllPass, list_all, starts_with}
use Rattle.std.specs.Result.{result_unwrap_or}
use Rattle.std.proofs.lemmas.Bool.{and_parts, and_right, cases_Bool, cases_eq, cond-false, cond-true, eq-eqb, eqb-false, eqb-true, false≢true, ltb-false, ne_eqb, not-false}
use Rattle.std.proofs.lemmas.List.{drop_at, drop_more, get_or_append_left, get_or_at, length-append, length-drop, length-take, take-append-drop, take_at}
use Rattle.std.proofs.lemmas.List.Sums.{AllPass-from_list_all, list_all-from_AllPass}
use Rattle.hex.specs.Hex.{decode_of, encode_lower, is_hex_digit, lower_digits}
use Rattle.hex.proofs.HexLemmas.{decode_of-digits, decode_of-encode_lower, decode_of-ok, length-encode_with}
use Rattle.b3_check.specs.declared.fault.Fault.{Fault}
use Rattle.b3_check.specs.declared.fault.Fault.TheVariants.{BadHex, BadSpaces, EmptyName, NulInName, Short, Tagged}
use Rattle.b3_check.specs.declared.fault.ReadError.{ReadError}
use Rattle.b3_check.specs.declared.line.Line.{Line}
use Rattle.b3_check.specs.Names.{IsName, backslash, carriage_return, escaped, has_nul, mark_of, name_fault, needs_escapes}
use Rattle.b3_check.specs.Lines.{◌>>=◌, Gives, IsEscaped, IsLawful, IsLine, IsPlain, Spells, name_bytes_at, digest_at, has_two_spaces, line_at, marked_at, name_without_nul, rest_at, tag, text_of, without_returns, before_returns}
use Rattle.b3_check.proofs.Escapes.{StandsFor-escaped, StandsFor-from_unescaped, escaped-plain, unescaped-from_StandsFor}
use Rattle.b3_check.proofs.Rests.{Reaches, at_bytes, bytes_some, digest_at-decoded, spaced}

abbrev read : Line → Result Line Fault
read line = Ok line

-- ---- what is read is in the grammar

-- the tests on the way to a line
guard : (t : Bool) (fault : Fault) (rest : Result Line Fault) (line : Line) → cond t (Err fault) rest ≡ Ok line → (t ≡ false) × (rest ≡ Ok line)
guard true fault rest line e = absurd cc
guard false fault rest line e = (refl, e)

bind_ok : {A B : Type 0} (r : Result A Fault) (f : A → Result B Fault) (y : B) → (r >>= f) ≡ Ok y → (x : A) × (r ≡ Ok x) × (f x ≡ Ok y)
bind_ok (Ok x) f y e = (x, refl, e)
bind_ok (Err fault) f y e = absurd cc

name_ok : (bytes name : List ℕ) → name_without_nul bytes ≡ Ok name → (has_nul bytes ≡ false) × (bytes ≡ name)
name_ok bytes name e = here (has_nul bytes) refl e
  where
    here : (t : Bool) → has_nul bytes ≡ t → cond t (Err NulInName) (Ok bytes) ≡ Ok name → (has_nul bytes ≡ false) × (bytes ≡ name)
    here true is e = absurd cc
    here false is e = (is, cc)

-- what was read of a rest
record Found (is_escaped : Bool) (rest : List ℕ) (line : Line) : Type 0 where
  reached : Reaches rest
  spaces : has_two_spaces rest ≡ true
  more : length rest ≢ 66
  bytes : name_bytes_at is_escaped (drop 66 rest) ≡ Ok line.name
  no_nul : has_nul line.name ≡ false
  digest : digest_at (take 64 rest) ≡ line.digest

digest_is : (a b : Line) → read a ≡ read b → a.digest ≡ b.digest
digest_is a b e = ap (λ (r : Result Line Fault). (result_unwrap_or r a).digest) e

name_is : (a b : Line) → read a ≡ read b → a.name ≡ b.name
name_is a b e = ap (λ (r : Result Line Fault). (result_unwrap_or r a).name) e

found : (e : Bool) (rest : List ℕ) (line : Line) → rest_at e rest ≡ Ok line → Found e rest line
unfolding rest_at
found e rest line h =
    let one = guard (starts_with nat_eq rest tag) Tagged _ line h in
    let two = guard (nat_lt (length rest) 66) Short _ line one.1 in
    let three = guard (not (list_all is_hex_digit (take 64 rest))) BadHex _ line two.1 in
    let four = guard (not (has_two_spaces rest)) BadSpaces _ line three.1 in
    let five = guard (length rest == 66) EmptyName _ line four.1 in
    let six = bind_ok (name_bytes_at e (drop 66 rest)) _ line five.1 in
    let seven = bind_ok (name_without_nul six.0) _ line six.2 in
    let named = name_ok six.0 seven.0 seven.1 in
    let name : six.0 ≡ line.name = named.1 ∙ name_is (record { digest = digest_at (take 64 rest); name = seven.0 }) line seven.2 in
    record {
      reached = record { untagged = one.0; long = ltb-false (length rest) 66 two.0; digits = not-false _ three.0 };
      spaces = not-false _ four.0;
      more = eqb-false (length rest) 66 five.0;
      bytes = six.1 ∙ ap (λ (w : List ℕ). Ok w) name;
      no_nul = ap has_nul (sym name) ∙ named.0;
      digest = digest_is (record { digest = digest_at (take 64 rest); name = seven.0 }) line seven.2;
    }

-- a rest is its digits, two spaces and what follows
parts_of : (rest : List ℕ) → 66 ≤ length rest → has_two_spaces rest ≡ true → rest ≡ take 64 rest ++ (32 ∷ 32 ∷ drop 66 rest)
parts_of rest long spaces =
    let both = and_parts (slice_index rest 64 == 32) (slice_index rest 65 == 32) spaces in
    let first : get_or rest 64 0 ≡ 32 = eqb-true _ 32 both.0 in
    let second : get_or rest 65 0 ≡ 32 = eqb-true _ 32 both.1 in
    let following : drop 64 rest ≡ 32 ∷ 32 ∷ drop 66 rest =
    drop_more rest 64 0 (omega arith) ∙ ap (λ c. c ∷ drop 65 rest) first ∙ ap (λ (w : List ℕ). 32 ∷ w) (drop_more rest 65 0 (omega arith) ∙ ap (λ c. c ∷ drop 66 rest) second) in
    sym (take-append-drop 64 rest) ∙ ap (λ (w : List ℕ). take 64 rest ++ w) following

spells_from : (digits digest bytes : List ℕ) → length digits ≡ 64 → decode_of digits ≡ Ok bytes → digest_at digits ≡ digest → Spells digits digest
spells_from digits digest bytes many e is = record { many = many; value = subst (λ (w : List ℕ). decode_of digits ≡ Ok w) (sym (digest_at-decoded digits bytes e) ∙ is) e }

spells_of : (rest digest : List ℕ) → Reaches rest → digest_at (take 64 rest) ≡ digest → Spells (take 64 rest) digest
spells_of rest digest h is =
    let long = h.long in
    let many : length (take 64 rest) ≡ 64 = omega (arith, length-take 64 rest) in
    let r = decode_of-digits (take 64 rest) (omega (arith, many)) (AllPass-from_list_all is_hex_digit (take 64 rest) h.digits) in
    spells_from (take 64 rest) digest r.0 many r.1 is

is_name : (e : Bool) (rest : List ℕ) (line : Line) → Found e rest line → IsName line.name
is_name e rest line f =
    let long = f.reached.long in
    let more = f.more in
    (bytes_some e (drop 66 rest) line.name f.bytes (omega (arith, length-drop 66 rest)), f.no_nul)

found_plain : (rest : List ℕ) (line : Line) → Found false rest line → IsPlain rest line.digest line.name
found_plain rest line f = record {
  digits = take 64 rest;
  spelled = spells_of rest line.digest f.reached f.digest;
  is = parts_of rest f.reached.long f.spaces ∙ ap (λ (w : List ℕ). take 64 rest ++ (32 ∷ 32 ∷ w)) (bytes_same (drop 66 rest) line.name f.bytes);
}
  where
    bytes_same : (x y : List ℕ) → ◌≡◌ {A = Result (List ℕ) Fault} (Ok x) (Ok y) → x ≡ y
    bytes_same x y e = cc

found_escaped : (rest : List ℕ) (line : Line) → Found true rest line → IsEscaped (backslash ∷ rest) line.digest line.name
found_escaped rest line f = record {
  digits = take 64 rest;
  units = drop 66 rest;
  spelled = spells_of rest line.digest f.reached f.digest;
  stands = StandsFor-from_unescaped false (drop 66 rest) line.name f.bytes;
  is = ap (λ (w : List ℕ). backslash ∷ w) (parts_of rest f.reached.long f.spaces);
}

found_marked : (text : List ℕ) (line : Line) → marked_at text ≡ Ok line → (IsPlain text line.digest line.name ⊎ IsEscaped text line.digest line.name) × IsName line.name
found_marked [] line h =
    let f = found false [] line h in
    let long = f.reached.long in
    absurd (omega arith)
found_marked (b ∷ bytes) line h =
    elim (cases_eq b backslash) [
      | inl is ↦
          let f = found true bytes line (sym (cond-true (b == backslash) (rest_at true bytes) (rest_at false (b ∷ bytes)) (eq-eqb b backslash is)) ∙ h) in
          (inr (subst (λ (c : ℕ). IsEscaped (c ∷ bytes) line.digest line.name) (sym is) (found_escaped bytes line f)), is_name true bytes line f)
      | inr ne ↦
          let f = found false (b ∷ bytes) line (sym (cond-false (b == backslash) (rest_at true bytes) (rest_at false (b ∷ bytes)) (ne_eqb b backslash ne)) ∙ h) in
          (inl (found_plain (b ∷ bytes) line f), is_name false (b ∷ bytes) line f)
    ]

-- what is read is in the grammar
pub IsLine-from_line_at : (text : List ℕ) (line : Line) → line_at text ≡ Ok line → IsLine text line.digest line.name
IsLine-from_line_at text line h =
    let f = found_marked (without_returns text) line h in
    record { form = f.0; named = f.1 }

-- ---- what is in the grammar is read

-- the digits of a digest are digits
all_digits : (digits digest : List ℕ) → Spells digits digest → AllPass is_hex_digit digits
all_digits digits digest s = (decode_of-ok digits digest s.value).1

no_digit : (digits : List ℕ) (k c : ℕ) → AllPass is_hex_digit digits → k < length digits → is_hex_digit c ≡ false → get_or digits k 0 ≢ c
no_digit digits k c all lt bad is = false≢true (sym bad ∙ ap is_hex_digit (sym is) ∙ all k 0 lt)

-- digits are no tag: its second byte is no digit
untagged : (rest : List ℕ) → 1 < length rest → get_or rest 1 0 ≢ 76 → starts_with nat_eq rest tag ≡ false
untagged [] lt ne = absurd (omega arith)
untagged (a ∷ []) lt ne = absurd (omega arith)
untagged (a ∷ b ∷ rest) lt ne = rw (ne_eqb 76 b (λ e. ne (sym e))) (and_right (66 == a) false refl)

name_is_none : (name : List ℕ) → IsName name → name_fault name ≡ None
name_is_none name h =
    let some = h.0 in
    rw (ne_eqb (length name) 0 (λ z. absurd (omega arith)), h.1) refl

spelled_rest : (e : Bool) (digits digest text name : List ℕ) → Spells digits digest → name_bytes_at e text ≡ Ok name → IsName name
    → rest_at e (digits ++ (32 ∷ 32 ∷ text)) ≡ Ok (record { digest = digest; name = name })
spelled_rest e digits digest text name s bytes named =
    let rest = digits ++ (32 ∷ 32 ∷ text) in
    let many = s.many in
    let all = all_digits digits digest s in
    let len : length rest ≡ 66 + length text = omega (arith, length-append digits (32 ∷ 32 ∷ text)) in
    let front : take 64 rest ≡ digits = take_at digits (32 ∷ 32 ∷ text) 64 many in
    let first : get_or rest 64 0 ≡ 32 = get_or_at digits 32 (32 ∷ text) 0 64 many in
    let spaced_first : (digits ++ 32 ∷ []) ++ (32 ∷ text) ≡ rest = append_assoc digits (32 ∷ []) (32 ∷ text) in
    let second : get_or rest 65 0 ≡ 32 = subst (λ (w : List ℕ). get_or w 65 0 ≡ 32) spaced_first (get_or_at (digits ++ 32 ∷ []) 32 text 0 65 (omega (arith, length-append digits (32 ∷ [])))) in
    let spaces = spaced rest first second in
    let following : drop 66 rest ≡ text = subst (λ (w : List ℕ). drop 66 w ≡ text) (append_assoc digits (32 ∷ 32 ∷ []) text) (drop_at (digits ++ (32 ∷ 32 ∷ [])) text 66 (omega (arith, length-append digits (32 ∷ 32 ∷ [])))) in
    let at_one : get_or rest 1 0 ≡ get_or digits 1 0 = get_or_append_left digits (32 ∷ 32 ∷ text) 0 1 (omega arith) in
    let reached : Reaches rest = record {
      untagged = untagged rest (omega arith) (λ is. no_digit digits 1 76 all (omega arith) refl (sym at_one ∙ is));
      long = omega arith;
      digits = rw front (list_all-from_AllPass is_hex_digit digits all);
    } in
    let value : digest_at digits ≡ digest = digest_at-decoded digits digest s.value in
    at_bytes e rest name reached spaces (ap (name_bytes_at e) following ∙ bytes) ∙ rw (name_is_none name named, front, value) refl

only_marked : (text digest name : List ℕ) → (IsPlain text digest name ⊎ IsEscaped text digest name) → IsName name → marked_at text ≡ Ok (record { digest = digest; name = name })
only_marked text digest name (inl p) named =
    let plain = spelled_rest false p.digits digest name name p.spelled refl named in
    rw p.is (unmarked p.digits (32 ∷ 32 ∷ name) (omega (arith, p.spelled.many)) (no_digit p.digits 0 92 (all_digits p.digits digest p.spelled) (omega (arith, p.spelled.many)) refl) ∙ plain)
  where
    unmarked : (digits following : List ℕ) → 0 < length digits → get_or digits 0 0 ≢ 92 → marked_at (digits ++ following) ≡ rest_at false (digits ++ following)
    unmarked [] following lt ne = absurd (omega arith)
    unmarked (d ∷ digits) following lt ne = cond-false (d == 92) (rest_at true (digits ++ following)) (rest_at false (d ∷ (digits ++ following))) (ne_eqb d 92 ne)
only_marked text digest name (inr p) named = rw p.is (spelled_rest true p.digits digest p.units name p.spelled (unescaped-from_StandsFor p.stands) named)

-- what is in the grammar is read
pub line_at-from_IsLine : (text digest name : List ℕ) → IsLine text digest name → line_at text ≡ Ok (record { digest = digest; name = name })
line_at-from_IsLine text digest name h = only_marked (without_returns text) digest name h.form h.named

-- ---- what is written is in the grammar

-- no carriage return is at the end of a name as it is written
kept_byte : (b : ℕ) (text : List ℕ) → b ≢ 13 → before_returns b text ≡ b ∷ text
kept_byte b [] ne = cond-false (b == 13) [] (b ∷ []) (ne_eqb b 13 ne)
kept_byte b (c ∷ text) ne = refl

kept_escapes : (name : List ℕ) → without_returns (escaped name) ≡ escaped name
unfolding without_returns
kept_escapes [] = refl
kept_escapes (b ∷ name) =
    let rest = kept_escapes name in
    elim (cases_eq b 92) [
      | inl is ↦ rw (eq-eqb b 92 is, rest) (rw (kept_byte 92 (escaped name) (λ e. absurd (omega arith))) refl)
      | inr one ↦
          elim (cases_eq b 10) [
            | inl is ↦ rw (ne_eqb b 92 one, eq-eqb b 10 is, rest) (rw (kept_byte 110 (escaped name) (λ e. absurd (omega arith))) refl)
            | inr two ↦
                elim (cases_eq b 13) [
                  | inl is ↦ rw (ne_eqb b 92 one, ne_eqb b 10 two, eq-eqb b 13 is, rest) (rw (kept_byte 114 (escaped name) (λ e. absurd (omega arith))) refl)
                  | inr three ↦ rw (ne_eqb b 92 one, ne_eqb b 10 two, ne_eqb b 13 three, rest) (kept_byte b (escaped name) three)
                ]
          ]
    ]

kept : (front text : List ℕ) → 0 < length text → without_returns text ≡ text → without_returns (front ++ text) ≡ front ++ text
unfolding without_returns
kept [] text lt h = h
kept (b ∷ front) text lt h = rw (kept front text lt h) (before_some b (front ++ text) (omega (arith, length-append front text)))
  where
    before_some : (b : ℕ) (text : List ℕ) → 0 < length text → before_returns b text ≡ b ∷ text
    before_some b [] lt = absurd (omega arith)
    before_some b (c ∷ text) lt = refl

pub without_returns-kept : (text : List ℕ) (b : ℕ) → b ≢ carriage_return → without_returns (text ++ b ∷ []) ≡ text ++ b ∷ []
unfolding without_returns
without_returns-kept text b ne = kept text (b ∷ []) (omega arith) (kept_byte b [] ne)

escaped-some : (name : List ℕ) → 0 < length name → 0 < length (escaped name)
escaped-some [] lt = absurd (omega arith)
escaped-some (b ∷ name) lt =
    elim (cases_eq b 92) [
      | inl is ↦ rw (eq-eqb b 92 is) (omega arith)
      | inr one ↦
          elim (cases_eq b 10) [
            | inl is ↦ rw (ne_eqb b 92 one, eq-eqb b 10 is) (omega arith)
            | inr two ↦ elim (cases_eq b 13) [ inl is ↦ rw (ne_eqb b 92 one, ne_eqb b 10 two, eq-eqb b 13 is) (omega arith) | inr three ↦ rw (ne_eqb b 92 one, ne_eqb b 10 two, ne_eqb b 13 three) (omega arith) ]
          ]
    ]

pub without_returns-text_of : (line : Line) → IsName line.name → without_returns (text_of line) ≡ text_of line
without_returns-text_of line named =
    let digits = encode_lower line.digest in
    let spaced_name = kept (32 ∷ 32 ∷ []) (escaped line.name) (escaped-some line.name named.0) (kept_escapes line.name) in
    let with_digits = kept digits (32 ∷ 32 ∷ escaped line.name) (omega arith) spaced_name in
    kept (mark_of line.name) (digits ++ (32 ∷ 32 ∷ escaped line.name)) (omega (arith, length-append digits (32 ∷ 32 ∷ escaped line.name))) with_digits

spells_encoded : (line : Line) → IsLawful line → Spells (encode_lower line.digest) line.digest
spells_encoded line h =
    let long = h.long in
    record { many = omega (arith, length-encode_with lower_digits line.digest); value = decode_of-encode_lower line.digest h.bytes }

text_form : (line : Line) → IsLawful line → IsPlain (text_of line) line.digest line.name ⊎ IsEscaped (text_of line) line.digest line.name
text_form line h =
    let digits = encode_lower line.digest in
    elim (cases_Bool (needs_escapes line.name)) [
      | inl some ↦ inr (record {
        digits = digits;
        units = escaped line.name;
        spelled = spells_encoded line h;
        stands = StandsFor-escaped line.name;
        is = ap (λ (t : Bool). cond t (backslash ∷ []) [] ++ (digits ++ (32 ∷ 32 ∷ escaped line.name))) some;
      })
      | inr none ↦ inl (record {
        digits = digits;
        spelled = spells_encoded line h;
        is = ap (λ (t : Bool). cond t (backslash ∷ []) [] ++ (digits ++ (32 ∷ 32 ∷ escaped line.name))) none ∙ ap (λ (w : List ℕ). digits ++ (32 ∷ 32 ∷ w)) (escaped-plain line.name none);
      })
    ]

-- a line as it is written is in the grammar
pub IsLine-text_of : (line : Line) → IsLawful line → IsLine (text_of line) line.digest line.name
IsLine-text_of line h = record {
  form = subst (λ (w : List ℕ). IsPlain w line.digest line.name ⊎ IsEscaped w line.digest line.name) (sym (without_returns-text_of line h.named)) (text_form line h);
  named = h.named;
}

-- ---- what a reader answers

pub IfOk-from_Gives : (text : List ℕ) (r : Result Line ReadError) → Gives (λ l. l) r (line_at text) → IfOk r (λ line. IsLine text line.digest line.name)
IfOk-from_Gives text (Ok line) h = IsLine-from_line_at text line h
IfOk-from_Gives text (Err error) h = tt
