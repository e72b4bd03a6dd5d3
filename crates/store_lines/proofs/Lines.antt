-- The request of a line that was read.
use Rattle.std.proofs.Common.{◌≡◌, ◌∙◌, ◌<◌, ◌≤◌, ℕ, Err, List, None, Ok, Option, Result, Some, ap, arith, false, inl, inr, length, refl, subst, sym, take_all, true}
use Rattle.std.specs.Prelude.{IfOk, IfSome, nat_lt}
use Rattle.std.specs.Io.BufRead.{strip_last, take_through}
use Rattle.std.proofs.lemmas.Bool.{le-ltb, lt-ltb}
use Rattle.edge.specs.Lines.{IsLineRead}
use Rattle.edge.specs.declared.lines.LineRead.{LineRead}
use Rattle.store_lines.specs.Lines.{max_request}
use Rattle.store_lines.specs.Requests.{request_at, request_in}
use Rattle.store_lines.specs.declared.request.Request.{Request}
use Rattle.store_lines.specs.inner.Requests.{AsksFor, IsFound, IsLineOf, IsOwnOrScript, IsScriptFound, IsScriptLine, IsSessionLine}
use Rattle.store_lines.specs.declared.session_line.Line.{Line}
use Rattle.store_lines.specs.declared.session_line.Line.TheVariants as lines
use Rattle.store_lines.proofs.Lengths.{long_is_none}
use Rattle.store_lines.proofs.LineOutcomes.{strip_shorter}
use Rattle.store_lines.proofs.Told.{fault_taken, strip_taken}
use Rattle.store_lines.specs.Grammar.{command_at, line_fault}
use Rattle.store_lines.specs.declared.bad_lines.LineFault.{LineFault}
use Rattle.store_lines.specs.inner.Requests.{read_as}

session_line : (room : ℕ) (whole : List ℕ) (read : LineRead) (kept : List ℕ) → max_request ≤ room → IsLineRead 33554481 room whole read kept → IsSessionLine whole read kept
session_line room whole read kept le h = record {
  count_is = h.count_is;
  kept_is = h.kept_is;
  long = λ lost. omega (arith, le, h.long lost);
  ended = h.ended;
  unended = h.unended;
}

-- a line that is read with room for a request
pub line_read : {E : Type 0} (r : Result LineRead E) (input : Option (List ℕ)) (room : ℕ) (kept : List ℕ) → max_request ≤ room → IfOk r (λ read. IfSome input (λ left. IsLineRead 33554481 room (take_through 10 left) read kept)) → IfOk r (λ read. IfSome input (λ left. IsSessionLine (take_through 10 left) read kept))
line_read (Err e) input room kept le h = tt
line_read (Ok read) None room kept le h = tt
line_read (Ok read) (Some left) room kept le h = session_line room (take_through 10 left) read kept le h

-- a line that is too long, or lost
pub asks_none : (read : LineRead) (kept : List ℕ) → ((whole : List ℕ) → IsSessionLine whole read kept → max_request < length whole) → AsksFor read kept None
asks_none read kept long = record { asks = λ whole is. sym (let test = lt-ltb max_request (length whole) (long whole is) in rw test refl) }

-- any other was kept whole
pub asks_this : (read : LineRead) (kept line : List ℕ) (request : Option Request) → read.is_kept ≡ true → read.count ≤ 200 → line ≡ strip_last 10 kept → request ≡ request_at line → AsksFor read kept request
asks_this read kept line request is_kept short is asks = record {
  asks = λ whole h.
      let few : length whole ≤ max_request = omega (arith, h.count_is, short) in
      let test : nat_lt max_request (length whole) ≡ false = le-ltb max_request (length whole) few in
      let all : kept ≡ whole = h.kept_is is_kept ∙ take_all 33554481 whole (omega (arith, few)) in
      let there : request_in whole ≡ request_at (strip_last 10 whole) = rw test refl in
      asks ∙ ap request_at (is ∙ ap (strip_last 10) all) ∙ sym there;
}

-- ---- a line of a script

pub no_memory_line : (read : LineRead) (kept : List ℕ) → read.is_kept ≡ false → IsScriptFound read kept lines.NoMemory
no_memory_line read kept lost = record { is = λ whole h. inl (omega (arith, h.long lost, strip_shorter whole)) }

pub long_line : (read : LineRead) (kept : List ℕ) (fault : LineFault) → read.is_kept ≡ true → 33554481 < read.count → fault ≡ line_fault kept → IsScriptFound read kept (lines.Bad fault)
long_line read kept fault is_kept long is = record {
  is = λ whole h.
      let line = strip_last 10 whole in
      let most : 33554480 < length line = omega (arith, long, h.count_is, strip_shorter whole) in
      let longer : 33554481 < length whole = omega (arith, long, h.count_is) in
      let same : line_fault kept ≡ line_fault line = ap line_fault (h.kept_is is_kept ∙ sym (strip_taken 33554481 whole longer)) ∙ fault_taken 33554481 line (omega arith) in
      (omega (arith, most), sym (long_is_none line most), is ∙ same);
}

pub kept_line : (read : LineRead) (kept line : List ℕ) (found : Line) → read.is_kept ≡ true → read.count ≤ 33554481 → line ≡ strip_last 10 kept → IsScriptLine line found → IsScriptFound read kept found
kept_line read kept line found is_kept few is h = record {
  is = λ whole r.
      let all : kept ≡ whole = r.kept_is is_kept ∙ take_all 33554481 whole (omega (arith, few, r.count_is)) in
      subst (λ (l : List ℕ). IsLineOf l found) (is ∙ ap (strip_last 10) all) h.is;
}

-- ---- a line that is kept

request_read : (o : Option Request) (fault : LineFault) (request : Request) → Ok request ≡ read_as o fault → Some request ≡ o
request_read (Some found) fault request is = cc
request_read None fault request is = absurd (cc)

fault_read : (o : Option Request) (fault found : LineFault) → Err found ≡ read_as o fault → (None ≡ o) × (found ≡ fault)
fault_read None fault found is = (refl, cc)
fault_read (Some request) fault found is = absurd (cc)

pub has_request : (line : List ℕ) (request : Request) → 0 < length line → Ok request ≡ read_as (command_at line) (line_fault line) → IsScriptLine line (lines.Has request)
has_request line request some is = record { is = (some, request_read (command_at line) (line_fault line) request is) }

pub has_fault : (line : List ℕ) (fault : LineFault) → 0 < length line → Err fault ≡ read_as (command_at line) (line_fault line) → IsScriptLine line (lines.Bad fault)
has_fault line fault some is = record { is = let none = fault_read (command_at line) (line_fault line) fault is in (some, none.0, none.1) }

-- ---- a line of a session

script_or_own : (whole : List ℕ) (found : Line) → None ≡ request_in whole → IsLineOf (strip_last 10 whole) found → IsOwnOrScript whole found
script_or_own whole lines.Empty none h = (none, h)
script_or_own whole (lines.Bad fault) none h = (none, h)
script_or_own whole lines.NoMemory none h = (none, h)
script_or_own whole (lines.Has request) none h = inr (none, h)

pub script_found : (read : LineRead) (kept : List ℕ) (got : Option Request) (found : Line) → got ≡ None → AsksFor read kept got → IsScriptFound read kept found → IsFound read kept found
script_found read kept got found none asks h = record { is = λ whole r. script_or_own whole found (sym none ∙ asks.asks whole r) (h.is whole r) }
