-- A script: its lines in order, and what a run of it writes.
use Rattle.std.specs.Prelude.{◌≡◌, ◌≢◌, ◌+◌, ℕ, List, [], ◌∷◌, ◌++◌, None, Option, Some}
use Rattle.std.specs.Io.KnownBytes.{Appends}
use Rattle.std.specs.List.{flat_map}
use Rattle.edge.specs.Lines.{lines_of}
use Rattle.edge.specs.Output.{WroteSome}
use Rattle.store_core.specs.Carried.{IsCarried}
use Rattle.store_core.specs.Runs.{Run}
use Rattle.store_lines.specs.Access.{SessionState, alone_reach, newly}
use Rattle.store_lines.specs.Grammar.{fault_at}
use Rattle.store_lines.specs.declared.bad_lines.LineFault.{LineFault}
use Rattle.store_lines.specs.Script.{Turn, calls_of, ending_of, replies_of, turn_text, widest_start}
use Rattle.store_lines.specs.Turns.{IsLinkedLine}
use Rattle.store_lines.specs.declared.ending.Ending.{Ending}
use Rattle.store_lines.specs.declared.ending.Ending.TheVariants as endings

-- lines in order, each with its turn in a store that nobody else changes
abbrev pub AreTurnsOf : SessionState → List (List ℕ) → List Turn → SessionState → Type 0
AreTurnsOf old [] [] new = new ≡ old
AreTurnsOf old [] (turn ∷ turns) new = ⊥
AreTurnsOf old (line ∷ lines) [] new = ⊥
AreTurnsOf old (line ∷ lines) (turn ∷ turns) new = (then : SessionState) × IsLinkedLine alone_reach old line turn then × AreTurnsOf then lines turns new

-- what is told of a line with this number and this fault, if it has one
abbrev pub told_of : ℕ → Option LineFault → List (ℕ × LineFault)
told_of number None = []
told_of number (Some fault) = (number, fault) ∷ []

-- what is told of lines, the first of which has this number
abbrev pub told_from : ℕ → List (List ℕ) → List (ℕ × LineFault)
told_from number [] = []
told_from number (line ∷ lines) = told_of number (fault_at line) ++ told_from (number + 1) lines

-- these were told in order, each as the receiver says
abbrev pub AreTold : {S : Type 0} → (S → ℕ → LineFault → S → Type 0) → S → S → List (ℕ × LineFault) → Type 0
AreTold Tells old new [] = new ≡ old
AreTold Tells old new (bad ∷ others) = (mid : _) × Tells old bad.0 bad.1 mid × AreTold Tells mid new others

-- The lines of a prefix of a script were answered in order, from the empty store, and those outside the grammar were told. The steps among
-- their turns are a run of the store, whose invariant holds after it. `Ends` holds for the other lines and the ending of the answers, and
-- `Wrote` for their text.
pub record RanSome (input : List ℕ) (Told : List (ℕ × LineFault) → Type 0) (Ends : List (List ℕ) → Ending → Type 0) (Wrote : List ℕ → Type 0) : Type 0 where
  pub front : List (List ℕ)
  pub back : List (List ℕ)
  pub lines : lines_of input ≡ front ++ back
  pub turns : List Turn
  pub end : SessionState
  pub plays : AreTurnsOf (newly widest_start) front turns end
  pub run : Run widest_start (calls_of turns) (replies_of turns) end.store
  pub law : IsCarried end.store
  pub told : Told (told_from 1 front)
  pub ends : Ends back (ending_of turns)
  pub wrote : Wrote (flat_map turn_text turns)

-- the writer grew by the script's output: all its lines are answered
abbrev pub Ran : List ℕ → (List (ℕ × LineFault) → Type 0) → Option (List ℕ) → Option (List ℕ) → Ending → Type 0
Ran input Told old new ending = RanSome input Told (λ back said. (back ≡ []) × (said ≡ ending)) (Appends old new)

-- no answer is `refused S14`
abbrev pub HasMemory : List (List ℕ) → Ending → Type 0
HasMemory back ending = ending ≢ endings.OutOfMemory

-- The result of a run that ends out of memory: an allocation failed for the next line; or some answer is `refused S14`, and then a write may
-- have failed.
pub data RanOut (input : List ℕ) (Told : List (ℕ × LineFault) → Type 0) (old new : Option (List ℕ)) : Type 0 where
  before_line : RanSome input Told (λ back ending. back ≢ []) (Appends old new) → RanOut input Told old new
  after_answer : RanSome input Told (λ back ending. ending ≡ endings.OutOfMemory) (WroteSome old new) → RanOut input Told old new
