-- What was read into a line of blocks.
use Rattle.std.proofs.Common.{◌≡◌, ℕ, ◌+◌, ◌-◌, ◌*◌, ◌^◌, ◌<◌, ◌≤◌, ◌++◌, List, [], Option, length, arith, ap, sym, ◌∙◌, subst, append_assoc, length-append}
use Rattle.std.proofs.lemmas.List.{append-nil}
use Rattle.std.proofs.Math.Pow.{pow_mono}
use Rattle.std.specs.Io.KnownBytes.{Consumes}
use Rattle.std.proofs.KnownBytes.{Consumes-trans}
use Rattle.b3_core.specs.Tree.{ModelMode}
use Rattle.b3_parallel.specs.inner.Blocks.{HasRead, IsGiven}
use Rattle.b3_parallel.specs.inner.Lines.{AreCarried, Carries}
use Rattle.b3_parallel.specs.declared.counted_hasher.CountedHasher.{CountedHasher}
use Rattle.b3_parallel.specs.declared.line.BlockLine.{BlockLine}
use Rattle.b3_parallel.proofs.Carrying.{carries_ready}
use Rattle.b3_parallel.proofs.Consuming.{nothing}

-- a block is small
pub small : (k : ℕ) → k < 40 → 2 ^ k ≤ 2 ^ 39
small k below = pow_mono {i = k} {j = 39} (omega (arith, below))

-- after x is what was read: c blocks of 2^k chunks together
abbrev pub LineHas : ModelMode → ℕ → BlockLine → List ℕ → ℕ → Option (List ℕ) → Option (List ℕ) → Type 0
LineHas p k line x c old new =
    (y : List ℕ) × Carries p line (x ++ y) × (length (x ++ y) ≡ 1024 * (c * 2 ^ k)) × (c * 2 ^ k ≤ 2 ^ 53) × Consumes old new y

-- the last bytes were read too
abbrev pub LineRead : ModelMode → BlockLine → List ℕ → List ℕ → Option (List ℕ) → Option (List ℕ) → Type 0
LineRead p line x last old new = (y : List ℕ) × Carries p line (x ++ y) × Consumes old new (y ++ last) × (length (x ++ y) + length last < 2 ^ 64)

pub line_begins : (p : ModelMode) (k : ℕ) (line : BlockLine) (x : List ℕ) (known : Option (List ℕ)) → Carries p line x → length x ≡ 1024 * 2 ^ k → 2 ^ k ≤ 2 ^ 53 → LineHas p k line x 1 known known
line_begins p k line x known carries len few =
    ([], subst (λ (z : List ℕ). Carries p line z) (sym (append-nil x)) carries, omega (arith, ap length (append-nil x), len), omega (arith, few), nothing known)

-- some threads were waited for
pub line_kept : (p : ModelMode) (k : ℕ) (line new : BlockLine) (x : List ℕ) (c : ℕ) (old now : Option (List ℕ)) → LineHas p k line x c old now
    → ((z : List ℕ) → length z < 2 ^ 64 → Carries p line z → Carries p new z) → LineHas p k new x c old now
line_kept p k line new x c old now (y, carries, size, few, consumed) step =
    let short : length (x ++ y) < 2 ^ 64 = omega (arith, size, few) in
    (y, step (x ++ y) short carries, size, few, consumed)

-- a block more
pub line_more : (p : ModelMode) (k : ℕ) (line new : BlockLine) (x bytes : List ℕ) (c : ℕ) (old mid now : Option (List ℕ)) → LineHas p k line x c old mid
    → length bytes ≡ 1024 * 2 ^ k → (c + 1) * 2 ^ k ≤ 2 ^ 53 → Consumes mid now bytes
    → ((z : List ℕ) → Carries p line z → length z ≡ 1024 * (c * 2 ^ k) → Carries p new (z ++ bytes)) → LineHas p k new x (c + 1) old now
line_more p k line new x bytes c old mid now (y, carries, size, few, consumed) len most then step =
    let same = append_assoc x y bytes in
    let sum : (c + 1) * 2 ^ k ≡ c * 2 ^ k + 2 ^ k = omega arith in (
      y ++ bytes,
      subst (λ (z : List ℕ). Carries p new z) same (step (x ++ y) carries size),
      omega (arith, ap length same, length-append (x ++ y) bytes, size, len, sum),
      most,
      Consumes-trans old mid now y bytes consumed then,
    )

pub line_stops : (p : ModelMode) (k : ℕ) (line : BlockLine) (x : List ℕ) (c : ℕ) (old now : Option (List ℕ)) → LineHas p k line x c old now → LineRead p line x [] old now
line_stops p k line x c old now (y, carries, size, few, consumed) = (y, carries, subst (Consumes old now) (sym (append-nil y)) consumed, omega (arith, size, few))

pub line_ends : (p : ModelMode) (k : ℕ) (line : BlockLine) (x last : List ℕ) (c : ℕ) (old mid now : Option (List ℕ)) → LineHas p k line x c old mid
    → Consumes mid now last → length last < 2 ^ 62 → LineRead p line x last old now
line_ends p k line x last c old mid now (y, carries, size, few, consumed) then short = (y, carries, Consumes-trans old mid now y last consumed then, omega (arith, size, few, short))

-- all threads were waited for, and the last bytes were given to the hasher
pub line_given : (p : ModelMode) (k : ℕ) (line : BlockLine) (front new : CountedHasher) (x last : List ℕ) (old now : Option (List ℕ)) → LineRead p line x last old now
    → ((z : List ℕ) → length z < 2 ^ 64 → Carries p line z → AreCarried p k front [] z) → new.hasher.mode ≡ front.hasher.mode
    → ((z : List ℕ) → IsGiven front z → length z + length last < 2 ^ 64 → IsGiven new (z ++ last)) → (new.hasher.mode ≡ p) × HasRead (2 ^ 64 - 1) new x old now
line_given p k line front new x last old now (y, carries, consumed, few) settled mode given =
    let short : length (x ++ y) < 2 ^ 64 = omega (arith, few) in
    let ready = carries_ready p k front (x ++ y) (settled (x ++ y) short carries) in
    let all = subst (IsGiven new) (append_assoc x y last) (given (x ++ y) ready.1 few) in
    (mode ∙ ready.0, (y ++ last, all, consumed, omega (arith, few, length-append x y, length-append y last)))
