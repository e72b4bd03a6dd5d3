-- The threads that take the blocks of a round.
use Rattle.std.specs.Prelude.{◌≡◌, ℕ, List, [], ◌∷◌, Option}
use Rattle.std.specs.Global.{Vec}
use Rattle.std.specs.declared.thread.PromisedHandle.{PromisedHandle}
use Rattle.b3_core.specs.Tree.{ModelMode}
use Rattle.b3_parallel.specs.declared.promised.TakenOf.{TakenOf}
use Rattle.b3_parallel.specs.declared.taking.Placed.{Placed}

-- a thread takes blocks of 2^k chunks, in the mode p, of a source with these bytes
abbrev pub IsTaking : {S : Type 0} → (S → Option (List ℕ)) → ModelMode → Option (List ℕ) → ℕ → PromisedHandle (Vec Placed) (TakenOf S) → Type 0
IsTaking bytes p known k h = (h.promise.mode ≡ p) × (bytes h.promise.source.value ≡ known) × (h.promise.level ≡ k)

-- all of them do
abbrev pub AreTaking : {S : Type 0} → (S → Option (List ℕ)) → ModelMode → Option (List ℕ) → ℕ → List (PromisedHandle (Vec Placed) (TakenOf S)) → Type 0
AreTaking bytes p known k [] = Unit {0}
AreTaking bytes p known k (h ∷ rest) = IsTaking bytes p known k h × AreTaking bytes p known k rest
