-- Threads that take the blocks of a round.
use Rattle.std.proofs.Common.{ℕ, ◌++◌, List, [], ◌∷◌, Option}
use Rattle.std.specs.Global.{Vec}
use Rattle.std.specs.declared.thread.PromisedHandle.{PromisedHandle}
use Rattle.b3_core.specs.Tree.{ModelMode}
use Rattle.b3_parallel.specs.inner.Takers.{AreTaking, IsTaking}
use Rattle.b3_parallel.specs.declared.promised.TakenOf.{TakenOf}
use Rattle.b3_parallel.specs.declared.taking.Placed.{Placed}

-- a thread more
pub taking_more : {S : Type 0} (bytes : S → Option (List ℕ)) (p : ModelMode) (known : Option (List ℕ)) (k : ℕ) (hs : List (PromisedHandle (Vec Placed) (TakenOf S))) (h : PromisedHandle (Vec Placed) (TakenOf S))
    → AreTaking bytes p known k hs → IsTaking bytes p known k h → AreTaking bytes p known k (hs ++ h ∷ [])
taking_more bytes p known k [] h are is = (is, tt)
taking_more bytes p known k (first ∷ hs) h (one, are) is = (one, taking_more bytes p known k hs h are is)
