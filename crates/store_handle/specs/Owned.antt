-- What a handle owns.
use Rattle.std.specs.Prelude.{Option, Some, None}
use base.Fml.{Fml, feq}
use denote.RattleType.{RattleType}
use denote.RawPtr.{Ptr, null_ptr}
use Rattle.std.specs.Global.{Global}
use Rattle.std.specs.contracts.impls.GlobalAllocator.TheImpl.{ghosts}
use Rattle.std_alloc.specs.Box.Ownership.{box_owns}

-- `Global` has no state, so this is its only value
abbrev pub heap : Global
heap = record { memory = record { seal = tt } }

-- the value on the heap, with the right to free it
abbrev pub boxed : (R : RattleType) → Ptr → R.Denot → Fml
boxed = box_owns (ghosts.dealloc_token heap)

-- at null nothing, and otherwise a value on the heap
abbrev pub handle_owns : (R : RattleType) → Ptr → Option R.Denot → Fml
handle_owns R p None = feq Ptr p null_ptr
handle_owns R p (Some x) = boxed R p x
