-- The results of the code, as the model has them: objects as their bytes.
use Rattle.std.specs.Prelude.{ℕ, List, Option, option_map}
use Rattle.std.specs.Arc.{arc_value}
use Rattle.std.specs.declared.sync.Arc.{Arc}
use Rattle.store_core.specs.declared.store.Sealed.{Sealed}
use Rattle.store_core.specs.Commands.{ModelSealed}

-- a seal's reply, with the object as its bytes
abbrev pub sealed_seen : Sealed → ModelSealed
sealed_seen s = record { address = s.address; new = s.new; bytes = arc_value s.object; released = s.released }

-- a forget's reply, with the object as its bytes
abbrev pub removed_bytes : {Z : Type 0} → Option (Arc (List ℕ) Z) → Option (List ℕ)
removed_bytes removed = option_map (λ object. arc_value object) removed
