-- Definitions for private functions, in addition to specs/HandOverRule.
use Rattle.std.specs.Prelude.{◌≡◌, ℕ, ◌+◌, List, ◌++◌, length}
use Rattle.store_board.specs.declared.passes.Taken.{Taken}
use Rattle.store_board.specs.declared.passes.PassView.{PassView}
use Rattle.store_board.specs.HandOverRule.{of_giver, passes_of}

-- what the pass with every right learns: what was taken, followed by the queue's items, is all that was given
abbrev pub Ended : PassView → List Taken → Type 0
Ended v items = ((g : ℕ) → (passes_of g v ≡ 1) × (of_giver g v.given ≡ of_giver g (v.taken ++ items))) × (length v.given ≡ length v.taken + length items)
