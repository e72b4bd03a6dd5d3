use Rattle.std.proofs.Common.{◌≡◌, ℕ, ◌*◌, ◌<◌, List, Option, flat_map, length, slice_index_or, take}
use Rattle.std.specs.Global.{Vec}
use Rattle.b3_parallel.specs.inner.Rounds.{StandsAt}
use Rattle.b3_parallel.proofs.gathering.joined_len.Given as goal

abbrev pub invariant-loop-number : goal.invariant-loop-number
invariant-loop-number l = record {
  len : l.len ≡ length (flat_map (λ b. b.items) (take l.number l.blocks));
  stands : (known : Option (List ℕ)) → ((i : ℕ) (d : Vec ℕ) → i < length l.blocks → StandsAt known (i * l.block_len) (slice_index_or l.blocks i d).items)
      → StandsAt known 0 (flat_map (λ b. b.items) (take l.number l.blocks));
}
