use Rattle.std.proofs.Common.{◌≡◌, ◌++◌, flat_map, length}
use Rattle.std.specs.Vec.Iter.{into_iter_items, into_iter_len}
use Rattle.store_engines.proofs.streams.stretches_of.Given as goal

abbrev pub invariant-loop-block : goal.invariant-loop-block
invariant-loop-block l = record {
  len : into_iter_len l.rest ≡ length (into_iter_items l.rest);
  bytes : l.gathered.bytes ++ flat_map (λ b. b.items) (into_iter_items l.rest) ≡ flat_map (λ b. b.items) l.fn.blocks.items;
}

abbrev pub decreases-loop-block : goal.decreases-loop-block
decreases-loop-block l = length (into_iter_items l.rest)
