use Rattle.std.proofs.Common.{◌≡◌, ◌*◌, ◌^◌, length}
use Rattle.b3_parallel.specs.inner.Rounds.{ArePlaced}
use Rattle.b3_parallel.proofs.taking.take_blocks.Given as goal

abbrev pub invariant-loop : goal.invariant-loop
invariant-loop g l = record {
  len : length l.block.items ≡ 1024 * 2 ^ l.round.level;
  placed : ArePlaced l.round.mode (g.S.Source.bytes l.source) l.round.level l.taken.items;
}
