use Rattle.std.proofs.Common.{◌≡◌, ◌-◌, ◌*◌, ◌/◌, length, take, min}
use Rattle.b3_core.specs.ExtendedOutput.{output_of}
use Rattle.b3_core.specs.Work.{counted}
use Rattle.b3_core.proofs.output.fill_from.Given as goal

abbrev pub invariant-blocks-2 : goal.invariant-blocks-2
invariant-blocks-2 l = record {
  len : length l.out ≡ length l.fn.out;
  place : l.done ≡ min (length l.fn.out) (64 * l.i - l.start);
  bytes : take l.done l.out ≡ output_of l.root l.start l.done;
  work : l.work ≡ counted l.fn.work (l.i - l.start / 64);
}
