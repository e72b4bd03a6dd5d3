use Rattle.std.proofs.Common.{rules, ◌≡◌, ◌≤◌, ◌+◌, ◌*◌, length, arith}
use Rattle.std.specs.Prelude.{flat_map}
use Rattle.std.proofs.lemmas.List.{length-append}
use Rattle.b3_forest.specs.Stretches.{stretch_bytes}
use Rattle.b3_forest.proofs.ByteRuns.{their_length}
use Rattle.b3_forest.proofs.stretches.StretchesBuilder.finish.Goals as goal

pub invariant_of-result : goal.invariant_of-result
invariant_of-result c =
    let n = c.self.inside.stretch_len in
    let xs = c.self.inside.full.items in
    let last = stretch_bytes c.in-Ok.last in
    let full = their_length stretch_bytes n xs c.self.invariant.1 in
    let sum = length-append (flat_map stretch_bytes xs) last in
    let before : c.in-Some.before ≡ length xs * n = search rules in
    let more : c.in-Some-checked_add.len ≡ c.in-Some.before + length last = search rules in
    let short : length last ≤ n = search rules in
    (c.self.invariant.0, c.self.invariant.1, omega (arith, full, sum, before, more), short)
