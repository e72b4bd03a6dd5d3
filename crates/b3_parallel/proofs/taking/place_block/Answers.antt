use Rattle.std.proofs.Common.{◌≡◌, ◌*◌, ◌^◌, ◌≤◌, ℕ, arith, ap, length, rules, take}
use Rattle.std.proofs.lemmas.List.{take_all}
use Rattle.std.specs.Io.KnownBytes.{Consumes}
use Rattle.b3_parallel.specs.inner.Blocks.{IsHashed}
use Rattle.b3_parallel.specs.Sources.{known_from}
use Rattle.b3_parallel.proofs.Placing.{read_stands}
use Rattle.b3_parallel.proofs.taking.place_block.Goals as goal

pub returns-clause-placed : goal.returns-clause-placed
returns-clause-placed g c =
    let block = c.fill_block.new.block.items in
    let known = g.S.Source.bytes c.args.source.now in
    let left = known_from (g.S.Source.bytes c.fill_block.new.reader.source.now) c.fill_block.new.reader.place in
    let size = 2 ^ c.args.round.now.level in
    let number : c.args.place * c.chunks_of.result ≡ c.args.place * size = ap (λ (m : ℕ). c.args.place * m) c.chunks_of.ensures.value in
    let start : c.new-reader.result.place ≡ 1024 * (c.args.place * size) = omega (arith, c.new-reader.ensures.place, number) in
    let len : length block ≡ 1024 * size = search rules in
    let full : length block ≤ c.in-Ok.filled.count = search rules in
    let all : take c.in-Ok.filled.count block ≡ block = take_all c.in-Ok.filled.count block full in
    let gave : Consumes (known_from known (1024 * (c.args.place * size))) left block = rw (c.new-reader.ensures.source, start, all) at c.in-Ok.ensures.bytes in
    let hashed : IsHashed c.args.round.now.mode block (c.args.place * size) c.of_subtree-top.result c.of_subtree-top.new.work = search rules in
    (block, len, hashed, read_stands known left (1024 * (c.args.place * size)) block gave)
