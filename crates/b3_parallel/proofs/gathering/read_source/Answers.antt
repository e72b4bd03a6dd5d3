use Rattle.std.proofs.Common.{◌≡◌, flat_map, length, rules, subst}
use Rattle.std.specs.Io.KnownBytes.{IsAtEnd}
use Rattle.b3_parallel.specs.Sources.{known_from}
use Rattle.b3_parallel.specs.inner.Rounds.{StandsAt}
use Rattle.b3_parallel.proofs.Placing.{front_whole}
use Rattle.b3_parallel.proofs.gathering.read_source.Goals as goal

pub returns-then-ends_at : goal.returns-then-ends_at
returns-then-ends_at g c =
    let known = g.S.Source.bytes c.args.source.now in
    let bytes = flat_map (λ b. b.items) c.read_blocks.new.blocks.items in
    let size : c.args.len ≡ length bytes = search rules in
    let end : IsAtEnd (known_from known (length bytes)) = subst (λ n. IsAtEnd (known_from known n)) size (search rules) in
    let stands : StandsAt known 0 bytes = (rw (c.as_slice.ensures.value) at c.in_ok-read.ensures.stands) known c.read_blocks.ensures in
    front_whole known bytes stands end
