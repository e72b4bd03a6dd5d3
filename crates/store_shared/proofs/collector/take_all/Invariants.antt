use Rattle.std.specs.Prelude.{◌≡◌, ◌++◌, map}
use Rattle.store_board.specs.Passes.{IsWholeOf, given_by_all, taken_by_all}
use Rattle.store_shared.specs.inner.Uploading.{parts_in}
use Rattle.store_shared.proofs.collector.take_all.Given as goal

abbrev pub invariant-loop : goal.invariant-loop
invariant-loop g l = IsWholeOf l.exchange.hand_over l.pass × (given_by_all l.pass ≡ given_by_all l.fn.pass)
    × (parts_in (taken_by_all l.pass) ≡ parts_in (taken_by_all l.fn.pass) ++ map (λ p. p.part) l.parts.items)
