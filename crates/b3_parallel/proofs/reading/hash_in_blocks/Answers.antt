use Rattle.std.proofs.Common.{◌≡◌, ◌-◌, ◌^◌, ◌<◌, [], arith, ◌∙◌}
use Rattle.b3_core.specs.Tree.{ModelMode}
use Rattle.b3_parallel.specs.inner.Blocks.{HasRead, IsReady}
use Rattle.b3_parallel.proofs.Consuming.{all_of_them, both_read, max_of, top_of_read}
use Rattle.b3_parallel.proofs.Lining.{small}
use Rattle.b3_parallel.proofs.reading.hash_in_blocks.Goals as goal
use Rattle.b3_parallel.proofs.reading.hash_in_blocks.Goals.{In_ok-hash_in_line}

pub returns-then-branch-clause-node : goal.returns-then-branch-clause-node
returns-then-branch-clause-node g c p (mode, given, fits) =
    top_of_read c.bytes_of-first.result c.hash_until.new.front p c.top.result c.top.new.self.work (g.R.Read.remaining c.args.reader.now) (g.R.Read.remaining c.hash_until.new.reader)
    (c.in_ok-hash_until.ensures.given [] given (omega arith)) (c.hash_until.ensures.mode ∙ mode) c.top.ensures.node c.top.ensures.count

-- what was read in the line, and before it
in_line : (g : _) (c : In_ok-hash_in_line g) (p : ModelMode) → IsReady p c.args.line.now.level c.args.line.now.front []
    → (c.hash_in_line.new.line.front.hasher.mode ≡ p) × HasRead (2 ^ 64 - 1) c.hash_in_line.new.line.front [] (g.R.Read.remaining c.args.reader.now) (g.R.Read.remaining c.hash_in_line.new.reader)
in_line g c p (mode, given, fits) =
    let most = c.bytes_of-first.result in
    let h = c.hash_until.new.front in
    let old = g.R.Read.remaining c.args.reader.now in
    let mid = g.R.Read.remaining c.hash_until.new.reader in
    let first : HasRead most h [] old mid = c.in_ok-hash_until.ensures.given [] given (omega arith) in
    let few : most < 2 ^ 64 = omega (arith, c.bytes_of-first.ensures.value, small c.args.line.now.level c.args.line.now.level_fits) in
    let all = all_of_them most h old mid first few (c.in_ok-hash_until.ensures.full c.if-branch.false) in
    let then = c.in_ok-hash_in_line.ensures.given first.0 first.1 (all ∙ c.bytes_of-first.ensures.value) in
    (then.0 ∙ c.hash_until.ensures.mode ∙ mode, both_read most (2 ^ 64 - 1) h c.hash_in_line.new.line.front old mid (g.R.Read.remaining c.hash_in_line.new.reader) first then.1)

pub returns-then-branch-2-clause-node : goal.returns-then-branch-2-clause-node
returns-then-branch-2-clause-node g c p ready =
    let (mode, read) = in_line g (goal.at.returns-then-branch-2-clause-node g c).In_ok-hash_in_line p ready in
    top_of_read (2 ^ 64 - 1) c.hash_in_line.new.line.front p c.top-then-branch-2.result c.top-then-branch-2.new.self.work (g.R.Read.remaining c.args.reader.now) (g.R.Read.remaining c.hash_in_line.new.reader)
    read mode c.top-then-branch-2.ensures.node c.top-then-branch-2.ensures.count

pub returns-then-branch-3-clause-node : goal.returns-then-branch-3-clause-node
returns-then-branch-3-clause-node g c p ready =
    let h = c.hash_in_line.new.line.front in
    let old = g.R.Read.remaining c.args.reader.now in
    let mid = g.R.Read.remaining c.hash_in_line.new.reader in
    let now = g.R.Read.remaining c.hash_until-2.new.reader in
    let is = in_line g (goal.at.returns-then-branch-3-clause-node g c).In_ok-hash_in_line p ready in
    let read : HasRead (2 ^ 64 - 1) h [] old mid = is.1 in
    let then = c.in_ok-hash_until-2.ensures.given read.0 read.1 (max_of (2 ^ 64 - 1) h [] old mid read) in
    top_of_read (2 ^ 64 - 1) c.hash_until-2.new.front p c.top-then-branch-3.result c.top-then-branch-3.new.self.work old now
    (both_read (2 ^ 64 - 1) (2 ^ 64 - 1) h c.hash_until-2.new.front old mid now read then) (c.hash_until-2.ensures.mode ∙ is.0) c.top-then-branch-3.ensures.node c.top-then-branch-3.ensures.count
