use Rattle.std.proofs.Common.{◌/◌, ◌∙◌, ap₂, sym}
use Rattle.b3_core.specs.Hashers.{IsAfter}
use Rattle.b3_core.specs.Tree.{tree_top}
use Rattle.b3_parallel.proofs.Counting.{counts_block}
use Rattle.b3_parallel.proofs.Standing.{bare_length}
use Rattle.b3_parallel.proofs.counted_hasher.CountedHasher.append.Goals as goal

pub returns : goal.returns
returns c p x mine (mode, (held, count), fits) len (node, made) few =
    let h = c.args.self.now.hasher in
    let following : IsAfter h c.args.level c.args.top.now x mine = (held, fits, len, node ∙ ap₂ (λ n q. tree_top mine (n / 1024) q) (bare_length h x fits.0 held) (sym mode), few) in (
      c.append.ensures.mode ∙ mode,
      (
        c.append.ensures.bytes x mine following,
        counts_block c.args.level h.subtrees c.append.new.self.subtrees c.args.top.now mine c.args.self.now.work c.args.work c.absorb.new.self c.append.new.work
            len made c.absorb.ensures (c.append.ensures.count x mine following) count,
      ),
      c.append.ensures.fits x mine following,
    )
