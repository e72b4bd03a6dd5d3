use Rattle.std.proofs.Common.{◌*◌, ◌+◌, ◌^◌, ◌<◌, ℕ, ◌++◌, List, length, arith, ap, refl, ◌∙◌, length-append}
use Rattle.b3_core.specs.Hashers.{ModelHasher, IsAfter}
use Rattle.b3_core.specs.inner.Hashers.{IsNext}
use Rattle.b3_core.specs.Kept.{kept_of, tail_of}
use Rattle.b3_core.specs.Tree.{ModelTop}
use Rattle.b3_core.proofs.Hashings.{holds_next, next_of}
use Rattle.b3_core.proofs.kept.Kept.append.Goals as goal

-- the hasher before the call, and the next subtree
abbrev old : goal.After-put → ModelHasher
old c = kept_of c.args.mode.now c.args.self.now

abbrev next : goal.After-put → ℕ × ModelTop
next c = (c.args.level, c.args.top.now)

is_next : (c : goal.After-put) (x mine : List ℕ) → IsAfter (old c) c.args.level c.args.top.now x mine → IsNext (old c).mode (old c).subtrees (next c) (x ++ mine)
is_next c x mine (held, (none, from), len, node, few) = next_of (old c) (next c) x mine none held from len node

short : (x mine : List ℕ) → length x + length mine < 2 ^ 64 → length (x ++ mine) < 2 ^ 64
short x mine few = omega (arith, few, length-append x mine)

pub returns-clause-bytes : goal.returns-clause-bytes
returns-clause-bytes c x mine (held, (none, from), len, node, few) =
    let is = is_next c x mine (held, (none, from), len, node, few) in
    let are = c.put.ensures.nodes (x ++ mine) is (short x mine few) in
    let size : (old c).whole + 1024 * 2 ^ c.args.level < 2 ^ 64 = omega (arith, few, len, ap length held.1, length-append held.0 (old c).tail, held.3) in
    holds_next (old c) (kept_of c.args.mode.now c.put.new.self) (next c) x mine none held len refl (ap tail_of c.put.ensures.tail) (c.put.ensures.whole size) are

pub returns-clause-fits : goal.returns-clause-fits
returns-clause-fits c x mine (held, (none, from), len, node, few) =
    (ap tail_of c.put.ensures.tail ∙ none, c.put.ensures.from (x ++ mine) (is_next c x mine (held, (none, from), len, node, few)) (short x mine few))

pub returns-clause-count : goal.returns-clause-count
returns-clause-count c x mine (held, (none, from), len, node, few) =
    c.put.ensures.count (x ++ mine) (is_next c x mine (held, (none, from), len, node, few)) (short x mine few)
