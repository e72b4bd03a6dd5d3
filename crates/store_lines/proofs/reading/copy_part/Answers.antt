use Rattle.std.proofs.Common.{rules, arith, ◌≡◌, ◌≤◌, ◌∙◌, ◌++◌, length, length-take-le, subst, take}
use Rattle.std.specs.Io.BufRead.{FillKeeps}
use Rattle.std.proofs.BufReadLemmas.{Consumes_shown}
use Rattle.store_lines.proofs.reading.copy_part.Goals as goal

pub returns-then-len-eq0-clause-taken : goal.returns-then-len-eq0-clause-taken
returns-then-len-eq0-clause-taken g c =
    let shown = c.in-Ok.available.now in
    let count = c.min-count.result in
    let within : count ≤ length shown = search rules in
    let rested = c.fill_buf.follows.lender-at-none in
    let filled = subst (FillKeeps _ (g.R.Read.remaining rested) (g.R.BufRead.consumable_len rested)) c.in-Ok.is c.fill_buf.follows.holds-at-none in
    let moved = Consumes_shown _ _ _ _ shown count within c.in-Ok.ensures.front c.in-Ok.ensures.end filled.0 filled.1 c.consume.ensures.bytes in
    let none : length shown ≡ 0 = search rules in
    let nothing : count ≡ 0 = omega arith in
    let added : c.extend_from_slice.new.self.items ≡ c.args.bytes.now.items ++ take count shown = search rules in
    ((take count shown), (moved.0, length-take-le count shown within ∙ nothing, moved.1 none), added)
