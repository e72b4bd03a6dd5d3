use Rattle.std.proofs.Common.{◌≡◌, ℕ, ◌+◌, ◌*◌, ◌^◌, ◌<◌, ◌≤◌, List, length, take, arith, rules, ap, sym, ◌∙◌, length-take-le}
use Rattle.std.proofs.lemmas.List.{take_all}
use Rattle.std.specs.Io.KnownBytes.{Consumes}
use Rattle.b3_core.specs.Tree.{ModelMode}
use Rattle.b3_parallel.specs.inner.Lines.{Carries}
use Rattle.b3_parallel.proofs.Lining.{LineHas, line_begins, line_ends, line_kept, line_more, line_stops, small}
use Rattle.b3_parallel.proofs.reading.read_in_line.Goals as goal
use Rattle.b3_parallel.proofs.reading.read_in_line.Goals.{After-next_place, After-put}

pub loop-place-init : goal.loop-place-init
loop-place-init g c = record {
  level = search rules;
  has = λ p x first len.
      line_begins p c.args.line.now.level c.args.line.now x (g.R.Read.remaining c.args.reader.now) first len (omega (arith, small c.args.line.now.level c.args.line.now.level_fits));
}

-- the line with a place for the next block
placed : (g : _) (c : After-next_place g) (p : ModelMode) (x : List ℕ) → Carries p c.args.line.now x → length x ≡ 1024 * 2 ^ c.args.line.now.level
    → LineHas p c.args.line.now.level c.next_place.new.self x c.loop-place.place (g.R.Read.remaining c.args.reader.now) (g.R.Read.remaining c.loop-place.reader)
placed g c p x first len =
    line_kept p c.args.line.now.level c.loop-place.line c.next_place.new.self x c.loop-place.place (g.R.Read.remaining c.args.reader.now) (g.R.Read.remaining c.loop-place.reader)
    (c.loop-place.invariant.has p x first len) (λ z few is. c.next_place.ensures.carries p z few is)

pub returns-in_default-clause-carries : goal.returns-in_default-clause-carries
returns-in_default-clause-carries g c p x first len =
    line_stops p c.args.line.now.level c.next_place.new.self x c.loop-place.place (g.R.Read.remaining c.args.reader.now) (g.R.Read.remaining c.loop-place.reader)
    (placed g (goal.at.returns-in_default-clause-carries g c).After-next_place p x first len)

pub returns-then-filled-len-clause-carries : goal.returns-then-filled-len-clause-carries
returns-then-filled-len-clause-carries g c p x first len =
    let k = c.args.line.now.level in
    let mid = g.R.Read.remaining c.loop-place.reader in
    let now = g.R.Read.remaining c.fill_block.new.reader in
    let all = c.fill_block.new.block.items in
    let last = c.truncate.new.self.items in
    let size : length all ≡ 1024 * 2 ^ k = search (rules, c.fill_block.ensures, c.in-Some.ensures, c.loop-place.invariant.level) in
    let most : c.in_ok-filled.filled.count ≤ length all = search (rules, c.in_ok-filled.ensures, c.fill_block.ensures) in
    let read : Consumes mid now (take c.in_ok-filled.filled.count all) = search (rules, c.in_ok-filled.ensures) in
    let short : length last < 2 ^ 62 = omega (arith, ap length c.truncate.ensures.items, length-take-le c.in_ok-filled.filled.count all most, most, size, small k c.args.line.now.level_fits) in
    line_ends p k c.next_place.new.self x last c.loop-place.place (g.R.Read.remaining c.args.reader.now) mid now
    (placed g (goal.at.returns-then-filled-len-clause-carries g c).After-next_place p x first len) (rw c.truncate.ensures.items read) short

-- the line with the block at its end
longer : (g : _) (c : After-put g) (p : ModelMode) (x : List ℕ) → Carries p c.args.line.now x → length x ≡ 1024 * 2 ^ c.args.line.now.level
    → LineHas p c.args.line.now.level c.put.new.self x (c.loop-place.place + 1) (g.R.Read.remaining c.args.reader.now) (g.R.Read.remaining c.fill_block.new.reader)
longer g c p x first len =
    let k = c.args.line.now.level in
    let mid = g.R.Read.remaining c.loop-place.reader in
    let now = g.R.Read.remaining c.fill_block.new.reader in
    let all = c.fill_block.new.block.items in
    let same : c.next_place.new.self.level ≡ k = c.next_place.ensures.level ∙ c.loop-place.invariant.level in
    let size : length all ≡ 1024 * 2 ^ k = search (rules, c.fill_block.ensures, c.in-Some.ensures, c.loop-place.invariant.level) in
    let here = line_kept p k c.loop-place.line c.next_place.new.self x c.loop-place.place (g.R.Read.remaining c.args.reader.now) mid (c.loop-place.invariant.has p x first len)
    (λ z few is. c.next_place.ensures.carries p z few is) in
    let whole : take c.in_ok-filled.filled.count all ≡ all = take_all c.in_ok-filled.filled.count all (search (rules, c.in_ok-filled.ensures, c.len.ensures, c.if-filled-len.false)) in
    let read : Consumes mid now (take c.in_ok-filled.filled.count all) = search (rules, c.in_ok-filled.ensures) in
    line_more p k c.next_place.new.self c.put.new.self x all c.loop-place.place (g.R.Read.remaining c.args.reader.now) mid now here size
    (c.block_limit-place-end.ensures c.loop-place.place c.loop-place-test.true) (rw whole at read)
    (λ z is at. c.put.ensures.carries p z is (at ∙ ap (λ m. 1024 * (c.loop-place.place * 2 ^ m)) (sym same)))

pub returns-then-not-put-clause-carries : goal.returns-then-not-put-clause-carries
returns-then-not-put-clause-carries g c p x first len =
    line_stops p c.args.line.now.level c.put.new.self x (c.loop-place.place + 1) (g.R.Read.remaining c.args.reader.now) (g.R.Read.remaining c.fill_block.new.reader)
    (longer g (goal.at.returns-then-not-put-clause-carries g c).After-put p x first len)

pub loop-place-preserved : goal.loop-place-preserved
loop-place-preserved g c = record {
  level = search rules;
  has = λ p x first len. longer g (goal.at.loop-place-preserved g c).After-put p x first len;
}

pub returns-clause-carries : goal.returns-clause-carries
returns-clause-carries g c p x first len =
    line_stops p c.args.line.now.level c.loop-place.line x c.loop-place.place (g.R.Read.remaining c.args.reader.now) (g.R.Read.remaining c.loop-place.reader) (c.loop-place.invariant.has p x first len)
