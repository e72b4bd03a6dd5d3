use Rattle.std.proofs.Common.{◌≡◌, ◌-◌, ◌*◌, ◌^◌, ◌<◌, ℕ, List, [], length, arith, ap, refl, sym, ◌∙◌, subst}
use Rattle.std.proofs.lemmas.List.{append-nil}
use Rattle.b3_parallel.specs.inner.Blocks.{IsGiven}
use Rattle.b3_parallel.specs.inner.Lines.{AreCarried, Carries, last_of}
use Rattle.b3_parallel.proofs.Carrying.{ready_carries}
use Rattle.b3_parallel.proofs.Consuming.{none_read}
use Rattle.b3_parallel.proofs.Fitting.{whole_fits}
use Rattle.b3_parallel.proofs.Lining.{LineRead, line_given, small}
use Rattle.b3_parallel.proofs.reading.hash_in_line.Goals as goal
use Rattle.b3_parallel.proofs.reading.hash_in_line.Goals.{After-settle_all}

pub returns-then-count-lt2-clause-given : goal.returns-then-count-lt2-clause-given
returns-then-count-lt2-clause-given g c x is len =
    (refl, none_read (2 ^ 64 - 1) c.args.line.now.front x (g.R.Read.remaining c.args.reader.now) is (omega (arith, len, small c.args.line.now.level c.args.line.now.level_fits)))

-- the line is empty, and after what the hasher was given a block can be
begun : (g : _) (c : After-settle_all g) (x : List ℕ) → IsGiven c.args.line.now.front x → length x ≡ 1024 * 2 ^ c.args.line.now.level → Carries c.args.line.now.front.hasher.mode c.args.line.now x
begun g c x is len =
    let h = c.args.line.now.front in
    let k = c.args.line.now.level in
    rw c.requires (ready_carries h.hasher.mode k h x (refl, is, whole_fits h.hasher x k 1 is.0 (omega (arith, len))))

-- what was read, after all threads were waited for
settled : (g : _) (c : After-settle_all g) (p : _) (x : List ℕ) → length x < 2 ^ 64 → Carries p c.read_in_line-last.new.line x → AreCarried p c.settle_all.new.self.level c.settle_all.new.self.front [] x
settled g c p x few is = rw c.settle_all.ensures.empty at c.settle_all.ensures.carries p x few is

pub returns-in-Some-clause-given : goal.returns-in-Some-clause-given
returns-in-Some-clause-given g c x is len =
    let p = c.args.line.now.front.hasher.mode in
    let old = g.R.Read.remaining c.args.reader.now in
    let now = g.R.Read.remaining c.read_in_line-last.new.reader in
    let here = (goal.at.returns-in-Some-clause-given g c).After-settle_all in
    let line = c.read_in_line-last.new.line in
    let read : LineRead p line x (last_of c.in_ok-bytes.field-0) old now = c.in_ok-bytes.ensures.carries p x (begun g here x is len) len in
    let last : last_of c.in_ok-bytes.field-0 ≡ c.deref.result.now = ap last_of c.in-Some.is ∙ sym c.deref.ensures.value in
    line_given p c.settle_all.new.self.level line c.settle_all.new.self.front c.update.new.self x c.deref.result.now old now
    (rw last at read) (settled g here p) c.update.ensures.mode c.update.ensures.given

pub returns-in-None-clause-given : goal.returns-in-None-clause-given
returns-in-None-clause-given g c x is len =
    let p = c.args.line.now.front.hasher.mode in
    let old = g.R.Read.remaining c.args.reader.now in
    let now = g.R.Read.remaining c.read_in_line-last.new.reader in
    let here = (goal.at.returns-in-None-clause-given g c).After-settle_all in
    let line = c.read_in_line-last.new.line in
    let front = c.settle_all.new.self.front in
    let read : LineRead p line x (last_of c.in_ok-bytes.field-0) old now = c.in_ok-bytes.ensures.carries p x (begun g here x is len) len in
    line_given p c.settle_all.new.self.level line front front x [] old now
    (rw c.in-None.is at read) (settled g here p) refl (λ z given _. subst (IsGiven front) (sym (append-nil z)) given)
