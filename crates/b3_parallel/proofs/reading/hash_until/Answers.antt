use Rattle.std.proofs.Common.{◌≡◌, ◌+◌, ◌<◌, ◌≤◌, ◌^◌, ◌++◌, length, take, arith, rules, ◌∙◌, length-take-le}
use Rattle.b3_parallel.proofs.Consuming.{max_of, none_read, read_more, read_none}
use Rattle.b3_parallel.proofs.reading.hash_until.Goals as goal
use Rattle.b3_parallel.proofs.reading.hash_until.Goals.{in-Ok, in-Err}

pub loop-init : goal.loop-init
loop-init g c = record {
  mode = search rules;
  len = search rules;
  given = λ x is few. none_read c.args.until c.args.front.now x (g.R.Read.remaining c.args.reader.now) is few;
}

pub loop-preserved : goal.loop-preserved
loop-preserved g c =
    let until = c.args.until in
    let h = c.loop.front in
    let old = g.R.Read.remaining c.args.reader.now in
    let mid = g.R.Read.remaining c.loop.reader in
    let now = g.R.Read.remaining c.read_some.new.reader in
    elim c.match-read_some.branch [
      | in-Ok b ↦ record {
        mode = rw b.front-is (b.update.ensures.mode ∙ c.loop.invariant.mode);
        len = c.read_some.ensures.len ∙ c.loop.invariant.len;
        given = λ x is few.
            let before = c.loop.invariant.given x is few in
            let all = x ++ before.0 in
            let bytes = take b.in-Ok.count c.read_some.new.buffer in
            let given : c.count-given.result ≡ length all = c.count-given.ensures.bytes all before.1.0 (omega (arith, c.ranges.until.fits, max_of until h x old mid before)) in
            let size : length bytes ≡ b.in-Ok.count = length-take-le b.in-Ok.count c.read_some.new.buffer (omega (arith, b.in-Ok.ensures.count, c.read_some.ensures.len)) in
            let fits : length all + length bytes ≤ until = omega (arith, given, size, b.in-Ok.ensures.count, c.if-given-until.false) in
            let room : length all + length bytes < 2 ^ 64 = omega (arith, fits, c.ranges.until.fits) in
            let more = read_more until h b.update.new.self x bytes old mid now before (b.update.ensures.given all before.1 room) b.in-Ok.ensures.bytes fits in
            rw b.front-is more;
      }
      | in-Err b ↦ record {
        mode = rw b.front-is c.loop.invariant.mode;
        len = c.read_some.ensures.len ∙ c.loop.invariant.len;
        given = λ x is few. rw b.front-is (read_none until h x old mid now (c.loop.invariant.given x is few) b.in-Err.ensures.kept);
      }
    ]
