use Rattle.std.proofs.Common.{rules, ◌≡◌, ◌<◌, ◌++◌, take, subst, vec_len}
use Rattle.std.specs.Io.KnownBytes.{Consumes, Keeps}
use Rattle.std.proofs.KnownBytes.{Consumes-kept, Consumes-trans}
use Rattle.store_engines.proofs.streams.read_stretches.Goals as goal
use Rattle.store_engines.proofs.streams.read_stretches.Goals.{in-Ok+in_ok-gathered-in-Ok, in-Err+then-eq}

pub loop-preserved : goal.loop-preserved
loop-preserved g c =
    let old = g.R.Read.remaining c.args.reader.now in
    let mid = g.R.Read.remaining c.loop.reader in
    let new = g.R.Read.remaining c.read_some.new.reader in
    let some : 0 < vec_len c.read_some.new.buffer = search rules in
    elim c.match-read_some.branch [
      | in-Ok+in_ok-gathered-in-Ok w ↦
          let read : Consumes mid new (take w.in-Ok.count c.read_some.new.buffer.items) = search rules in
          let each : c.match-read_some.gathered.each ≡ c.loop.gathered.each = search rules in
          let bytes : c.loop.gathered.bytes ++ take w.in-Ok.count c.read_some.new.buffer.items ≡ c.match-read_some.gathered.bytes = search rules in
          (some, search (rules, each), subst (Consumes old new) bytes (Consumes-trans old mid new _ _ c.loop.invariant.2 read))
      | in-Err+then-eq w ↦
          let kept : Keeps mid new = search rules in
          let same : c.match-read_some.gathered ≡ c.loop.gathered = w.gathered-is in
          let bytes : c.loop.gathered.bytes ≡ c.match-read_some.gathered.bytes = search rules in
          (some, search (rules, same), subst (Consumes old new) bytes (Consumes-kept old mid new _ c.loop.invariant.2 kept))
    ]
