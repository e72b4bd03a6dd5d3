use Rattle.std.proofs.Common.{◌-◌, ◌≤◌, length, drop, arith, length-drop}
use Rattle.std.proofs.lemmas.List.{take_all}
use Rattle.edge.proofs.Output.{AllBut-none, AllBut-some, AllBut-kept}
use Rattle.edge.proofs.streams.write_whole.Goals as goal
use Rattle.edge.proofs.streams.write_whole.Goals.{in-Ok, in-Err}

pub loop-init : goal.loop-init
loop-init g c = AllBut-none (g.W.Write.contents c.args.writer.now) c.args.bytes.now

pub loop-preserved : goal.loop-preserved
loop-preserved g c =
    let old = g.W.Write.contents c.args.writer.now in
    let mid = g.W.Write.contents c.loop.writer in
    let new = g.W.Write.contents c.write.new.self in
    let rest = c.loop.rest.now in
    elim c.match-write.branch [
      | in-Ok w ↦
          let following = drop w.in-Ok.count rest in
          let short : length following ≤ length rest - w.in-Ok.count = omega (arith, length-drop w.in-Ok.count rest) in
          rw (w.rest-is, take_all (length rest - w.in-Ok.count) following short) (AllBut-some old mid new c.args.bytes.now rest w.in-Ok.count c.loop.invariant w.in-Ok.ensures.bytes)
      | in-Err w ↦ rw (w.rest-is) (AllBut-kept old mid new c.args.bytes.now rest c.loop.invariant w.in-Err.ensures.bytes)
    ]
