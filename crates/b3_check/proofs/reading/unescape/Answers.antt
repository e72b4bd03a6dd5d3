use Rattle.std.proofs.Common.{◌≡◌, true, false, rules}
use Rattle.b3_check.specs.Names.{unescaped}
use Rattle.b3_check.proofs.Escapes.{reads_backslash, reads_byte, reads_escape, reads_no_escape, reads_to_end, reads_cut_escape}
use Rattle.b3_check.proofs.reading.unescape.Goals as goal
use Rattle.b3_check.proofs.reading.unescape.Goals.{then-after_backslash+in-Some+in_ok-push, else-after_backslash+then-byte-eq92, else-after_backslash+else-byte-eq92+in_ok-push-2}

pub returns-in_default : goal.returns-in_default
returns-in_default c =
    let on : c.loop-byte.after_backslash ≡ true = c.if-after_backslash.true in
    let so_far = rw on at c.loop-byte.invariant in
    reads_no_escape c.loop-byte.name.items c.args.units.now c.loop-byte.byte-index (unescaped c.args.units.now) c.loop-byte-test.true (search rules) so_far

pub loop-byte-preserved : goal.loop-byte-preserved
loop-byte-preserved c =
    elim c.if-after_backslash.branch [
      | then-after_backslash+in-Some+in_ok-push w ↦
          let on : c.loop-byte.after_backslash ≡ true = w.if-after_backslash.true in
          let so_far = rw on at c.loop-byte.invariant in
          rw (w.name-is, w.after_backslash-is, w.in_ok-push.ensures.items)
          (reads_escape c.loop-byte.name.items c.args.units.now c.loop-byte.byte-index w.in-Some.value (unescaped c.args.units.now) c.loop-byte-test.true (search rules) so_far)
      | else-after_backslash+then-byte-eq92 w ↦
          let off : c.loop-byte.after_backslash ≡ false = w.if-after_backslash.false in
          let so_far = rw off at c.loop-byte.invariant in
          rw (w.name-is, w.after_backslash-is)
          (reads_backslash c.loop-byte.name.items c.args.units.now c.loop-byte.byte-index (unescaped c.args.units.now) c.loop-byte-test.true (search rules) so_far)
      | else-after_backslash+else-byte-eq92+in_ok-push-2 w ↦
          let off : c.loop-byte.after_backslash ≡ false = w.if-after_backslash.false in
          let so_far = rw off at c.loop-byte.invariant in
          rw (w.name-is, w.after_backslash-is, off, w.in_ok-push-2.ensures.items)
          (reads_byte c.loop-byte.name.items c.args.units.now c.loop-byte.byte-index (unescaped c.args.units.now) c.loop-byte-test.true (search rules) so_far)
    ]

pub returns-then-after_backslash-2 : goal.returns-then-after_backslash-2
returns-then-after_backslash-2 c =
    let on : c.loop-byte.after_backslash ≡ true = c.if-after_backslash-2.true in
    let so_far = rw on at c.loop-byte.invariant in
    reads_cut_escape c.loop-byte.name.items c.args.units.now c.loop-byte.byte-index (unescaped c.args.units.now) c.loop-byte-test.false so_far

pub returns : goal.returns
returns c =
    let off : c.loop-byte.after_backslash ≡ false = c.if-after_backslash-2.false in
    let so_far = rw off at c.loop-byte.invariant in
    reads_to_end c.loop-byte.name.items c.args.units.now c.loop-byte.byte-index (unescaped c.args.units.now) c.loop-byte-test.false so_far
