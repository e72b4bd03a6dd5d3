use Rattle.std.proofs.Common.{rules, arith, ◌≡◌, ◌∙◌, ◌+◌, ◌-◌, ◌≤◌, ◌++◌, ap, drop, length, length-append, length-drop, map, min, subst, sym, take}
use Rattle.std.specs.Arc.{arc_value}
use Rattle.std.proofs.lemmas.List.{length-take}
use Rattle.b3_forest.specs.Uploads.{content_of, part_of}
use Rattle.store_core.proofs.Cuts.{all_taken, room_more, segment_next, taken_more}
use Rattle.store_core.proofs.object.read_segments.Goals as goal

pub loop-segment-preserved : goal.loop-segment-preserved
loop-segment-preserved c =
    let (done, long, within, room, left) = c.loop-segment.invariant in
    let old = c.args.room.now in
    let now = c.loop-segment.room in
    let at = c.loop-segment.at in
    let skip = c.loop-segment.skip in
    let i = c.loop-segment.segment-index in
    let bytes = (arc_value c.segment-item.result.bytes).items in
    let later = content_of (map part_of (drop (i + 1) c.args.segments.now)) in
    let all = take (length old) (drop c.args.offset (content_of (map part_of c.args.segments.now))) in
    let n = c.copy_at-at.result in
    let following : c.following.result.now ≡ drop skip bytes = search rules in
    let size : length now ≡ length old = omega (arith, ap length room, length-append done (drop at old), length-drop at old, long, within) in
    let count : n ≡ min (length (drop skip bytes)) (length old - at) = omega (arith, c.copy_at-at.ensures.count, ap length following, size) in
    let piece : n ≡ length (take n (drop skip bytes)) = omega (arith, length-take n (drop skip bytes), count) in
    let new = subst (λ b. c.copy_at-at.new.room ≡ take at now ++ (take n b ++ drop (at + n) now)) following c.copy_at-at.ensures.bytes in
    let next = ap (λ z. done ++ take (length old - at) (drop skip z)) (sym (segment_next c.args.segments.now i c.segment-item.result c.loop-segment-test.true c.segment-item.is)) ∙ left in
    let more = taken_more done all bytes later (length old - at) skip n count next in
    let rest : length old - at - n ≡ length old - (at + n) = omega arith in
    let skipped : skip - length bytes ≡ c.saturating_sub-skip.result = search rules in (
      done ++ take n (drop skip bytes),
      omega (arith, length-append done (take n (drop skip bytes)), long, piece),
      omega (arith, count, within),
      room_more old now c.copy_at-at.new.room done (take n (drop skip bytes)) at n long piece room new,
      subst (λ s. (done ++ take n (drop skip bytes)) ++ take (length old - (at + n)) (drop s later) ≡ all) skipped (subst (λ k. (done ++ take n (drop skip bytes)) ++ take k (drop (skip - length bytes) later) ≡ all) rest more),
    )

pub returns-clause-count : goal.returns-clause-count
returns-clause-count c =
    let (done, long, within, room, left) = c.loop-segment.invariant in
    let all = drop c.args.offset (content_of (map part_of c.args.segments.now)) in
    let is = all_taken done (take (length c.args.room.now) all) (length c.args.room.now - c.loop-segment.at) c.loop-segment.skip c.args.segments.now c.loop-segment.segment-index c.loop-segment-test.false left in
    omega (arith, ap length is, long, length-take (length c.args.room.now) all, length-drop c.args.offset (content_of (map part_of c.args.segments.now)))

pub returns-clause-bytes : goal.returns-clause-bytes
returns-clause-bytes c =
    let (done, long, within, room, left) = c.loop-segment.invariant in
    let all = drop c.args.offset (content_of (map part_of c.args.segments.now)) in
    let is = all_taken done (take (length c.args.room.now) all) (length c.args.room.now - c.loop-segment.at) c.loop-segment.skip c.args.segments.now c.loop-segment.segment-index c.loop-segment-test.false left in
    room ∙ ap (λ d. d ++ drop c.loop-segment.at c.args.room.now) is
