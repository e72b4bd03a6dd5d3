use Rattle.std.proofs.Common.{◌≡◌, ◌+◌, ◌-◌, ◌*◌, drop, take, length, arith, ap, ◌∙◌, sym}
use Rattle.std.proofs.lemmas.List.{length-drop, length-take-le, drop-take, drop-drop}
use Rattle.b3_core.specs.Tree.{block_words_of}
use Rattle.b3_core.specs.Lanes.{chunk_bytes}
use Rattle.b3_core.proofs.Nodes.{chunk_is}
use Rattle.b3_core.proofs.node.Top.of_lane.Goals as goal

pub returns : goal.returns
returns c = λ held.
    let x = c.args.bytes.now in
    let i = c.args.i in
    let rest = drop (1024 * i) x in
    let rest_len : length rest ≡ length x - 1024 * i = length-drop (1024 * i) x in
    let len : length (chunk_bytes x i) ≡ 1024 = length-take-le 1024 rest (omega arith) in
    let at = 1024 * i + 960 in
    let width : at + 64 - at ≡ 64 = omega arith in
    let last : drop 960 (chunk_bytes x i) ≡ take 64 (drop at x) = drop-take 960 64 rest ∙ ap (take 64) (drop-drop 960 (1024 * i) x) in
    chunk_is (chunk_bytes x i) (c.args.number + i) c.args.mode.now 15 _ _ _ _ (omega arith) (c.lane_words.ensures ∙ held)
    ((rw width at c.words_of_block.ensures) ∙ ap block_words_of (sym last))
    (omega arith)
    (omega arith)
