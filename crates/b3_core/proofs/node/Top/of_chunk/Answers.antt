use Rattle.std.proofs.Common.{◌≡◌, ◌+◌, ◌-◌, ◌*◌, ◌/◌, drop, arith, ap, ap₂, ◌∙◌}
use Rattle.std.proofs.lemmas.List.{take_rest, length-drop}
use Rattle.b3_core.specs.Tree.{chain, block_words_of, start_flag}
use Rattle.b3_core.proofs.Nodes.{chain_step, chunk_is}
use Rattle.b3_core.proofs.node.Top.of_chunk.Goals as goal

pub blocks-2-init : goal.blocks-2-init
unfolding chain
blocks-2-init c = record { chained = c.key-chaining_value.ensures; work = omega arith }

pub blocks-2-preserved : goal.blocks-2-preserved
blocks-2-preserved c =
    let j = c.blocks-2.j in
    let width : 64 * j + 64 - 64 * j ≡ 64 = omega arith in
    record {
      chained =
          c.compress_to_value-chaining_value.ensures.value
          ∙ chain_step c.args.bytes.now c.args.number c.args.mode.now j _ _ _ c.blocks-2.invariant.chained
          (rw width at c.words_of_block-block.ensures)
          (ap₂ (λ a b. a + b) c.flag.ensures.value c.start_flag.ensures);
      work = omega arith;
    }

pub returns-clause-node : goal.returns-clause-node
returns-clause-node c =
    let x = c.args.bytes.now in
    let k = c.saturating_sub-last.result / 64 in
    let done : k ≡ c.blocks-2.j = omega arith in
    let tail = take_rest x (64 * k) in
    chunk_is x c.args.number c.args.mode.now c.blocks-2.j _ _ _ _ (omega arith) c.blocks-2.invariant.chained
    (c.words_of_short_block.ensures ∙ ap block_words_of (tail ∙ ap (λ i. drop (64 * i) x) done))
    (rw (tail, length-drop (64 * k) x) (omega arith))
    (ap₂ (λ a b. a + b + 2) c.flag-2.ensures.value (c.start_flag-2.ensures ∙ ap start_flag done))
