use Rattle.std.proofs.Common.{◌≡◌, ◌+◌, ◌*◌, ap₂, ◌∙◌, refl, arith}
use Rattle.b3_core.specs.Tree.{chain}
use Rattle.b3_core.specs.Lanes.{chunk_bytes}
use Rattle.b3_core.proofs.Nodes.{chain_step}
use Rattle.b3_core.proofs.wide.lanes.chains.Goals as goal

pub blocks-2-init : goal.blocks-2-init
unfolding chain
blocks-2-init g c = record { chained = λ j h. c.keys-h.ensures j h ∙ c.key.ensures; work = omega arith }

pub blocks-2-preserved : goal.blocks-2-preserved
blocks-2-preserved g c = record {
  chained = λ j h.
      c.compress_block.ensures.values j (c.args.number + g.row.STEP * j) h (c.low_words-t_low.ensures j h) (c.high_words-t_high.ensures j h)
      ∙ chain_step (chunk_bytes c.args.bytes.now (g.row.STEP * j)) (c.args.number + g.row.STEP * j) c.args.mode.now c.blocks-2.k _ _ _ (c.blocks-2.invariant.chained j h)
      refl
      (ap₂ (λ a b. a + b) c.flag.ensures.value c.start_flag.ensures);
  work = omega arith;
}

pub returns-clause-values : goal.returns-clause-values
returns-clause-values g c j h =
    let done : c.blocks-2.k ≡ 15 = omega arith in
    rw done at (c.blocks-2.invariant.chained j h)

pub compress_block-requires : goal.compress_block-requires
compress_block-requires g c =
    let small = g.met.V.Chunks.is_small in
    (omega arith, (c.requires.len, omega arith))
