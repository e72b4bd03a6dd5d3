use Rattle.std.proofs.Common.{◌≡◌, ℕ, ◌+◌, ◌-◌, ◌*◌, ◌<◌, drop, length, ap, ap₂, ◌∙◌, arith, slice_index}
use Rattle.std.proofs.lemmas.List.{length-drop, length-take-le}
use Rattle.b3_core.specs.Tree.{chain, chaining_value_of}
use Rattle.b3_core.specs.Lanes.{chunk_at, chunk_bytes}
use Rattle.b3_core.specs.inner.Rows.{rows_value}
use Rattle.b3_core.proofs.Nodes.{chain_step, whole_chunk_value}
use Rattle.b3_core.proofs.wide.pairs.pair_values.Goals as goal

pub blocks-2-init : goal.blocks-2-init
unfolding chain
blocks-2-init c = record { chained = λ i h. c.keys-h.ensures i h ∙ c.key.ensures; work = omega arith }

pub blocks-2-preserved : goal.blocks-2-preserved
blocks-2-preserved c = record {
  chained = λ i h.
      c.compress_rows-h.ensures.values i (c.args.number + i) 64 _ h (c.last_rows-last.ensures i h)
      ∙ chain_step (chunk_bytes c.args.bytes.now i) (c.args.number + i) c.args.mode.now c.blocks-2.k _ _ _ (c.blocks-2.invariant.chained i h)
      (c.blocks_at-m.ensures i h)
      (ap₂ (λ a b. a + b) c.flag.ensures.value c.start_flag.ensures);
  work = omega arith;
}

value : (c : goal.After-values_of) (i : ℕ) → 4 * i + 3 < 8
    → rows_value slice_index i c.compress_rows-values.result ≡ chaining_value_of (chunk_at c.args.bytes.now c.args.number c.args.mode.now i)
value c i h =
    let x = c.args.bytes.now in
    let rest = drop (1024 * i) x in
    let rest_len : length rest ≡ length x - 1024 * i = length-drop (1024 * i) x in
    let len : length (chunk_bytes x i) ≡ 1024 = length-take-le 1024 rest (omega (arith, rest_len, h, c.requires.len)) in
    let done : c.blocks-2.k ≡ 15 = omega arith in
    c.compress_rows-values.ensures.values i (c.args.number + i) 64 _ h (c.last_rows-last-2.ensures i h)
    ∙ whole_chunk_value (chunk_bytes x i) (c.args.number + i) c.args.mode.now _ _ _ len
    (rw done at (c.blocks-2.invariant.chained i h))
    (c.blocks_at-last_block.ensures i h)
    (ap (λ n. n + 2) c.flag-2.ensures.value)

pub returns-clause-first : goal.returns-clause-first
returns-clause-first c = c.values_of.ensures.first ∙ value c 0 (omega arith)

pub returns-clause-second : goal.returns-clause-second
returns-clause-second c = c.values_of.ensures.second ∙ value c 1 (omega arith)
