use Rattle.std.proofs.Common.{◌≡◌, ◌*◌, ◌+◌, ◌∙◌, ap, flat_map, length, length-append, rules, slice_index_or, sym, take}
use Rattle.b3_parallel.proofs.Placing.{blocks_join, blocks_more}
use Rattle.b3_parallel.proofs.gathering.joined_len.Goals as goal

pub loop-number-preserved : goal.loop-number-preserved
loop-number-preserved c =
    let blocks = c.args.blocks.now in
    let i = c.loop-number.number in
    let block = slice_index_or blocks i c.index-blocks-number.result in
    let here : c.index-blocks-number.result ≡ block = search rules in
    let start : c.in_ok-start.start ≡ i * c.args.block_len = search rules in
    let same : c.in_ok-start.start ≡ c.loop-number.len = search rules in
    let sum : c.in_ok-len.len ≡ c.loop-number.len + length block.items = search (rules, here) in
    let place : i * c.args.block_len ≡ length (flat_map (λ b. b.items) (take i blocks)) = sym start ∙ same ∙ c.loop-number.invariant.len in
    record {
      len = sum ∙ ap (λ n. n + length block.items) c.loop-number.invariant.len ∙ sym (length-append (flat_map (λ b. b.items) (take i blocks)) block.items)
          ∙ ap length (sym (blocks_join blocks i c.index-blocks-number.result (search rules)));
      stands = λ known each. blocks_more known blocks i (i * c.args.block_len) c.index-blocks-number.result (search rules) (sym place) (c.loop-number.invariant.stands known each) (each i c.index-blocks-number.result (search rules));
    }
