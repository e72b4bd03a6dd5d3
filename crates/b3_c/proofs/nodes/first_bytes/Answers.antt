use Rattle.std.proofs.Common.{◌≡◌, rules, arith, sym, ◌∙◌}
use Rattle.std.proofs.lemmas.List.{take_all}
use Rattle.std.proofs.lemmas.Slice.{overwrites}
use Rattle.b3_core.proofs.OutputBytes.{word_more}
use Rattle.b3_c.proofs.nodes.first_bytes.Goals as goal

pub words-preserved : goal.words-preserved
words-preserved c = record {
  len = search (rules, overwrites);
  bytes =
      word_more c.args.words.now c.words.out _ c.words.i _ c.words.invariant.bytes (omega arith)
      (c.copy_from_slice.ensures.after ∙ c.to_le_bytes.ensures);
}

pub returns : goal.returns
returns c =
    let done : c.words.i ≡ 8 = omega arith in
    let bytes = rw done at c.words.invariant.bytes in
    sym (take_all 32 c.words.out (omega arith)) ∙ bytes
