use Rattle.std.proofs.Common.{List, ℕ, ap, sym, ◌∙◌}
use Rattle.std.specs.Prelude.{map}
use Rattle.std.specs.List.{range_with_len}
use Rattle.b3_core.specs.ExtendedOutput.{byte_of}
use Rattle.b3_core.proofs.OutputBytes.{block_bytes}
use Rattle.b3_core.proofs.node.Top.output_block.Goals as goal

pub returns-clause-bytes : goal.returns-clause-bytes
returns-clause-bytes c =
    c.bytes_of.ensures
    ∙ ap (λ (w : List ℕ). map (byte_of w) (range_with_len 0 64)) c.root_words.ensures.words
    ∙ sym (block_bytes _ c.args.i)
