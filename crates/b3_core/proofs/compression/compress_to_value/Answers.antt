use Rattle.std.proofs.Common.{List, ℕ, ◌∙◌, ap, take}
use Rattle.b3_core.specs.Compression.{compress_of, output_words}
use Rattle.b3_core.proofs.compression.compress_to_value.Goals as goal

pub returns-clause-value : goal.returns-clause-value
unfolding compress_of
returns-clause-value c =
    let h = c.args.chaining_value.now in
    c.low_words.ensures h ∙ ap (λ (v : List ℕ). take 8 (output_words h v)) c.state_after-v.ensures.state
