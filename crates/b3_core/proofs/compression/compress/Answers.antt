use Rattle.std.proofs.Common.{List, ℕ, ◌∙◌, ap}
use Rattle.b3_core.specs.Compression.{compress_of, output_words}
use Rattle.b3_core.proofs.compression.compress.Goals as goal

pub returns-clause-words : goal.returns-clause-words
unfolding compress_of
returns-clause-words c =
    let h = c.args.chaining_value.now in
    c.output_words.ensures ∙ ap (λ (v : List ℕ). output_words h v) c.state_after-v.ensures.state
