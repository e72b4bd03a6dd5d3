use Rattle.std.proofs.Common.{◌∙◌, ap, ap₂, take}
use Rattle.b3_core.specs.Compression.{compress_of, rounds, round, permute, message, output_words}
use Rattle.b3_core.specs.inner.Lanes.{lane}
use Rattle.b3_core.proofs.wide.lanes.compress.Goals as goal

pub returns-clause-values : goal.returns-clause-values
unfolding compress_of rounds message
returns-clause-values g c j t h low high =
    let m1 = c.permute-m1.ensures j h in
    let m2 = c.permute-m2.ensures j h ∙ ap permute m1 in
    let m3 = c.permute-m3.ensures j h ∙ ap permute m2 in
    let m4 = c.permute-m4.ensures j h ∙ ap permute m3 in
    let m5 = c.permute-m5.ensures j h ∙ ap permute m4 in
    let m6 = c.permute-m6.ensures j h ∙ ap permute m5 in
    let v1 = c.round-v1.ensures j h ∙ ap (λ v. round v (lane g.V.Words.word j c.args.m0)) (c.start_states-v0.ensures j t h low high) in
    let v2 = c.round-v2.ensures j h ∙ ap₂ round v1 m1 in
    let v3 = c.round-v3.ensures j h ∙ ap₂ round v2 m2 in
    let v4 = c.round-v4.ensures j h ∙ ap₂ round v3 m3 in
    let v5 = c.round-v5.ensures j h ∙ ap₂ round v4 m4 in
    let v6 = c.round-v6.ensures j h ∙ ap₂ round v5 m5 in
    let v7 = c.round-v.ensures j h ∙ ap₂ round v6 m6 in
    c.halves.ensures j (lane g.V.Words.word j c.args.h.now) h ∙ ap (λ v. take 8 (output_words (lane g.V.Words.word j c.args.h.now) v)) v7
