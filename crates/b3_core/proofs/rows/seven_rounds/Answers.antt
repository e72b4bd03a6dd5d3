use Rattle.std.proofs.Common.{◌∙◌, ap, ap₂}
use Rattle.b3_core.specs.Compression.{rounds, round, permute, message}
use Rattle.b3_core.proofs.rows.seven_rounds.Goals as goal

pub returns-clause-states : goal.returns-clause-states
unfolding rounds message
returns-clause-states g c i h =
    let m1 = c.permute-m1.ensures i h in
    let m2 = c.permute-m2.ensures i h ∙ ap permute m1 in
    let m3 = c.permute-m3.ensures i h ∙ ap permute m2 in
    let m4 = c.permute-m4.ensures i h ∙ ap permute m3 in
    let m5 = c.permute-m5.ensures i h ∙ ap permute m4 in
    let m6 = c.permute-m6.ensures i h ∙ ap permute m5 in
    let v1 = c.round-v1.ensures i h in
    let v2 = c.round-v2.ensures i h ∙ ap₂ round v1 m1 in
    let v3 = c.round-v3.ensures i h ∙ ap₂ round v2 m2 in
    let v4 = c.round-v4.ensures i h ∙ ap₂ round v3 m3 in
    let v5 = c.round-v5.ensures i h ∙ ap₂ round v4 m4 in
    let v6 = c.round-v6.ensures i h ∙ ap₂ round v5 m5 in
    c.round.ensures i h ∙ ap₂ round v6 m6
