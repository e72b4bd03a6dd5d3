use Rattle.std.proofs.Common.{rules, ◌≡◌, ◌<◌, ◌≤◌, ◌/◌, ◌%◌, length, drop, arith, ap, subst, sym, ◌∙◌}
use Rattle.std.specs.Prelude.{◌++◌, flat_map, get_or}
use Rattle.b3_forest.specs.Stretches.{StandsAt, ModelStretches, left_of_stretch, stretch_bytes, stretched}
use Rattle.b3_forest.proofs.ByteRuns.{full_length, full_stands, last_stands, last_whole, number_of_last}
use Rattle.b3_forest.proofs.stretches.Stretches.begun_at.Goals as goal

pub returns-then-number-len-clause-stands : goal.returns-then-number-len-clause-stands
returns-then-number-len-clause-stands c =
    let n = c.self.inside.stretch_len in
    let xs = c.self.inside.full.items in
    let last = stretch_bytes c.self.inside.last in
    let at = c.args.offset in
    let d = c.index.result.now in
    let low : at / n < length xs = search rules in
    let aligned : at % n ≡ 0 = search rules in
    let stands = full_stands stretch_bytes n at xs last d c.self.invariant.0 c.self.invariant.1 low aligned in
    let same : stretch_bytes (get_or xs (at / n) d) ≡ stretch_bytes c.index.result.now = search rules in
    subst (λ (s : ModelStretches). StandsAt s.bytes at (stretch_bytes c.index.result.now)) c.self.view_is (subst (StandsAt (stretched n xs last).bytes at) same stands)

-- an offset before the end that is in no full stretch
in_last : (c : goal.Else-number-len) → c.args.offset / c.self.inside.stretch_len ≡ length c.self.inside.full.items
in_last c =
    let n = c.self.inside.stretch_len in
    let xs = c.self.inside.full.items in
    let last = stretch_bytes c.self.inside.last in
    let below : c.args.offset < length (flat_map stretch_bytes xs ++ last) = omega (arith, c.self.invariant.2, c.if-self-offset.false) in
    let low : length xs ≤ c.args.offset / n = search rules in
    number_of_last stretch_bytes n c.args.offset xs last c.self.invariant.1 c.self.invariant.3 below low

pub returns-else-number-len-clause-stands : goal.returns-else-number-len-clause-stands
returns-else-number-len-clause-stands c =
    let n = c.self.inside.stretch_len in
    let xs = c.self.inside.full.items in
    let last = stretch_bytes c.self.inside.last in
    let at = c.args.offset in
    let number : at / n ≡ length xs = in_last c in
    let aligned : at % n ≡ 0 = search rules in
    subst (λ (s : ModelStretches). StandsAt s.bytes at last) c.self.view_is (last_stands stretch_bytes n at xs last c.self.invariant.1 number aligned)

pub returns-then-number-len-clause-whole : goal.returns-then-number-len-clause-whole
returns-then-number-len-clause-whole c =
    let n = c.self.inside.stretch_len in
    let xs = c.self.inside.full.items in
    let last = stretch_bytes c.self.inside.last in
    let at = c.args.offset in
    let d = c.index.result.now in
    let low : at / n < length xs = search rules in
    let aligned : at % n ≡ 0 = search rules in
    let len = full_length stretch_bytes n at xs last d c.self.invariant.0 c.self.invariant.1 low in
    let same : stretch_bytes (get_or xs (at / n) d) ≡ stretch_bytes d = search rules in
    subst (λ (s : ModelStretches). (at % s.each ≡ 0) × (length (stretch_bytes d) ≡ left_of_stretch s at)) c.self.view_is
    (aligned, ap length (sym same) ∙ ap (λ i. length (drop i (stretch_bytes (get_or xs (at / n) d)))) (sym aligned) ∙ len)

pub returns-else-number-len-clause-whole : goal.returns-else-number-len-clause-whole
returns-else-number-len-clause-whole c =
    let n = c.self.inside.stretch_len in
    let xs = c.self.inside.full.items in
    let last = stretch_bytes c.self.inside.last in
    let at = c.args.offset in
    let number : at / n ≡ length xs = in_last c in
    let aligned : at % n ≡ 0 = search rules in
    subst (λ (s : ModelStretches). (at % s.each ≡ 0) × (length last ≡ left_of_stretch s at)) c.self.view_is
    (aligned, last_whole stretch_bytes n at xs last c.self.invariant.0 c.self.invariant.1 c.self.invariant.3 number aligned)

pub returns-else-number-len-clause-some : goal.returns-else-number-len-clause-some
returns-else-number-len-clause-some c =
    let n = c.self.inside.stretch_len in
    let xs = c.self.inside.full.items in
    let last = stretch_bytes c.self.inside.last in
    let at = c.args.offset in
    let aligned : at % n ≡ 0 = search rules in
    let below : at < length (flat_map stretch_bytes xs ++ last) = omega (arith, c.self.invariant.2, c.if-self-offset.false) in
    omega (arith, last_whole stretch_bytes n at xs last c.self.invariant.0 c.self.invariant.1 c.self.invariant.3 (in_last c) aligned, aligned, c.self.invariant.0, below)
