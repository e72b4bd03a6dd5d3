use Rattle.std.proofs.Common.{rules, ◌≡◌, ◌<◌, ◌≤◌, ◌-◌, ◌*◌, ◌/◌, ◌%◌, [], length, take, drop, arith, ap, sym, subst, ◌∙◌}
use Rattle.std.specs.Prelude.{get_or}
use Rattle.std.proofs.lemmas.List.{drop_all}
use Rattle.b3_forest.specs.Stretches.{AreBytesFrom, ModelStretches, left_of_stretch, stretch_bytes, stretched}
use Rattle.b3_forest.proofs.ByteRuns.{before, full_length, in_full, in_last, last_length, whole_rest}
use Rattle.b3_forest.proofs.stretches.Stretches.bytes_from.Goals as goal

pub returns-then-number-full-clause-found : goal.returns-then-number-full-clause-found
returns-then-number-full-clause-found c =
    let n = c.self.inside.stretch_len in
    let xs = c.self.inside.full.items in
    let last = stretch_bytes c.self.inside.last in
    let at = c.args.at in
    let d = c.index.result.now in
    let low : at / n < length xs = search rules in
    let found = in_full stretch_bytes n at xs last d c.self.invariant.0 c.self.invariant.1 low in
    let same : c.as_slice.result.now ≡ stretch_bytes (get_or xs (at / n) d) = search rules in
    subst (λ (s : ModelStretches). AreBytesFrom s.bytes at (take (length c.as_slice.result.now - at % n) (drop (at % n) c.as_slice.result.now))) c.self.view_is
    (subst (AreBytesFrom (stretched n xs last).bytes at) (ap (drop (at % n)) (sym same) ∙ sym (whole_rest (at % n) c.as_slice.result.now)) found)

pub returns-then-skip-len-clause-found : goal.returns-then-skip-len-clause-found
returns-then-skip-len-clause-found c =
    let n = c.self.inside.stretch_len in
    let xs = c.self.inside.full.items in
    let last = stretch_bytes c.self.inside.last in
    let at = c.args.at in
    let skip = at - c.len-full.result * n in
    let count : length xs ≡ c.len-full.result = search rules in
    let found = in_last stretch_bytes n at xs last c.self.invariant.1 (before n at (length xs) (omega (arith, count, c.if-number-full.false))) in
    let same : c.as_slice-then-skip-len.result.now ≡ last = search rules in
    subst (λ (s : ModelStretches). AreBytesFrom s.bytes at (take (length c.as_slice-then-skip-len.result.now - skip) (drop skip c.as_slice-then-skip-len.result.now))) c.self.view_is
    (subst (AreBytesFrom (stretched n xs last).bytes at) (ap (λ k. drop (at - k * n) last) count ∙ ap (drop skip) (sym same) ∙ sym (whole_rest skip c.as_slice-then-skip-len.result.now)) found)

pub returns-else-skip-len-clause-found : goal.returns-else-skip-len-clause-found
returns-else-skip-len-clause-found c =
    let n = c.self.inside.stretch_len in
    let xs = c.self.inside.full.items in
    let last = stretch_bytes c.self.inside.last in
    let at = c.args.at in
    let count : length xs ≡ c.len-full.result = search rules in
    let len : length last ≡ c.len.result = search rules in
    let found = in_last stretch_bytes n at xs last c.self.invariant.1 (before n at (length xs) (omega (arith, count, c.if-number-full.false))) in
    subst (λ (s : ModelStretches). AreBytesFrom s.bytes at []) c.self.view_is
    (subst (AreBytesFrom (stretched n xs last).bytes at) (ap (λ k. drop (at - k * n) last) count ∙ drop_all (at - c.len-full.result * n) last (omega (arith, len, c.if-skip-len.false))) found)

pub returns-then-number-full-clause-len : goal.returns-then-number-full-clause-len
returns-then-number-full-clause-len c =
    let n = c.self.inside.stretch_len in
    let xs = c.self.inside.full.items in
    let last = stretch_bytes c.self.inside.last in
    let at = c.args.at in
    let d = c.index.result.now in
    let own = c.as_slice.result.now in
    let low : at / n < length xs = search rules in
    let len = full_length stretch_bytes n at xs last d c.self.invariant.0 c.self.invariant.1 low in
    let same : own ≡ stretch_bytes (get_or xs (at / n) d) = search rules in
    subst (λ (s : ModelStretches). length (take (length own - at % n) (drop (at % n) own)) ≡ left_of_stretch s at) c.self.view_is
    (ap length (whole_rest (at % n) own) ∙ ap (λ b. length (drop (at % n) b)) same ∙ len)

pub returns-then-skip-len-clause-len : goal.returns-then-skip-len-clause-len
returns-then-skip-len-clause-len c =
    let n = c.self.inside.stretch_len in
    let xs = c.self.inside.full.items in
    let last = stretch_bytes c.self.inside.last in
    let at = c.args.at in
    let skip = at - c.len-full.result * n in
    let own = c.as_slice-then-skip-len.result.now in
    let count : length xs ≡ c.len-full.result = search rules in
    let high : length xs ≤ at / n = omega (arith, count, c.if-number-full.false) in
    let len = last_length stretch_bytes n at xs last c.self.invariant.0 c.self.invariant.1 c.self.invariant.3 high in
    let same : own ≡ last = search rules in
    subst (λ (s : ModelStretches). length (take (length own - skip) (drop skip own)) ≡ left_of_stretch s at) c.self.view_is
    (ap length (whole_rest skip own) ∙ ap (λ b. length (drop skip b)) same ∙ ap (λ k. length (drop (at - k * n) last)) (sym count) ∙ len)

pub returns-else-skip-len-clause-len : goal.returns-else-skip-len-clause-len
returns-else-skip-len-clause-len c =
    let n = c.self.inside.stretch_len in
    let xs = c.self.inside.full.items in
    let last = stretch_bytes c.self.inside.last in
    let at = c.args.at in
    let count : length xs ≡ c.len-full.result = search rules in
    let following : length last ≡ c.len.result = search rules in
    let high : length xs ≤ at / n = omega (arith, count, c.if-number-full.false) in
    let len = last_length stretch_bytes n at xs last c.self.invariant.0 c.self.invariant.1 c.self.invariant.3 high in
    let none = drop_all (at - c.len-full.result * n) last (omega (arith, following, c.if-skip-len.false)) in
    subst (λ (s : ModelStretches). 0 ≡ left_of_stretch s at) c.self.view_is (ap length (sym none) ∙ ap (λ k. length (drop (at - k * n) last)) (sym count) ∙ len)
