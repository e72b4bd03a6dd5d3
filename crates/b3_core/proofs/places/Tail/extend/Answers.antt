use Rattle.std.proofs.Common.{◌≡◌, ◌+◌, ◌++◌, List, ℕ, length, min, arith, rules, ap₂, ap, take, ◌∙◌}
use Rattle.std.proofs.lemmas.Slice.{take-put_mid}
use Rattle.b3_core.specs.Kept.{tail_of}
use Rattle.b3_core.proofs.places.Tail.extend.Goals as goal

pub returns-then-bytes-room-clause-bytes : goal.returns-then-bytes-room-clause-bytes
unfolding tail_of
returns-then-bytes-room-clause-bytes c = λ fits.
    let at = c.len-len.result in
    let places : length c.args.self.now.places ≡ 1024 = search rules in
    let bytes : c.copy_from_slice.new.self ≡ c.args.bytes.now = search (rules, c.copy_from_slice.ensures) in
    let all : min (at + length c.args.bytes.now) 1024 ≡ at + length c.args.bytes.now = omega (arith, c.len-len.ensures.value, fits) in
    rw all (
    take-put_mid at _ c.args.self.now.places c.copy_from_slice.new.self (at + length c.args.bytes.now) (omega (arith, ap length bytes)) (omega (arith, c.len-len.ensures.places, places))
    ∙ ap₂ (λ (a b : List ℕ). a ++ b) (ap (λ k. take k c.args.self.now.places) c.len-len.ensures.places) bytes
    )
