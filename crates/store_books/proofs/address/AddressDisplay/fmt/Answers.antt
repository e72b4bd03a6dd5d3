use Rattle.std.proofs.Common.{rules, ◌≡◌, ◌<◌, ℕ, suc, zero, true, List, [], ◌∷◌, nat_lt, arith, Ok, Err, Result, refl}
use Rattle.std.specs.Prelude.{IsOk, MatchResult, slice_index}
use Rattle.std.specs.List.{AllByRecursion}
use Rattle.std.specs.Str.{IsAscii, IsUtf8}
use Rattle.std.proofs.lemmas.Bool.{ltb-true}
use Rattle.std.proofs.lemmas.Str.{IsUtf8-from_ascii}
use Rattle.hex.specs.Hex.{encode_lower, lower_digits}
use Rattle.hex.proofs.HexLemmas.{IsAscii-encode_with}
use Rattle.store_books.proofs.address.AddressDisplay.fmt.Goals as goal

small_at : (xs : List ℕ) → AllByRecursion (λ b. nat_lt b 128 ≡ true) xs → (k : ℕ) → slice_index xs k < 128
small_at [] h k = omega arith
small_at (x ∷ xs) h zero = ltb-true x 128 h.0
small_at (x ∷ xs) h (suc k) = small_at xs h.1 k

digits_small : IsAscii lower_digits
digits_small = small_at lower_digits (refl, (refl, (refl, (refl, (refl, (refl, (refl, (refl, (refl, (refl, (refl, (refl, (refl, (refl, (refl, (refl, tt))))))))))))))))

text : (bytes : List ℕ) → IsUtf8 (encode_lower bytes)
text bytes = IsUtf8-from_ascii (encode_lower bytes) (IsAscii-encode_with lower_digits bytes digits_small)

is_ok : {X Y : Type 0} (r : Result X Y) (P : X → Type 0) (Q : Y → Type 0) → MatchResult r P Q → ((y : Y) → Q y → ⊥) → IsOk r
is_ok (Ok x) P Q h bad = refl
is_ok (Err y) P Q h bad = absurd (bad y h)

pub unwrap-requires-2 : goal.unwrap-requires-2
unwrap-requires-2 g c =
    let written : c.encode_to_slice.new.output ≡ encode_lower c.args.self.now = search rules in
    is_ok c.from_utf8.result _ _ c.from_utf8.ensures.cases (λ y bad. bad.0 (rw written (text c.args.self.now)))
