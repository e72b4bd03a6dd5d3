-- Pattern bytes, one after another.
use Rattle.std.proofs.Common.{◌≡◌, ◌∙◌, ◌+◌, ◌%◌, ◌<◌, ℕ, zero, suc, [], ◌∷◌, ◌++◌, refl, ap, sym, arith, length, get_or}
use Rattle.store_lines.specs.Grammar.{pattern_of}

more : (offset len : ℕ) → pattern_of offset (suc len) ≡ pattern_of offset len ++ ((offset + len) % 251) ∷ []
unfolding pattern_of
more offset zero = let same : offset ≡ offset + 0 = omega arith in ap (λ n. (n % 251) ∷ []) same
more offset (suc len) =
    let same : offset + 1 + len ≡ offset + suc len = omega arith in
    ap (λ xs. (offset % 251) ∷ xs) (more (offset + 1) len ∙ ap (λ n. pattern_of (offset + 1) len ++ (n % 251) ∷ []) same)

pub reduced : (offset i : ℕ) → (offset % 251 + i) % 251 ≡ (offset + i) % 251
reduced offset i = omega arith

-- one byte more
pub pattern_more : (offset len : ℕ) → pattern_of offset (len + 1) ≡ pattern_of offset len ++ ((offset % 251 + len) % 251) ∷ []
pattern_more offset len =
    let next : len + 1 ≡ suc len = omega arith in
    ap (pattern_of offset) next ∙ more offset len ∙ ap (λ b. pattern_of offset len ++ b ∷ []) (sym (reduced offset len))

-- as many as are asked for, each its place mod 251
length_is : (offset len : ℕ) → length (pattern_of offset len) ≡ len
unfolding pattern_of
length_is offset zero = refl
length_is offset (suc len) = ap suc (length_is (offset + 1) len)

byte_is : (offset len i : ℕ) → i < len → get_or (pattern_of offset len) i 0 ≡ (offset + i) % 251
unfolding pattern_of
byte_is offset zero i h = absurd (omega (arith, h))
byte_is offset (suc len) zero h = let same : offset ≡ offset + 0 = omega arith in ap (λ n. n % 251) same
byte_is offset (suc len) (suc i) h = let same : offset + 1 + i ≡ offset + suc i = omega arith in byte_is (offset + 1) len i (omega (arith, h)) ∙ ap (λ n. n % 251) same

pub pattern_is : (offset len : ℕ) → (length (pattern_of offset len) ≡ len) × ((i : ℕ) → i < len → get_or (pattern_of offset len) i 0 ≡ (offset + i) % 251)
pattern_is offset len = (length_is offset len, byte_is offset len)
