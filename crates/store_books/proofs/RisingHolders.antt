-- Holders of an object, by number.
use Rattle.std.proofs.Common.{◌≡◌, ◌≢◌, ◌∙◌, ◌+◌, ◌<◌, ◌≤◌, ℕ, Bool, true, false, List, [], ◌∷◌, refl, ap, sym, subst, arith, inl, inr, length}
use Rattle.std.specs.Prelude.{nat_le, nat_lt, ◌==◌, ◌||◌, ◌&&◌, not}
use Rattle.std.specs.List.{AllByRecursion, list_any}
use Rattle.std.proofs.lemmas.Bool.{cases_eq, cases_lt, eqb-true, eqb-false, ltb-true, ltb-false, ne_eqb, eq-eqb, leb-true}
use Rattle.store_books.specs.Books.{IsRisingFrom}
use Rattle.store_books.specs.Commands.{with_holder, without_holder}
use Rattle.store_books.proofs.Lists.{either}

abbrev pub has : ℕ → List ℕ → Bool
has n holders = list_any (λ h. h == n) holders

-- ---- with one more

or_twice : (a b : Bool) → (a || b) ≡ (a || (a || b))
or_twice true b = refl
or_twice false b = refl

or_turn : (a b c : Bool) → (a || (b || c)) ≡ (b || (a || c))
or_turn true true c = refl
or_turn true false c = refl
or_turn false b c = refl

with_step : (t h n : ℕ) (hs more : List ℕ) (before same : Bool) → (t == h) ≡ same → has n more ≡ ((t == n) || has n hs)
    → has n (either before (t ∷ h ∷ hs) (either same (h ∷ hs) (h ∷ more))) ≡ ((t == n) || ((h == n) || has n hs))
with_step t h n hs more true same is rest = refl
with_step t h n hs more false true is rest = rw (eqb-true t h is) (or_twice (h == n) (has n hs))
with_step t h n hs more false false is rest = ap (λ (b : Bool). (h == n) || b) rest ∙ or_turn (h == n) (t == n) (has n hs)

pub has_with : (t n : ℕ) (hs : List ℕ) → has n (with_holder t hs) ≡ ((t == n) || has n hs)
unfolding with_holder
has_with t n [] = refl
has_with t n (h ∷ hs) = with_step t h n hs (with_holder t hs) (nat_lt t h) (t == h) refl (has_with t n hs)

below_step : (n t h : ℕ) (hs more : List ℕ) (before same : Bool) → t < n → h < n → AllByRecursion (λ x. x < n) hs → AllByRecursion (λ x. x < n) more
    → AllByRecursion (λ x. x < n) (either before (t ∷ h ∷ hs) (either same (h ∷ hs) (h ∷ more)))
below_step n t h hs more true same lt here rest m = (lt, (here, rest))
below_step n t h hs more false true lt here rest m = (here, rest)
below_step n t h hs more false false lt here rest m = (here, m)

pub below_with : (n t : ℕ) (hs : List ℕ) → t < n → AllByRecursion (λ x. x < n) hs → AllByRecursion (λ x. x < n) (with_holder t hs)
unfolding with_holder
below_with n t [] lt rest = (lt, tt)
below_with n t (h ∷ hs) lt rest = below_step n t h hs (with_holder t hs) (nat_lt t h) (t == h) lt rest.0 rest.1 (below_with n t hs lt rest.1)

-- a row that begins later
pub rising_later : (a b : ℕ) (hs : List ℕ) → a ≤ b → IsRisingFrom b hs → IsRisingFrom a hs
rising_later a b [] le h = tt
rising_later a b (x ∷ hs) le h = (omega (arith, h.0), h.1)

rising_step : (m t h : ℕ) (hs more : List ℕ) (before same : Bool) → nat_lt t h ≡ before → (t == h) ≡ same → m ≤ t → m ≤ h → IsRisingFrom (h + 1) hs → (h + 1 ≤ t → IsRisingFrom (h + 1) more)
    → IsRisingFrom m (either before (t ∷ h ∷ hs) (either same (h ∷ hs) (h ∷ more)))
rising_step m t h hs more true same lt is le here rest later = let first : t + 1 ≤ h = omega (arith, ltb-true t h lt) in (le, (first, rest))
rising_step m t h hs more false true lt is le here rest later = (here, rest)
rising_step m t h hs more false false lt is le here rest later =
    let apart : t ≢ h = eqb-false t h is in
    let above : h ≤ t = ltb-false t h lt in
    let next : h + 1 ≤ t = omega arith in
    (here, later next)

pub rising_with : (m t : ℕ) (hs : List ℕ) → m ≤ t → IsRisingFrom m hs → IsRisingFrom m (with_holder t hs)
unfolding with_holder
rising_with m t [] le h = (le, tt)
rising_with m t (x ∷ hs) le h = rising_step m t x hs (with_holder t hs) (nat_lt t x) (t == x) refl refl le h.0 h.1 (λ later. rising_with (x + 1) t hs later h.1)

-- ---- with one less

-- a row that begins above a number doesn't have it
pub not_below : (n m : ℕ) (hs : List ℕ) → n < m → IsRisingFrom m hs → has n hs ≡ false
not_below n m [] lt h = refl
not_below n m (x ∷ hs) lt h =
    let apart : x ≢ n = λ e. omega (arith, e, h.0) in
    let next : n < x + 1 = omega (arith, h.0) in
    rw (ne_eqb x n apart) (not_below n (x + 1) hs next h.1)

and_not_self : (a b : Bool) → b ≡ false → b ≡ ((a || b) && not a)
and_not_self true true e = e
and_not_self true false e = refl
and_not_self false true e = refl
and_not_self false false e = refl

or_and_not : (a b c : Bool) → (a ≡ true → c ≡ false) → (a || (b && not c)) ≡ ((a || b) && not c)
or_and_not true b true apart = apart refl
or_and_not true b false apart = refl
or_and_not false b c apart = refl

without_step : (t h n : ℕ) (hs less : List ℕ) (same : Bool) → (t == h) ≡ same → IsRisingFrom (h + 1) hs → has n less ≡ (has n hs && not (t == n))
    → has n (either same hs (h ∷ less)) ≡ (((h == n) || has n hs) && not (t == n))
without_step t h n hs less true is rising rest = rw (eqb-true t h is) (freed (h == n) refl)
  where
    freed : (b : Bool) → (h == n) ≡ b → has n hs ≡ ((b || has n hs) && not b)
    freed true e = let lt : n < h + 1 = omega (arith, eqb-true h n e) in and_not_self true (has n hs) (not_below n (h + 1) hs lt rising)
    freed false e = stays (has n hs)
      where
        stays : (b : Bool) → b ≡ (b && true)
        stays true = refl
        stays false = refl
without_step t h n hs less false is rising rest =
    ap (λ (b : Bool). (h == n) || b) rest ∙ or_and_not (h == n) (has n hs) (t == n) (λ e. ne_eqb t n (λ q. eqb-false t h is (q ∙ sym (eqb-true h n e))))

pub has_without : (t n m : ℕ) (hs : List ℕ) → IsRisingFrom m hs → has n (without_holder t hs) ≡ (has n hs && not (t == n))
unfolding without_holder
has_without t n m [] h = refl
has_without t n m (x ∷ hs) h = without_step t x n hs (without_holder t hs) (t == x) refl h.1 (has_without t n (x + 1) hs h.1)

other_step : (t h u : ℕ) (hs less : List ℕ) (same : Bool) → (t == h) ≡ same → t ≢ u → has u less ≡ has u hs → has u (either same hs (h ∷ less)) ≡ ((h == u) || has u hs)
other_step t h u hs less true is apart rest = let other : h ≢ u = λ e. apart (eqb-true t h is ∙ e) in rw (ne_eqb h u other) refl
other_step t h u hs less false is apart rest = ap (λ (b : Bool). (h == u) || b) rest

pub other_without : (t u : ℕ) (hs : List ℕ) → t ≢ u → has u (without_holder t hs) ≡ has u hs
unfolding without_holder
other_without t u [] apart = refl
other_without t u (h ∷ hs) apart = other_step t h u hs (without_holder t hs) (t == h) refl apart (other_without t u hs apart)

below_less_step : (n h : ℕ) (hs less : List ℕ) (same : Bool) → h < n → AllByRecursion (λ x. x < n) hs → AllByRecursion (λ x. x < n) less → AllByRecursion (λ x. x < n) (either same hs (h ∷ less))
below_less_step n h hs less true here rest l = rest
below_less_step n h hs less false here rest l = (here, l)

pub below_without : (n t : ℕ) (hs : List ℕ) → AllByRecursion (λ x. x < n) hs → AllByRecursion (λ x. x < n) (without_holder t hs)
unfolding without_holder
below_without n t [] rest = tt
below_without n t (h ∷ hs) rest = below_less_step n h hs (without_holder t hs) (t == h) rest.0 rest.1 (below_without n t hs rest.1)

rising_less_step : (m h : ℕ) (hs less : List ℕ) (same : Bool) → m ≤ h → IsRisingFrom (h + 1) hs → IsRisingFrom (h + 1) less → IsRisingFrom m (either same hs (h ∷ less))
rising_less_step m h hs less true here rest l = rising_later m (h + 1) hs (omega (arith, here)) rest
rising_less_step m h hs less false here rest l = (here, l)

pub rising_without : (m t : ℕ) (hs : List ℕ) → IsRisingFrom m hs → IsRisingFrom m (without_holder t hs)
unfolding without_holder
rising_without m t [] h = tt
rising_without m t (x ∷ hs) h = rising_less_step m x hs (without_holder t hs) (t == x) h.0 h.1 (rising_without (x + 1) t hs h.1)

-- ---- places

turned_step : (a b : ℕ) (x y : Bool) → (a == b) ≡ x → (b == a) ≡ y → x ≡ y
turned_step a b true true p q = refl
turned_step a b false false p q = refl
turned_step a b true false p q = absurd (eqb-false b a q (sym (eqb-true a b p)))
turned_step a b false true p q = absurd (eqb-false a b p (sym (eqb-true b a q)))

pub eqb_turned : (a b : ℕ) → (a == b) ≡ (b == a)
eqb_turned a b = turned_step a b (a == b) (b == a) refl refl

more_step : (t h : ℕ) (hs more : List ℕ) (before same : Bool) → 0 < length (either before (t ∷ h ∷ hs) (either same (h ∷ hs) (h ∷ more)))
more_step t h hs more true same = omega arith
more_step t h hs more false true = omega arith
more_step t h hs more false false = omega arith

pub some_with : (t : ℕ) (hs : List ℕ) → 0 < length (with_holder t hs)
unfolding with_holder
some_with t [] = omega arith
some_with t (h ∷ hs) = more_step t h hs (with_holder t hs) (nat_lt t h) (t == h)

alone_step : (t h : ℕ) (same : Bool) → ((same || false) ≡ true) → either same [] (h ∷ []) ≡ []
alone_step t h true held = refl
alone_step t h false held = absurd (cc)

-- one holder alone leaves none
pub alone_without : (t : ℕ) (hs : List ℕ) → nat_le (length hs) 1 ≡ true → has t hs ≡ true → without_holder t hs ≡ []
unfolding without_holder
alone_without t [] one held = refl
alone_without t (h ∷ []) one held = let turned : ((t == h) || false) ≡ true = rw (eqb_turned t h) held in alone_step t h (t == h) turned
alone_without t (h ∷ i ∷ hs) one held = absurd (let two : length (h ∷ i ∷ hs) ≤ 1 = leb-true (length (h ∷ i ∷ hs)) 1 one in omega arith)

several_step : (h i : ℕ) (hs less : List ℕ) (same : Bool) → 0 < length (either same (i ∷ hs) (h ∷ less))
several_step h i hs less true = omega arith
several_step h i hs less false = omega arith

-- several holders leave one
pub several_without : (t : ℕ) (hs : List ℕ) → nat_le (length hs) 1 ≡ false → 0 < length (without_holder t hs)
unfolding without_holder
several_without t [] many = absurd (cc)
several_without t (h ∷ []) many = absurd (cc)
several_without t (h ∷ i ∷ hs) many = several_step h i hs (without_holder t (i ∷ hs)) (t == h)

pub with_none : (t : ℕ) → with_holder t [] ≡ t ∷ []
unfolding with_holder
with_none t = refl

-- ---- rows with the same numbers

pub first_has : (x : ℕ) (xs : List ℕ) → has x (x ∷ xs) ≡ true
first_has x xs = rw (eq-eqb x x refl) refl

pub rest_has : (x q : ℕ) (xs : List ℕ) → x ≢ q → has q (x ∷ xs) ≡ has q xs
rest_has x q xs apart = rw (ne_eqb x q apart) refl

pub same_rows : (m : ℕ) (xs ys : List ℕ) → IsRisingFrom m xs → IsRisingFrom m ys → ((q : ℕ) → has q xs ≡ has q ys) → xs ≡ ys
same_rows m [] [] h k same = refl
same_rows m [] (y ∷ ys) h k same = absurd (let no : false ≡ true = same y ∙ first_has y ys in cc)
same_rows m (x ∷ xs) [] h k same = absurd (let no : false ≡ true = sym (same x) ∙ first_has x xs in cc)
same_rows m (x ∷ xs) (y ∷ ys) h k same = elim (cases_eq x y) [
  | inl one ↦ subst (λ (z : ℕ). x ∷ xs ≡ z ∷ ys) one (ap (λ zs. x ∷ zs) (same_rows (x + 1) xs ys h.1 (subst (λ (z : ℕ). IsRisingFrom (z + 1) ys) (sym one) k.1) (tails one)))
  | inr apart ↦ elim (cases_lt x y) [
    | inl less ↦ absurd (let no : true ≡ false = sym (first_has x xs) ∙ same x ∙ not_below x y (y ∷ ys) less (omega arith, k.1) in cc)
    | inr more ↦ absurd (let no : true ≡ false = sym (first_has y ys) ∙ sym (same y) ∙ not_below y x (x ∷ xs) (omega (arith, more, apart)) (omega arith, h.1) in cc)
  ]
]
  where
    tails : x ≡ y → (q : ℕ) → has q xs ≡ has q ys
    tails one q = elim (cases_eq x q) [
      | inl here ↦
          let later : q < x + 1 = omega (arith, here) in
          not_below q (x + 1) xs later h.1 ∙ sym (not_below q (y + 1) ys (omega (arith, here, one)) k.1)
      | inr apart ↦ sym (rest_has x q xs apart) ∙ same q ∙ rest_has y q ys (λ e. apart (one ∙ e))
    ]

-- ---- how many

longer_step : (t h : ℕ) (hs more : List ℕ) (before same : Bool) → (t == h) ≡ same → ((h == t) || has t hs) ≡ false → (has t hs ≡ false → length more ≡ length hs + 1) → length (either before (t ∷ h ∷ hs) (either same (h ∷ hs) (h ∷ more))) ≡ length (h ∷ hs) + 1
longer_step t h hs more true same is absent rest = omega arith
longer_step t h hs more false true is absent rest = absurd (let no = rw (eqb_turned h t, is) at absent in cc)
longer_step t h hs more false false is absent rest = let longer = rest (rw (eqb_turned h t, is) at absent) in omega (arith, longer)

pub length_with : (t : ℕ) (hs : List ℕ) → has t hs ≡ false → length (with_holder t hs) ≡ length hs + 1
unfolding with_holder
length_with t [] absent = omega arith
length_with t (h ∷ hs) absent = longer_step t h hs (with_holder t hs) (nat_lt t h) (t == h) refl absent (length_with t hs)

shorter_step : (t h : ℕ) (hs less : List ℕ) (same : Bool) → (t == h) ≡ same → ((h == t) || has t hs) ≡ true → (has t hs ≡ true → length less + 1 ≡ length hs) → length (either same hs (h ∷ less)) + 1 ≡ length (h ∷ hs)
shorter_step t h hs less true is held rest = omega arith
shorter_step t h hs less false is held rest = let shorter = rest (rw (eqb_turned h t, is) at held) in omega (arith, shorter)

pub length_without : (t : ℕ) (hs : List ℕ) → has t hs ≡ true → length (without_holder t hs) + 1 ≡ length hs
unfolding without_holder
length_without t [] held = absurd (cc)
length_without t (h ∷ hs) held = shorter_step t h hs (without_holder t hs) (t == h) refl held (length_without t hs)
