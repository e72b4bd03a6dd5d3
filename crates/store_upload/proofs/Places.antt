-- Parts that lie apart, by offset, whatever they are.
use Rattle.std.proofs.Common.{◌≡◌, ◌∙◌, ◌+◌, ◌<◌, ◌≤◌, ℕ, Bool, true, false, ltb, List, [], ◌∷◌, Option, Some, None, refl, ap, sym, arith, inl, inr, length}
use Rattle.std.specs.Prelude.{◌&&◌, ◌||◌, IsSome, max, nat_le, nat_lt}
use Rattle.std.specs.BTreeMap.{insert_entry, is_at}
use Rattle.std.specs.Map.{lookup, values_of}
use Rattle.std.specs.Ordering.{nat_cmp}
use Rattle.std.proofs.lemmas.Bool.{and_from, and_left, and_parts, cases_Bool, cases_eq, cases_lt, eq-eqb, false≢true, le-leb, le-ltb, lt-ltb, ltb-true, leb-true, ne_eqb, or_from, or_parts}
use Rattle.std.proofs.lemmas.List.Sums.{sum_by-cons}
use Rattle.store_upload.specs.inner.Places.{AreApart, holds}
use Rattle.store_upload.specs.Uploads.{held_bytes, last_end, overlap_at, overlaps}

pub some_is : {X : Type 0} (x y : X) → ◌≡◌ {A = Option X} (Some x) (Some y) → x ≡ y
some_is x y e = cc

pub not_some : {X : Type 0} (x : X) → ◌≡◌ {A = Option X} None (Some x) → ⊥
not_some x e = cc

pub is_there : {X : Type 0} {o : Option X} {x : X} → o ≡ Some x → IsSome o
is_there e = rw e refl

pub at_same : (t h : ℕ) → t ≡ h → is_at (nat_cmp t) h ≡ true
at_same t h same = rw (le-ltb t h (omega (arith, same)), eq-eqb t h same) refl

pub at_other : (t h : ℕ) → (t ≡ h → ⊥) → is_at (nat_cmp t) h ≡ false
at_other t h apart = elim (cases_lt t h) [
  | inl less ↦ rw (lt-ltb t h less) refl
  | inr more ↦ rw (le-ltb t h more, ne_eqb t h apart) refl
]

abbrev pub at : {P : Type 0} → ℕ → List (ℕ × P) → Option P
at n es = lookup (is_at (nat_cmp n)) es

module _ {P : Type 0} where
  pub first_is : (n : ℕ) (e : ℕ × P) (es : List (ℕ × P)) → n ≡ e.0 → at n (e ∷ es) ≡ Some e.1
  first_is n e es h = rw (at_same n e.0 h) refl

  pub later_is : (n : ℕ) (e : ℕ × P) (es : List (ℕ × P)) → (n ≡ e.0 → ⊥) → at n (e ∷ es) ≡ at n es
  later_is n e es ne = rw (at_other n e.0 ne) refl

  pub has_value : (n : ℕ) (e : ℕ × P) (es : List (ℕ × P)) → IsSome (at n es) → IsSome (at n (e ∷ es))
  has_value n e es h = elim (cases_eq n e.0) [
    | inl here ↦ rw (first_is n e es here) refl
    | inr apart ↦ rw (later_is n e es apart) h
  ]

  pub put-front : (o : ℕ) (p : P) (e : ℕ × P) (es : List (ℕ × P)) → o < e.0 → insert_entry nat_cmp (e ∷ es) o p ≡ (o, p) ∷ e ∷ es
  put-front o p e es h = rw (lt-ltb o e.0 h) refl

  pub put-following : (o : ℕ) (p : P) (e : ℕ × P) (es : List (ℕ × P)) → e.0 < o → insert_entry nat_cmp (e ∷ es) o p ≡ e ∷ insert_entry nat_cmp es o p
  put-following o p e es h = rw (le-ltb o e.0 (omega arith), ne_eqb o e.0 (λ same. absurd (omega (arith, same, h)))) refl

module _ {P : Type 0} (len : P → ℕ) where
  pub held-cons : (e : ℕ × P) (es : List (ℕ × P)) → held_bytes len (e ∷ es) ≡ len e.1 + held_bytes len es
  held-cons e es = sum_by-cons len e.1 (values_of es)

  pub end-cons : (e : ℕ × P) (es : List (ℕ × P)) → last_end len (e ∷ es) ≡ max (e.0 + len e.1) (last_end len es)
  unfolding last_end
  end-cons e es = refl

  -- ---- where parts lie

  pub bytes_within : (from n : ℕ) (es : List (ℕ × P)) → AreApart len from n es → from + held_bytes len es ≤ n
  bytes_within from n [] h = omega arith
  bytes_within from n (e ∷ es) h = let rest = bytes_within (e.0 + len e.1) n es h.2 in omega (arith, held-cons e es, h.0, rest)

  pub begins_from : (from n k : ℕ) (p : P) (es : List (ℕ × P)) → AreApart len from n es → at k es ≡ Some p → from ≤ k
  begins_from from n k p [] h is = absurd (not_some p is)
  begins_from from n k p (e ∷ es) h is = elim (cases_eq k e.0) [
    | inl here ↦ omega (arith, here, h.0)
    | inr apart ↦ let later = begins_from (e.0 + len e.1) n k p es h.2 (sym (later_is k e es apart) ∙ is) in omega (arith, h.0, later)
  ]

  pub ends_within : (from n k : ℕ) (p : P) (es : List (ℕ × P)) → AreApart len from n es → at k es ≡ Some p → k + len p ≤ n
  ends_within from n k p [] h is = absurd (not_some p is)
  ends_within from n k p (e ∷ es) h is = elim (cases_eq k e.0) [
    | inl here ↦
        let value = ap len (some_is e.1 p (sym (first_is k e es here) ∙ is)) in
        let rest = bytes_within (e.0 + len e.1) n es h.2 in
        omega (arith, here, value, rest)
    | inr apart ↦ ends_within (e.0 + len e.1) n k p es h.2 (sym (later_is k e es apart) ∙ is)
  ]

  -- ---- whether an offset is held

  pub holds-cons : (offset : ℕ) (e : ℕ × P) (es : List (ℕ × P)) → holds len offset (e ∷ es) ≡ ((nat_le e.0 offset && nat_lt offset (e.0 + len e.1)) || holds len offset es)
  unfolding holds
  holds-cons offset e es = refl

  holds_after : (from n offset : ℕ) (es : List (ℕ × P)) → AreApart len from n es → offset < from → holds len offset es ≡ false
  unfolding holds
  holds_after from n offset [] h before = refl
  holds_after from n offset (e ∷ es) h before =
      or_from _ _ (and_left _ _ (not_le e.0 offset (omega (arith, h.0)))) (holds_after (e.0 + len e.1) n offset es h.2 (omega (arith, h.0)))
    where
      not_le : (a b : ℕ) → b < a → nat_le a b ≡ false
      not_le a b less = grind (arith, less)

  -- no part begins there or before
  pub none_holds : (offset : ℕ) (es : List (ℕ × P)) → ((q : ℕ) → q ≤ offset → at q es ≡ None) → holds len offset es ≡ false
  unfolding holds
  none_holds offset [] h = refl
  none_holds offset (e ∷ es) h =
      or_from _ _ (elim (cases_lt offset e.0) [
        | inl before ↦ and_left _ _ (not_le e.0 offset before)
        | inr upto ↦ absurd (not_some e.1 (sym (h e.0 upto) ∙ first_is e.0 e es refl))
      ])
      (none_holds offset es (λ q upto. elim (cases_eq q e.0) [
        | inl here ↦ absurd (not_some e.1 (sym (h q upto) ∙ first_is q e es here))
        | inr apart ↦ sym (later_is q e es apart) ∙ h q upto
      ]))
    where
      not_le : (a b : ℕ) → b < a → nat_le a b ≡ false
      not_le a b less = grind (arith, less)

  first_case : (a b r x : Bool) → a ≡ true → r ≡ false → b ≡ x → ((a && b) || r) ≡ x
  first_case true true r x p q e = e
  first_case true false r x p q e = q ∙ e
  first_case false b r x p q e = absurd (false≢true p)

  later_case : (a b r x : Bool) → r ≡ x → (b ≡ true → x ≡ true) → ((a && b) || r) ≡ x
  later_case true true r x e f = sym (f refl)
  later_case true false r x e f = e
  later_case false b r x e f = e

  -- the last part that begins there or before decides
  pub last_holds : (offset from n k : ℕ) (p : P) (es : List (ℕ × P)) → AreApart len from n es → at k es ≡ Some p → k ≤ offset → ((q : ℕ) → q ≤ offset → IsSome (at q es) → q ≤ k) → ltb offset (k + len p) ≡ holds len offset es
  unfolding holds
  last_holds offset from n k p [] h is upto last = absurd (not_some p is)
  last_holds offset from n k p (e ∷ es) h is upto last = elim (cases_eq k e.0) [
    | inl here ↦
        let value = ap len (some_is e.1 p (sym (first_is k e es here) ∙ is)) in
        let end : e.0 + len e.1 ≡ k + len p = omega (arith, here, value) in
        let others = none_holds offset es (λ q less. none_from q es (λ there. let at = found_from (e.0 + len e.1) n q es h.2 there in let most = last q less (has_value q e es there) in omega (arith, at, most, here, h.1))) in
        sym (first_case (nat_le e.0 offset) (ltb offset (e.0 + len e.1)) (holds len offset es) (ltb offset (k + len p)) (le-leb e.0 offset (omega (arith, here, upto))) others (ap (ltb offset) end))
    | inr apart ↦
        let later = sym (later_is k e es apart) ∙ is in
        let following = begins_from (e.0 + len e.1) n k p es h.2 later in
        let others = last_holds offset (e.0 + len e.1) n k p es h.2 later upto (λ q less there. last q less (has_value q e es there)) in
        sym (later_case (nat_le e.0 offset) (ltb offset (e.0 + len e.1)) (holds len offset es) (ltb offset (k + len p)) (sym others) (λ t. let b = ltb-true offset (e.0 + len e.1) t in lt-ltb offset (k + len p) (omega (arith, b, following))))
  ]
    where
      none_from : (n : ℕ) (es : List (ℕ × P)) → (IsSome (at n es) → ⊥) → at n es ≡ None
      none_from n es f = by (at n es) f
        where
          by : (o : Option P) → (IsSome o → ⊥) → o ≡ None
          by None f = refl
          by (Some l) f = absurd (f refl)

      found_from : (from m n : ℕ) (es : List (ℕ × P)) → AreApart len from m es → IsSome (at n es) → from ≤ n
      found_from from m n es h there = by (at n es) refl there
        where
          by : (o : Option P) → at n es ≡ o → IsSome o → from ≤ n
          by None is there = absurd (false≢true there)
          by (Some l) is there = begins_from from m n l es h is

  -- ---- the least offset that is held

  pub over-step : (offset n : ℕ) (e : ℕ × P) (es : List (ℕ × P)) → overlaps len offset n e ≡ true → overlap_at len offset n (e ∷ es) ≡ Some (max offset e.0)
  unfolding overlap_at
  over-step offset n e es h = rw (h, overlap_at) refl

  pub clear-step : (offset n : ℕ) (e : ℕ × P) (es : List (ℕ × P)) → overlaps len offset n e ≡ false → overlap_at len offset n (e ∷ es) ≡ overlap_at len offset n es
  unfolding overlap_at
  clear-step offset n e es h = rw (h, overlap_at) refl

  clear_from : (offset n : ℕ) (e : ℕ × P) → (e.0 < offset + n → offset < e.0 + len e.1 → ⊥) → overlaps len offset n e ≡ false
  clear_from offset n e f = elim (cases_lt e.0 (offset + n)) [
    | inl a ↦ elim (cases_lt offset (e.0 + len e.1)) [
      | inl b ↦ absurd (f a b)
      | inr b ↦ rw (lt-ltb e.0 (offset + n) a, le-ltb offset (e.0 + len e.1) b) refl
    ]
    | inr a ↦ and_left _ _ (le-ltb e.0 (offset + n) a)
  ]

  pub over_from : (offset n : ℕ) (e : ℕ × P) → e.0 < offset + n → offset < e.0 + len e.1 → overlaps len offset n e ≡ true
  over_from offset n e a b = and_from _ _ (lt-ltb e.0 (offset + n) a) (lt-ltb offset (e.0 + len e.1) b)

  some_eq : (a b : ℕ) → a ≡ b → ◌≡◌ {A = Option ℕ} (Some a) (Some b)
  some_eq a b e = ap (λ (n : ℕ). Some n) e

  -- the offset itself, where it is held
  pub overlap_held : (offset from m n : ℕ) (es : List (ℕ × P)) → AreApart len from m es → 0 < n → holds len offset es ≡ true → overlap_at len offset n es ≡ Some offset
  unfolding holds
  overlap_held offset from m n [] h some is = absurd (false≢true is)
  overlap_held offset from m n (e ∷ es) h some is = elim (cases_Bool (nat_le e.0 offset && nat_lt offset (e.0 + len e.1))) [
    | inl here ↦
        let low = leb-true e.0 offset (and_parts _ _ here).0 in
        let high = ltb-true offset (e.0 + len e.1) (and_parts _ _ here).1 in
        over-step offset n e es (over_from offset n e (omega (arith, low, some)) high) ∙ some_eq (max offset e.0) offset (omega (arith, low))
    | inr apart ↦
        let later : holds len offset es ≡ true = rw apart at (sym (holds-cons offset e es) ∙ is) in
        let clear = clear_from offset n e (λ a b. false≢true (sym (holds_after (e.0 + len e.1) m offset es h.2 b) ∙ later)) in
        clear-step offset n e es clear ∙ overlap_held offset (e.0 + len e.1) m n es h.2 some later
  ]

  not_here : (offset : ℕ) (e : ℕ × P) (es : List (ℕ × P)) → holds len offset (e ∷ es) ≡ false → e.0 ≤ offset → offset < e.0 + len e.1 → ⊥
  not_here offset e es none low high =
      false≢true (sym (or_parts _ _ (sym (holds-cons offset e es) ∙ none)).0 ∙ and_from _ _ (le-leb e.0 offset low) (lt-ltb offset (e.0 + len e.1) high))

  -- else the first part after it
  pub overlap_next : (offset from m n k : ℕ) (p : P) (es : List (ℕ × P)) → AreApart len from m es → holds len offset es ≡ false → at k es ≡ Some p → offset ≤ k → k < offset + n
      → ((q : ℕ) → offset ≤ q → q < offset + n → IsSome (at q es) → k ≤ q) → overlap_at len offset n es ≡ Some k
  overlap_next offset from m n k p [] h none is low high least = absurd (not_some p is)
  overlap_next offset from m n k p (e ∷ es) h none is low high least = elim (cases_eq k e.0) [
    | inl here ↦ over-step offset n e es (over_from offset n e (omega (arith, here, high)) (omega (arith, here, low, h.1))) ∙ some_eq (max offset e.0) k (omega (arith, here, low))
    | inr apart ↦
        let later = sym (later_is k e es apart) ∙ is in
        let following = begins_from (e.0 + len e.1) m k p es h.2 later in
        let clear = clear_from offset n e (λ a b. elim (cases_lt offset e.0) [
          | inl before ↦ let first = least e.0 (omega arith) a (is_there (first_is e.0 e es refl)) in omega (arith, first, following, h.1)
          | inr upto ↦ not_here offset e es none upto b
        ]) in
        clear-step offset n e es clear ∙ overlap_next offset (e.0 + len e.1) m n k p es h.2 (or_parts _ _ (sym (holds-cons offset e es) ∙ none)).1 later low high (λ q a b there. least q a b (has_value q e es there))
  ]

  -- and none where no part begins among them
  pub overlap_none : (offset from m n : ℕ) (es : List (ℕ × P)) → AreApart len from m es → holds len offset es ≡ false → ((q : ℕ) → offset ≤ q → q < offset + n → at q es ≡ None) → overlap_at len offset n es ≡ None
  unfolding overlap_at
  overlap_none offset from m n [] h none clear = refl
  overlap_none offset from m n (e ∷ es) h none clear =
      let here = clear_from offset n e (λ a b. elim (cases_lt offset e.0) [
        | inl before ↦ not_some e.1 (sym (clear e.0 (omega arith) a) ∙ first_is e.0 e es refl)
        | inr upto ↦ not_here offset e es none upto b
      ]) in
      clear-step offset n e es here ∙ overlap_none offset (e.0 + len e.1) m n es h.2 (or_parts _ _ (sym (holds-cons offset e es) ∙ none)).1 (λ q a b. elim (cases_eq q e.0) [
        | inl same ↦ absurd (not_some e.1 (sym (clear q a b) ∙ first_is q e es same))
        | inr apart ↦ sym (later_is q e es apart) ∙ clear q a b
      ])

  pub clear_parts : (offset n : ℕ) (e : ℕ × P) (es : List (ℕ × P)) → overlap_at len offset n (e ∷ es) ≡ None → (overlaps len offset n e ≡ false) × (overlap_at len offset n es ≡ None)
  clear_parts offset n e es h = elim (cases_Bool (overlaps len offset n e)) [
    | inl over ↦ absurd (not_some (max offset e.0) (sym h ∙ over-step offset n e es over))
    | inr clear ↦ (clear, sym (clear-step offset n e es clear) ∙ h)
  ]

  -- where none of the offsets is held, no part begins at the first
  pub none_at : (offset from m n : ℕ) (es : List (ℕ × P)) → AreApart len from m es → 0 < n → overlap_at len offset n es ≡ None → at offset es ≡ None
  none_at offset from m n [] h some clear = refl
  none_at offset from m n (e ∷ es) h some clear = elim (cases_eq offset e.0) [
    | inl here ↦ absurd (not_some (max offset e.0) (sym clear ∙ over-step offset n e es (over_from offset n e (omega (arith, here, some)) (omega (arith, here, h.1)))))
    | inr apart ↦
        let later = clear_parts offset n e es clear in
        later_is offset e es apart ∙ none_at offset (e.0 + len e.1) m n es h.2 some later.1
  ]

  -- ---- the greatest end

  pub ends_most : (from n : ℕ) (es : List (ℕ × P)) → AreApart len from n es → last_end len es ≤ n
  unfolding last_end
  ends_most from n [] h = omega arith
  ends_most from n (e ∷ es) h =
      let rest = ends_most (e.0 + len e.1) n es h.2 in
      let within = bytes_within (e.0 + len e.1) n es h.2 in
      let cons = end-cons e es in
      omega (arith, rest, within, cons)

  -- they lie apart within each length that they reach
  pub apart_to : (from n new : ℕ) (es : List (ℕ × P)) → AreApart len from n es → from ≤ new → last_end len es ≤ new → AreApart len from new es
  apart_to from n new [] h first last = first
  apart_to from n new (e ∷ es) h first last =
      let cons = end-cons e es in
      (h.0, h.1, apart_to (e.0 + len e.1) n new es h.2 (omega (arith, cons, last)) (omega (arith, cons, last)))

  -- the part that begins last ends last
  pub last_is : (from n k : ℕ) (p : P) (es : List (ℕ × P)) → AreApart len from n es → at k es ≡ Some p → ((q : ℕ) → IsSome (at q es) → q ≤ k) → last_end len es ≡ k + len p
  unfolding last_end
  last_is from n k p [] h is most = absurd (not_some p is)
  last_is from n k p (e ∷ es) h is most = elim (cases_eq k e.0) [
    | inl here ↦ alone es h (λ q there. most q (has_value q e es there)) here (ap len (some_is e.1 p (sym (first_is k e es here) ∙ is)))
    | inr apart ↦
        let later = sym (later_is k e es apart) ∙ is in
        let others = last_is (e.0 + len e.1) n k p es h.2 later (λ q there. most q (has_value q e es there)) in
        let following = begins_from (e.0 + len e.1) n k p es h.2 later in
        omega (arith, others, following)
  ]
    where
      alone : (fs : List (ℕ × P)) → AreApart len from n (e ∷ fs) → ((q : ℕ) → IsSome (at q fs) → q ≤ k) → k ≡ e.0 → len e.1 ≡ len p → last_end len (e ∷ fs) ≡ k + len p
      alone [] h most here value = omega (arith, here, value)
      alone (f ∷ fs) h most here value = let first = most f.0 (rw (first_is f.0 f fs refl) refl) in absurd (omega (arith, first, here, h.1, h.2.0))

  -- ---- a part more

  pub ends_before : (offset n : ℕ) (e : ℕ × P) → offset < e.0 → 0 < len e.1 → overlaps len offset n e ≡ false → offset + n ≤ e.0
  ends_before offset n e before some clear = elim (cases_lt e.0 (offset + n)) [
    | inl over ↦ absurd (false≢true (sym clear ∙ over_from offset n e over (omega (arith, before, some))))
    | inr apart ↦ apart
  ]

  pub begins_after : (offset n : ℕ) (e : ℕ × P) → e.0 ≤ offset → 0 < n → overlaps len offset n e ≡ false → e.0 + len e.1 ≤ offset
  begins_after offset n e following some clear = elim (cases_lt offset (e.0 + len e.1)) [
    | inl over ↦ absurd (false≢true (sym clear ∙ over_from offset n e (omega (arith, following, some)) over))
    | inr apart ↦ apart
  ]

  -- what a part more makes of the bytes, of the greatest end, and of the places
  pub record IsWith (from n offset : ℕ) (p : P) (old new : List (ℕ × P)) : Type 0 where
    pub bytes : held_bytes len new ≡ held_bytes len old + len p
    pub ends : last_end len new ≡ max (offset + len p) (last_end len old)
    pub apart : AreApart len from n new
    pub count : length new ≡ length old + 1

  pub is_with : (from n offset : ℕ) (p : P) (es : List (ℕ × P)) → AreApart len from n es → from ≤ offset → 0 < len p → offset + len p ≤ n → overlap_at len offset (len p) es ≡ None → IsWith from n offset p es (insert_entry nat_cmp es offset p)
  unfolding last_end
  is_with from n offset p [] h first some within clear = record { bytes = omega (arith, held-cons (offset, p) []); ends = refl; apart = (first, some, within); count = refl }
  is_with from n offset p (e ∷ es) h first some within clear =
      let parts = clear_parts offset (len p) e es clear in
      elim (cases_lt offset e.0) [
        | inl front ↦
            let bytes = held-cons (offset, p) (e ∷ es) in
            rw (put-front offset p e es front) (record { bytes = omega (arith, bytes); ends = refl; apart = (first, some, (ends_before offset (len p) e front h.1 parts.0, h.1, h.2)); count = omega arith })
        | inr following ↦
            let after = begins_after offset (len p) e following some parts.0 in
            let rest = is_with (e.0 + len e.1) n offset p es h.2 after some within parts.1 in
            let a = held-cons e es in
            let b = held-cons e (insert_entry nat_cmp es offset p) in
            let c = end-cons e es in
            let d = end-cons e (insert_entry nat_cmp es offset p) in
            rw (put-following offset p e es (omega (arith, after, h.1))) (record { bytes = omega (arith, a, b, rest.bytes); ends = omega (arith, c, d, rest.ends); apart = (h.0, h.1, rest.apart); count = omega (arith, rest.count) })
      ]
