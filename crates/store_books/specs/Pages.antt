-- Pages of the objects that a tenant holds, by their numbers.
use Rattle.std.specs.Prelude.{◌≡◌, ◌≤◌, ◌+◌, ◌&&◌, ◌++◌, ℕ, List, [], ◌∷◌, filter, length, map, nat_le, take}
use Rattle.store_books.specs.Books.{Filed, IsRisingFrom, is_held_by}

-- addresses and lengths of objects, and the number from which the next page lists objects
pub record ModelObjectPage : Type 0 where
  pub objects : List (List ℕ × ℕ)
  pub next : ℕ

-- one more than the last of the numbers, or `from` if there are none
abbrev pub next_from : ℕ → List ℕ → ℕ
next_from from [] = from
next_from from (number ∷ numbers) = next_from (number + 1) numbers

module _ {O : Type 0} where
  -- those of the objects that the tenant holds whose numbers are at least `from`, and at most `count` of them
  abbrev pub held_from : ℕ → ℕ → ℕ → List (Filed O) → List (Filed O)
  held_from tenant from count objects = take count (filter (λ o. is_held_by tenant o && nat_le from o.number) objects)

module _ {O : Type 0} (size : O → ℕ) (address : O → List ℕ) where
  -- what is reported about them
  abbrev pub page_of : ℕ → ℕ → ℕ → List (Filed O) → ModelObjectPage
  page_of tenant from count objects = record {
    objects = map (λ o. (address o.content, size o.content)) (held_from tenant from count objects);
    next = next_from from (map (λ o. o.number) (held_from tenant from count objects));
  }

-- ---- laws

module _ {O : Type 0} where
  -- if nothing changes between them, a page and the next one are a page of both counts; a page that is long enough has all that the tenant holds
  pub record PagesFollow (objects : List (Filed O)) : Type 0 where
    pub joined : (tenant from first second : ℕ) → held_from tenant from (first + second) objects
        ≡ held_from tenant from first objects ++ held_from tenant (next_from from (map (λ o. o.number) (held_from tenant from first objects))) second objects
    pub all : (tenant count : ℕ) → length (filter (is_held_by tenant) objects) ≤ count → held_from tenant 0 count objects ≡ filter (is_held_by tenant) objects

-- as long as the numbers of objects rise
abbrev pub AllPagesFollow : Type 0 → Type 0
AllPagesFollow O = (objects : List (Filed O)) → IsRisingFrom 0 (map (λ o. o.number) objects) → PagesFollow objects
