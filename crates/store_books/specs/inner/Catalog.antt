-- Filed objects as the code keeps them: by the numbers of their filings, which are found by their addresses, and who holds which.
use Rattle.std.specs.Prelude.{◌≡◌, ◌<◌, ◌==◌, ℕ, Bool, true, List, Option, Some, IsSome, filter, length, map, nat_le}
use Rattle.std.specs.BTreeMap.{is_at}
use Rattle.std.specs.List.{list_any}
use Rattle.std.specs.List.Sorted.{IsStrictlySortedBy}
use Rattle.std.specs.Map.{keys_of, lookup}
use Rattle.std.specs.Ordering.{nat_cmp, ordering_then}
use Rattle.std.specs.declared.cmp.Ordering.{Ordering}
use Rattle.store_books.specs.declared.catalog.FiledObject.{FiledObject}
use Rattle.store_books.specs.declared.known.Known.{Known}
use Rattle.store_books.specs.Books.{Filed, is_held_by, object_among}

-- what is kept under a number
abbrev pub at_number : {X : Type 0} → ℕ → List (ℕ × X) → Option X
at_number number es = lookup (is_at (nat_cmp number)) es

-- objects by number, below the number of filings, with an index from their addresses
pub record AreNumbered {Y : Type 0} (filings : ℕ) (objects : List (ℕ × (List ℕ × Y))) (number_of : List ℕ → Option ℕ) : Type 0 where
  pub ordered : IsStrictlySortedBy nat_cmp (keys_of objects)
  pub before : (number : ℕ) (object : List ℕ × Y) → at_number number objects ≡ Some object → number < filings
  pub there : (address : List ℕ) (number : ℕ) → number_of address ≡ Some number → (object : Y) × (at_number number objects ≡ Some (address, object))
  pub found : (number : ℕ) (object : List ℕ × Y) → at_number number objects ≡ Some object → number_of object.0 ≡ Some number

-- tenants with filings: by tenant, and then by filing
abbrev pub pair_cmp : ℕ × ℕ → ℕ × ℕ → Ordering
pair_cmp x y = ordering_then (nat_cmp x.0 y.0) (nat_cmp x.1 y.1)

-- whether the tenant is paired with the filing
abbrev pub is_paired : List (ℕ × ℕ) → ℕ → ℕ → Bool
is_paired pairs tenant number = list_any (is_at (pair_cmp (tenant, number))) pairs

-- the tenants that are paired with the filing
abbrev pub holders_in : List (ℕ × ℕ) → ℕ → List ℕ
holders_in pairs number = map (λ p. p.0) (filter (λ p. p.1 == number) pairs)

module _ {O : Type 0} (address : O → List ℕ) (pairs : List (ℕ × ℕ)) where
  -- an object under a number, with its address and its holders
  abbrev pub with_address : ℕ → FiledObject O → List ℕ × Filed O
  with_address number f = (address f.content, record { content = f.content; holders = holders_in pairs number; number = number })

  -- the objects by number, each with its address and its holders
  abbrev pub with_addresses : List (ℕ × FiledObject O) → List (ℕ × (List ℕ × Filed O))
  with_addresses filed = map (λ e. (e.0, with_address e.0 e.1)) filed

-- the object is kept under its own address
abbrev pub IsAddressed : {O : Type 0} → (O → List ℕ) → List ℕ × Filed O → Type 0
IsAddressed address e = e.0 ≡ address e.1.content

-- pairs of tenants and filings: each filing is there, and has as many holders as it counts
pub record ArePaired {O : Type 0} (filed : List (ℕ × FiledObject O)) (pairs : List (ℕ × ℕ)) : Type 0 where
  pub ordered : IsStrictlySortedBy pair_cmp pairs
  pub filed_is : (tenant number : ℕ) → is_paired pairs tenant number ≡ true → IsSome (at_number number filed)
  pub counted : (number : ℕ) (f : FiledObject O) → at_number number filed ≡ Some f → f.holders ≡ length (holders_in pairs number)

-- an object that is already filed: its length, whether the tenant holds it, and whether it has only one holder
pub record IsKnown {O : Type 0} (len : O → ℕ) (address : O → List ℕ) (objects : List (Filed O)) (at : List ℕ) (tenant : ℕ) (k : Known) : Type 0 where
  pub object : Filed O
  pub found : object_among address objects at ≡ Some object
  pub size : k.size ≡ len object.content
  pub is_holder : k.is_holder ≡ is_held_by tenant object
  pub is_alone : k.is_alone ≡ nat_le (length object.holders) 1
