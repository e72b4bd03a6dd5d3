-- The fields of a line, separated by one space, and numbers among them.
use Rattle.std.specs.Prelude.{◌^◌, ◌==◌, ◌&&◌, ℕ, List, [], ◌∷◌, ◌++◌, Option, Some, None, if◌then◌else◌, nat_lt, option_map}
use Rattle.std.specs.Fmt.{decimal}
use Rattle.std.specs.Str.{bytes_eq}
use Rattle.std.specs.Str.Parse.{digits_value}

abbrev pub space : ℕ
space = 32

-- ---- writing

-- fields separated by one space
abbrev pub two_fields : List ℕ → List ℕ → List ℕ
two_fields first second = first ++ (space ∷ second)

abbrev pub three_fields : List ℕ → List ℕ → List ℕ → List ℕ
three_fields first second third = first ++ (space ∷ (second ++ (space ∷ third)))

-- ---- reading

-- the bytes before the first of these, and those after it
abbrev pub split_at : ℕ → List ℕ → Option (List ℕ × List ℕ)
split_at mark [] = None
split_at mark (b ∷ bytes) = if b == mark then Some ([], bytes) else option_map (λ x. (b ∷ x.0, x.1)) (split_at mark bytes)

-- the number with these digits: in decimal, without leading zeros, below 2^64
abbrev pub number_at : List ℕ → Option ℕ
number_at digits = if bytes_eq (decimal (digits_value 10 digits)) digits && nat_lt (digits_value 10 digits) (2 ^ 64) then Some (digits_value 10 digits) else None

-- the second step, if the first returned a value
infixl 10 ◌>>=◌
abbrev pub ◌>>=◌ : {A B : Type 0} → Option A → (A → Option B) → Option B
None >>= f = None
(Some x) >>= f = f x

abbrev pub two_numbers_at : List ℕ → Option (ℕ × ℕ)
two_numbers_at fields = do
  cut ← split_at space fields
  first ← number_at cut.0
  second ← number_at cut.1
  Some (first, second)

abbrev pub three_numbers_at : List ℕ → Option (ℕ × ℕ × ℕ)
three_numbers_at fields = do
  cut ← split_at space fields
  first ← number_at cut.0
  others ← two_numbers_at cut.1
  Some (first, others.0, others.1)

-- what is made of one number, of two or of three
abbrev pub of_one : {A : Type 0} → (ℕ → A) → List ℕ → Option A
of_one make fields = do
  number ← number_at fields
  Some (make number)

abbrev pub of_two : {A : Type 0} → (ℕ → ℕ → A) → List ℕ → Option A
of_two make fields = do
  numbers ← two_numbers_at fields
  Some (make numbers.0 numbers.1)

abbrev pub of_three : {A : Type 0} → (ℕ → ℕ → ℕ → A) → List ℕ → Option A
of_three make fields = do
  numbers ← three_numbers_at fields
  Some (make numbers.0 numbers.1 numbers.2)
