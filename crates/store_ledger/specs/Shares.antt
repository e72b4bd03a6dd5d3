-- What was accepted according to a book and its shares.
use Rattle.std.specs.Prelude.{◌≡◌, ℕ, ◌+◌, ◌^◌, ◌<◌}
use Rattle.store_ledger.specs.declared.book.Accepted.{Accepted}
use Rattle.store_ledger.specs.declared.amounts.ShareAmounts.{ShareAmounts}
use Rattle.store_ledger.specs.declared.refusal.NotWhole.{NotWhole}

-- a book's numbers after one more call with this number of bytes
abbrev pub accepted_after : Accepted → ℕ → Accepted
accepted_after a bytes = record { bytes = a.bytes + bytes; calls = a.calls + 1 }

-- a share after one more call with this number of bytes
abbrev pub share_after : ShareAmounts → ℕ → ShareAmounts
share_after h bytes = record { parts = h.parts; bytes = h.bytes + bytes; calls = h.calls + 1 }

-- the sum of two shares
abbrev pub sum_of : ShareAmounts → ShareAmounts → ShareAmounts
sum_of g h = record { parts = g.parts + h.parts; bytes = g.bytes + h.bytes; calls = g.calls + h.calls }

-- after one more call with this number of bytes, both numbers of the book are below 2^64
abbrev pub BookHasRoom : Accepted → ℕ → Type 0
BookHasRoom a bytes = (a.bytes + bytes < 2 ^ 64) × (a.calls + 1 < 2 ^ 64)

-- the number of parts of a book
abbrev pub all_parts : ℕ
all_parts = 2 ^ 32

-- the share has every part of its book, so there is no other share of it
abbrev pub IsWhole : ShareAmounts → Type 0
IsWhole h = h.parts ≡ all_parts

-- the share's two numbers are the book's
abbrev pub Agrees : Accepted → ShareAmounts → Type 0
Agrees a h = (h.bytes ≡ a.bytes) × (h.calls ≡ a.calls)

-- what the book has beyond the share; it is not zero
abbrev pub IsMissing : Accepted → ShareAmounts → NotWhole → Type 0
IsMissing a h missing = (h.bytes + missing.bytes ≡ a.bytes) × (h.calls + missing.calls ≡ a.calls) × (0 < missing.bytes + missing.calls)
