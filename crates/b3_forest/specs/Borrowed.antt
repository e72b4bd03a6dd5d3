-- Borrowed bytes.
use Rattle.std.specs.Prelude.{ℕ, List}
use Rattle.b3_forest.specs.declared.borrowed.BorrowedBytes.{BorrowedBytes}
use Rattle.b3_forest.specs.declared.borrowed.BorrowedBytes.TheVariants as borrowed

-- the borrowed bytes as one list
abbrev pub borrowed_bytes : BorrowedBytes → List ℕ
borrowed_bytes (borrowed.Slice bytes) = bytes.now
borrowed_bytes (borrowed.Stretches stretches) = stretches.now.bytes
