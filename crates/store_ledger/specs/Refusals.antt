-- The codes and the texts of refusals.
use Rattle.std.specs.Prelude.{ℕ, List, ◌++◌, codes}
use Rattle.std.specs.Fmt.{decimal}
use Rattle.store_ledger.specs.declared.refusal.NotWhole.{NotWhole}

-- the code for a full book
abbrev pub full_code : List ℕ
full_code = codes "L2"

-- the code for a share that is not whole
abbrev pub missing_code : List ℕ
missing_code = codes "L1"

-- the text for a book that is full
abbrev pub full_text : List ℕ
full_text = full_code ++ codes ": the book is full"

-- the text for a share that is not whole
abbrev pub missing_text : NotWhole → List ℕ
missing_text missing = missing_code ++ (codes ": the share is not whole: missing bytes " ++ (decimal missing.bytes ++ (codes ", calls " ++ decimal missing.calls)))
