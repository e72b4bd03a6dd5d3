-- The text of totals.
use Rattle.std.specs.Prelude.{ℕ, List, ◌++◌, codes}
use Rattle.std.specs.Fmt.{decimal}
use Rattle.store_books.specs.declared.totals.Totals.{Totals}

-- a store's totals in one line, without its newline
abbrev pub totals_text : Totals → List ℕ
totals_text t = codes "objects " ++ (decimal t.objects ++ (codes " bytes " ++ (decimal t.object_bytes ++ (codes " uploads " ++ (decimal t.uploads ++
    (codes " held " ++ (decimal t.held_bytes ++ (codes " parts " ++ decimal t.parts))))))))
