-- The gaps of an upload.
use Rattle.std.specs.Prelude.{ℕ, ◌-◌, nat_lt, true, false, List, [], ◌∷◌, ◌++◌, length}
use Rattle.store_upload.specs.Uploads.{ModelUpload, end_of, length_of}
use Rattle.b3_forest.specs.Parts.{HeldPart}
use Rattle.b3_forest.specs.declared.gap.Gap.{Gap}

-- the gap from offset a to below offset b, if there is one
abbrev pub gap_between : ℕ → ℕ → List Gap
gap_between a b = elim (nat_lt a b) [ true ↦ record { offset = a; len = b - a } ∷ [] | false ↦ [] ]

-- the gaps that parts, in order of offset, leave from offset a to below offset n
unfoldable pub gaps_from : ℕ → ℕ → List HeldPart → List Gap
gaps_from n a [] = gap_between a n
gaps_from n a (p ∷ ps) = gap_between a p.0 ++ gaps_from n (end_of length p) ps

-- the gaps of an upload
abbrev pub gaps_of : ModelUpload (List ℕ) → List Gap
gaps_of u = gaps_from (length_of u) 0 u.parts
