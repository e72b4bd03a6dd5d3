-- Laws of uploads: what is reported missing, and what is reported held.
use Rattle.std.specs.Prelude.{◌+◌, ◌<◌, ◌≤◌, ◌⊎◌, ℕ, List, [], ◌∷◌, IfNone, IfSome}
use Rattle.store_upload.specs.Uploads.{IsUpload, ModelUpload, end_of, first_missing, length_of, overlap_at}

module _ {P : Type 0} (len : P → ℕ) where
  -- offset i is in one of the parts
  abbrev pub IsHeldAt : List (ℕ × P) → ℕ → Type 0
  IsHeldAt [] i = ⊥
  IsHeldAt (p ∷ ps) i = ((p.0 ≤ i) × (i < end_of len p)) ⊎ IsHeldAt ps i

  -- the lowest offset of an upload that is not held
  pub record IsFirstMissing (u : ModelUpload P) (m : ℕ) : Type 0 where
    pub below : m < length_of u
    pub missing : IsHeldAt u.parts m → ⊥
    pub least : (i : ℕ) → i < m → IsHeldAt u.parts i

  pub record ReportsMissing (u : ModelUpload P) : Type 0 where
    pub some : IfSome (first_missing len u) (IsFirstMissing u)
    pub none : IfNone (first_missing len u) ((i : ℕ) → i < length_of u → IsHeldAt u.parts i)

  -- what is reported missing is the lowest offset that is not held; if nothing is, all offsets are held
  abbrev pub LeastMissing : Type 0
  LeastMissing = (u : ModelUpload P) → IsUpload len u → ReportsMissing u

  -- the lowest of n offsets that parts hold
  pub record IsFirstOverlap (offset n : ℕ) (ps : List (ℕ × P)) (at : ℕ) : Type 0 where
    pub after : offset ≤ at
    pub before : at < offset + n
    pub held : IsHeldAt ps at
    pub least : (i : ℕ) → offset ≤ i → i < at → IsHeldAt ps i → ⊥

  pub record ReportsOverlap (offset n : ℕ) (ps : List (ℕ × P)) : Type 0 where
    pub some : IfSome (overlap_at len offset n ps) (IsFirstOverlap offset n ps)
    pub none : IfNone (overlap_at len offset n ps) ((i : ℕ) → offset ≤ i → i < offset + n → IsHeldAt ps i → ⊥)

  -- what is reported held is the lowest of the offsets that is held; if nothing is, none of them is held
  abbrev pub LeastOverlap : Type 0
  LeastOverlap = (u : ModelUpload P) (offset n : ℕ) → IsUpload len u → 0 < n → ReportsOverlap offset n u.parts
