-- Uploads: their plans, where parts may be, what is held, what is missing, and where an upload ends. Parts are of any type; `len` is the
-- number of bytes of one.
use Rattle.std.specs.Prelude.{◌≡◌, ◌≢◌, ◌+◌, ◌%◌, ◌^◌, ◌<◌, ◌≤◌, ◌==◌, ◌&&◌, ◌||◌, ℕ, Bool, true, false, not, max, List, [], ◌∷◌, Option, Some, None, IsSome, is_some, unwrap_or, if◌then◌else◌, nat_lt, sum_by, option_map}
use Rattle.std.specs.BTreeMap.{insert_entry}
use Rattle.std.specs.List.{AllByRecursion}
use Rattle.std.specs.Map.{values_of}
use Rattle.std.specs.Option.{option_or}
use Rattle.std.specs.Ordering.{nat_cmp}
use Rattle.store_upload.specs.declared.refusal.AddFault.{AddFault}
use Rattle.store_upload.specs.declared.refusal.AddFault.TheVariants.{Overlap, PastLast}
use Rattle.store_upload.specs.declared.refusal.FinishFault.{FinishFault}
use Rattle.store_upload.specs.declared.refusal.FinishFault.TheVariants.{NotFixed, Incomplete}
use Rattle.store_upload.specs.declared.refusal.FixFault.{FixFault}
use Rattle.store_upload.specs.declared.refusal.FixFault.TheVariants as fix
use Rattle.store_upload.specs.declared.refusal.PartFault.{PartFault}
use Rattle.store_upload.specs.declared.refusal.PartFault.TheVariants.{EmptyPart, OffAlign, PartTooLong, PastEnd, Ragged}

-- the number of bytes of a chunk: parts start at multiples of it
abbrev pub chunk_len : ℕ
chunk_len = 1024

-- the maximum numbers of bytes of an upload and of a part, and of chunks of a part
abbrev pub max_bytes : ℕ
max_bytes = 2 ^ 44

abbrev pub max_part_bytes : ℕ
max_part_bytes = 2 ^ 24

abbrev pub max_part_chunks : ℕ
max_part_chunks = 16384

-- ---- plans, and what fits them

-- the plan of an upload: its maximum length, and whether its length is fixed later
pub record UploadPlan : Type 0 where
  pub bound : ℕ
  pub is_open : Bool

-- the plan of an upload whose length is known
abbrev pub closed_plan : ℕ → UploadPlan
closed_plan n = record { bound = n; is_open = false }

-- the plan of an upload whose length is fixed later
abbrev pub open_plan : ℕ → UploadPlan
open_plan n = record { bound = n; is_open = true }

-- whether two plans are the same: of the same length and kind
abbrev pub same_plan : UploadPlan → UploadPlan → Bool
same_plan p q = p.bound == q.bound && (if p.is_open then q.is_open else not q.is_open)

-- the end of an upload at the start: only a closed plan has one
abbrev pub first_end : UploadPlan → Option ℕ
first_end plan = if plan.is_open then None else Some plan.bound

-- n bytes are not a multiple of a chunk
abbrev pub is_ragged : ℕ → Bool
is_ragged n = not (n % chunk_len == 0)

-- n bytes at an offset fit a plan: they are 1 to `max_part_bytes` bytes within its bound, and start at a chunk; if the plan has the
-- upload's length, they end with a chunk or with the upload
pub record Fits (plan : UploadPlan) (offset n : ℕ) : Type 0 where
  pub some : 0 < n
  pub aligned : offset % chunk_len ≡ 0
  pub within : offset + n ≤ plan.bound
  pub whole : plan.is_open ≡ false → n % chunk_len ≢ 0 → offset + n ≡ plan.bound
  pub small : n ≤ max_part_bytes

-- the first reason why n bytes at an offset do not fit a plan
abbrev pub part_fault : UploadPlan → ℕ → ℕ → Option PartFault
part_fault plan offset n =
    if n == 0 then Some EmptyPart
    else if not (offset % chunk_len == 0) then Some OffAlign
    else if nat_lt plan.bound (offset + n) then Some PastEnd
    else if not plan.is_open && not (n % chunk_len == 0) && not (offset + n == plan.bound) then Some Ragged
    else if nat_lt max_part_bytes n then Some PartTooLong
    else None

-- ---- uploads

-- an upload: its plan, its end once that is fixed, and the parts that it holds, by offset
pub record ModelUpload (P : Type 0) : Type 0 where
  pub plan : UploadPlan
  pub end : Option ℕ
  pub parts : List (ℕ × P)

-- an upload of that plan that holds nothing
abbrev pub new_upload : {P : Type 0} → UploadPlan → ModelUpload P
new_upload plan = record { plan = plan; end = first_end plan; parts = [] }

-- an upload's length is its end if that is fixed, otherwise its bound
abbrev pub length_of : {P : Type 0} → ModelUpload P → ℕ
length_of u = unwrap_or u.end u.plan.bound

-- the end of an upload that takes n more bytes: ragged ones fix the end
abbrev pub end_with : Option ℕ → ℕ → ℕ → Option ℕ
end_with end offset n = option_or end (if is_ragged n then Some (offset + n) else None)

-- the upload with its end
abbrev pub fixed_at : {P : Type 0} → ModelUpload P → ℕ → ModelUpload P
fixed_at u n = record u { end = Some n }

module _ {P : Type 0} (len : P → ℕ) where
  -- the first offset after a part
  abbrev pub end_of : ℕ × P → ℕ
  end_of p = p.0 + len p.1

  -- the number of bytes that parts have
  abbrev pub held_bytes : List (ℕ × P) → ℕ
  held_bytes ps = sum_by len (values_of ps)

  -- the largest end of parts; 0 if there are none
  unfoldable pub last_end : List (ℕ × P) → ℕ
  last_end [] = 0
  last_end (p ∷ ps) = max (end_of p) (last_end ps)

  -- how far an upload extends: to its end if that is fixed, otherwise to the largest end of its parts
  abbrev pub reached : ModelUpload P → ℕ
  reached u = unwrap_or u.end (last_end u.parts)

  -- ---- adding a part

  -- n bytes at an offset and a part have an offset in common
  abbrev pub overlaps : ℕ → ℕ → ℕ × P → Bool
  overlaps offset n p = nat_lt p.0 (offset + n) && nat_lt offset (end_of p)

  -- the lowest of n offsets that parts, by offset, hold
  unfoldable pub overlap_at : ℕ → ℕ → List (ℕ × P) → Option ℕ
  overlap_at offset n [] = None
  overlap_at offset n (p ∷ ps) = elim (overlaps offset n p) [ true ↦ Some (max offset p.0) | false ↦ overlap_at offset n ps ]

  -- how far the upload extends, if n bytes would end past its end, or would end it at another place
  abbrev pub past_last : ModelUpload P → ℕ → ℕ → Option ℕ
  past_last u offset n =
      if (is_some u.end && nat_lt (reached u) (offset + n)) || (is_ragged n && nat_lt (offset + n) (reached u)) then Some (reached u) else None

  -- why an upload does not take n bytes that fit its plan: one of their offsets is held, or they are refused by past_last
  abbrev pub place_fault : ModelUpload P → ℕ → ℕ → Option AddFault
  place_fault u offset n = option_or (option_map Overlap (overlap_at offset n u.parts)) (option_map PastLast (past_last u offset n))

  -- the upload with one more part
  abbrev pub with_more : ModelUpload P → ℕ → P → ModelUpload P
  with_more u offset part = record u { end = end_with u.end offset (len part); parts = insert_entry nat_cmp u.parts offset part }

  -- ---- the end

  -- whether an upload cannot end there: it has another end, or holds a part that ends after it
  abbrev pub ends_elsewhere : ModelUpload P → ℕ → Bool
  ends_elsewhere u n = if is_some u.end then not (n == reached u) else nat_lt n (reached u)

  -- why an end is not fixed
  abbrev pub fix_fault : ModelUpload P → ℕ → Option FixFault
  fix_fault u n =
      if nat_lt u.plan.bound n then Some fix.TooLong
      else if ends_elsewhere u n then Some (fix.PastLast (reached u))
      else None

  -- ---- what is missing

  -- the lowest offset from a on that no part holds, of parts by offset
  unfoldable pub first_gap : ℕ → List (ℕ × P) → ℕ
  first_gap a [] = a
  first_gap a (p ∷ ps) = elim (p.0 == a) [ true ↦ first_gap (end_of p) ps | false ↦ a ]

  -- the lowest offset below the upload's length that is not held
  abbrev pub first_missing : ModelUpload P → Option ℕ
  first_missing u = if nat_lt (first_gap 0 u.parts) (length_of u) then Some (first_gap 0 u.parts) else None

  -- why an upload is not complete
  abbrev pub finish_fault : ModelUpload P → Option FinishFault
  finish_fault u = if is_some u.end then option_map Incomplete (first_missing u) else Some NotFixed

  -- the upload has its end, and every offset below it is held
  abbrev pub IsComplete : ModelUpload P → Type 0
  IsComplete u = IsSome u.end × (first_missing u ≡ None)

  -- ---- invariants of an upload

  -- parts that fit an upload of n bytes, in order and disjoint, the first at offset a or later
  abbrev pub ArePlaced : ℕ → ℕ → List (ℕ × P) → Type 0
  ArePlaced n a [] = Unit {0}
  ArePlaced n a (p ∷ ps) = (a ≤ p.0) × Fits (closed_plan n) p.0 (len p.1) × ArePlaced n (end_of p) ps

  -- a lawful upload: not above the maximum length, and with parts that fit, in order and disjoint; a closed plan fixes its end, and one
  -- without a fixed end holds only whole chunks
  pub record IsUpload (u : ModelUpload P) : Type 0 where
    pub most : u.plan.bound ≤ max_bytes
    pub within : length_of u ≤ u.plan.bound
    pub placed : ArePlaced (length_of u) 0 u.parts
    pub closed : u.plan.is_open ≡ false → u.end ≡ Some u.plan.bound
    pub whole : u.end ≡ None → AllByRecursion (λ p. is_ragged (len p.1) ≡ false) u.parts

  -- parts of some upload
  abbrev pub ArePartsOfSome : List (ℕ × P) → Type 0
  ArePartsOfSome ps = (n : ℕ) × (n ≤ max_bytes) × ArePlaced n 0 ps

  -- a part that some upload with these parts can take: it fits an upload of the length that they fit, and none of its offsets is held
  pub record MayTake (ps : List (ℕ × P)) (offset : ℕ) (part : P) : Type 0 where
    pub size : ℕ
    pub most : size ≤ max_bytes
    pub placed : ArePlaced size 0 ps
    pub fits : Fits (closed_plan size) offset (len part)
    pub clear : overlap_at offset (len part) ps ≡ None
