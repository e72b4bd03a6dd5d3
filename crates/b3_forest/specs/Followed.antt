-- Parts noted over the bytes that they should match.
use Rattle.std.specs.Prelude.{◌≡◌, ◌≢◌, ◌↔◌, ℕ, ◌+◌, ◌-◌, ◌*◌, ◌^◌, ◌<◌, ◌≤◌, ◌⊎◌, ◌/◌, ◌&&◌, ◌||◌, Bool, true, false, nat_le, nat_lt, if◌then◌else◌, List, [], ◌∷◌, length, map, take, drop}
use Rattle.b3_core.specs.Tree.{chunk_len}
use Rattle.b3_forest.specs.Subtrees.{Keeps, Subtrees}
use Rattle.b3_forest.specs.Parts.{HeldPart, Part, ModelPrepared, chunks_of}
use Rattle.store_upload.specs.Laws.{IsHeldAt}
use Rattle.store_upload.specs.Uploads.{IsUpload, ModelUpload, closed_plan, length_of}
use Rattle.b3_forest.specs.Pieces.{piece_count}
use Rattle.b3_forest.specs.Uploads.{pieces_held}
use Rattle.b3_forest.specs.declared.refusal.NoteFault.{NoteFault}
use Rattle.b3_forest.specs.declared.refusal.NoteFault.TheVariants.{NoMemory, Overlap, Stranger, WrongPlan}

-- borrowed bytes, and what was noted of them: ranges of chunks, each from its first chunk to the one past its last
pub record ModelFollow : Type 0 where
  pub bytes : List ℕ
  pub ranges : List (ℕ × ℕ)

-- chunk i is in one of the ranges
abbrev pub has_chunk : List (ℕ × ℕ) → ℕ → Bool
has_chunk [] i = false
has_chunk (r ∷ rs) i = (nat_le r.0 i && nat_lt i r.1) || has_chunk rs i

-- offset i was noted
abbrev pub IsNoted : ModelFollow → ℕ → Type 0
IsNoted f i = (i < length f.bytes) × (has_chunk f.ranges (i / chunk_len) ≡ true)

-- the bytes of chunk i if it was noted, otherwise none
abbrev pub noted_chunk : ModelFollow → ℕ → List ℕ
noted_chunk f i = if has_chunk f.ranges i then take chunk_len (drop (chunk_len * i) f.bytes) else []

-- the number of pieces of the noted chunks
abbrev pub pieces_noted : ModelFollow → ℕ
pieces_noted f = piece_count (noted_chunk f)

-- it is the number of pieces of an upload that holds the same offsets
abbrev pub NotedAsHeld : Type 0
NotedAsHeld = (f : ModelFollow) (u : ModelUpload (List ℕ)) → IsUpload length u → length_of u ≡ length f.bytes → ((i : ℕ) → IsNoted f i ↔ IsHeldAt length u.parts i)
    → pieces_noted f ≡ pieces_held u.parts

-- offset i is in the part
abbrev pub IsIn : Part → ℕ → Type 0
IsIn p i = (p.offset ≤ i) × (i < p.offset + length p.bytes)

-- the bytes at the place of a part
abbrev pub bytes_at : List ℕ → Part → List ℕ
bytes_at b p = take (length p.bytes) (drop p.offset b)

-- ---- another part

abbrev pub NothingNoted : ModelFollow → Part → Type 0
NothingNoted f p = (i : ℕ) → IsIn p i → IsNoted f i → ⊥

-- the lowest offset of a part that was noted
pub record IsFirstNoted (f : ModelFollow) (p : Part) (at : ℕ) : Type 0 where
  pub inside : IsIn p at
  pub noted : IsNoted f at
  pub least : (i : ℕ) → p.offset ≤ i → i < at → IsNoted f i → ⊥

-- a part that may be noted: it is made for these bytes, nothing of it was noted, and its bytes are those at its offset
pub record MayNote (f : ModelFollow) (p : ModelPrepared) : Type 0 where
  pub plan : p.plan ≡ closed_plan (length f.bytes)
  pub apart : NothingNoted f p.part
  pub same : p.part.bytes ≡ bytes_at f.bytes p.part

-- what a refusal says about a part
abbrev pub IsRefused : ModelFollow → ModelPrepared → NoteFault → Type 0
IsRefused f p WrongPlan = p.plan ≢ closed_plan (length f.bytes)
IsRefused f p (Overlap at) = (p.plan ≡ closed_plan (length f.bytes)) × IsFirstNoted f p.part at
IsRefused f p Stranger = (p.plan ≡ closed_plan (length f.bytes)) × NothingNoted f p.part × (p.part.bytes ≢ bytes_at f.bytes p.part)
IsRefused f p NoMemory = MayNote f p

-- the result of noting a part
pub record IsNotedWith (f g : ModelFollow) (p : Part) : Type 0 where
  pub bytes : g.bytes ≡ f.bytes
  pub noted : (i : ℕ) → IsNoted g i ↔ (IsNoted f i ⊎ IsIn p i)

-- the number of merges when a part is noted: the pieces before and those of the part, minus the pieces after
abbrev pub noting_merges : ModelFollow → ModelFollow → Part → ℕ
noting_merges f g p = pieces_noted f + piece_count (chunks_of p) - pieces_noted g

-- ---- what is missing

pub record IsFirstUnnoted (f : ModelFollow) (m : ℕ) : Type 0 where
  pub below : m < length f.bytes
  pub missing : IsNoted f m → ⊥
  pub least : (i : ℕ) → i < m → IsNoted f i

abbrev pub AllNoted : ModelFollow → Type 0
AllNoted f = (i : ℕ) → i < length f.bytes → IsNoted f i

-- ---- what is kept

abbrev pub range_of : Subtrees → List (ℕ × ℕ)
range_of es = map (λ e. (e.0, e.0 + 2 ^ e.1.level)) es

abbrev pub followed : List ℕ → Subtrees → ModelFollow
followed b es = record { bytes = b; ranges = range_of es }

-- each part has the bytes at its place
abbrev pub ArePartsOf : List ℕ → List HeldPart → Type 0
ArePartsOf b [] = Unit {0}
ArePartsOf b (p ∷ ps) = (p.1 ≡ take (length p.1) (drop p.0 b)) × ArePartsOf b ps

-- the pieces are those of some parts of the bytes
pub record Follows (b : List ℕ) (es : Subtrees) : Type 0 where
  pub parts : List HeldPart
  pub keeps : Keeps (length b) parts es
  pub same : ArePartsOf b parts
