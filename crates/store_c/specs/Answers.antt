-- The numbers that calls return, and what they store.
use Rattle.std.specs.Prelude.{◌≡◌, ◌⊎◌, ℕ, Bool, true, false, List, Option, Some, None, if◌then◌else◌, nat_lt, not, option_map}
use Rattle.store_books.specs.declared.refusal.Refusal.{Refusal}
use Rattle.store_books.specs.declared.refusal.Refusal.TheVariants.{BelowUse, Incomplete, JournalFull, LimitTooLarge, NoMemory, NoTenant, NoUpload, NotFixed, NotHeld, OverQuota, Overlap, PastLast, TenantsFull, TooLong, WrongAddress, WrongPlan}
use Rattle.store_books.specs.declared.books.UploadStatus.{UploadStatus}
use Rattle.store_books.specs.declared.books.Usage.{Usage}
use Rattle.store_books.specs.declared.totals.Totals.{Totals}
use Rattle.store_core.specs.declared.store.Held.{Held}
use Rattle.store_core.specs.declared.store.Sealed.{Sealed}
use Rattle.store_upload.specs.Uploads.{UploadPlan, max_bytes, part_fault}
use Rattle.store_upload.specs.declared.refusal.PartFault.{PartFault}
use Rattle.store_upload.specs.declared.refusal.PartFault.TheVariants as faults
use Rattle.store_c.specs.declared.answers.Progress.{Progress}
use Rattle.store_c.specs.declared.answers.SealedObject.{SealedObject}
use Rattle.store_c.specs.declared.answers.TenantUsage.{TenantUsage}
use Rattle.store_c.specs.declared.answers.UploadBound.{UploadBound}
use Rattle.store_c.specs.declared.answers.Why.{Why}
use Rattle.store_c.specs.declared.rows.ListedObject.{ListedObject}
use Rattle.store_c.specs.declared.rows.ListedUpload.{ListedUpload}
use Rattle.store_c.specs.declared.totals.StoreTotals.{StoreTotals}

-- the number of a refusal: that of its name S1 to S16
abbrev pub refusal_number : Refusal → ℕ
refusal_number NoTenant = 1
refusal_number TenantsFull = 2
refusal_number LimitTooLarge = 3
refusal_number (BelowUse in_use) = 4
refusal_number TooLong = 5
refusal_number (OverQuota free) = 6
refusal_number NoUpload = 7
refusal_number WrongPlan = 8
refusal_number (Overlap at) = 9
refusal_number (Incomplete missing) = 10
refusal_number (WrongAddress found) = 11
refusal_number NotHeld = 12
refusal_number JournalFull = 13
refusal_number NoMemory = 14
refusal_number (PastLast end) = 15
refusal_number NotFixed = 16

-- what a refusal carries is stored, and the other field stays
abbrev pub why_of : Refusal → Why → Why
why_of (BelowUse in_use) why = record why { number = in_use }
why_of (OverQuota free) why = record why { number = free }
why_of (Overlap at) why = record why { number = at }
why_of (Incomplete missing) why = record why { number = missing }
why_of (PastLast end) why = record why { number = end }
why_of (WrongAddress found) why = record why { address = found }
why_of _ why = why

-- the number of a fault of a part: 32 and that of its name F2 to F9
abbrev pub fault_number : PartFault → ℕ
fault_number faults.EmptyPart = 34
fault_number faults.OffAlign = 35
fault_number faults.PastEnd = 36
fault_number faults.Ragged = 37
fault_number faults.PartTooLong = 38
fault_number faults.NoMemory = 41

-- why bytes of that length are no part at the offset of an upload with such a plan
abbrev pub part_refusal : UploadPlan → ℕ → ℕ → Option ℕ
part_refusal plan offset len = if nat_lt max_bytes plan.bound then Some 33 else option_map fault_number (part_fault plan offset len)

-- that number; or, if they are a part, 0 or out of memory
abbrev pub IsPartAnswer : ℕ → Option ℕ → Type 0
IsPartAnswer n (Some refusal) = n ≡ refusal
IsPartAnswer n None = (n ≡ 0) ⊎ (n ≡ 41)

-- ---- replies

abbrev pub flag : Bool → ℕ
flag true = 1
flag false = 0

-- an optional number, and whether there is none
abbrev pub or_zero : Option ℕ → ℕ
or_zero (Some n) = n
or_zero None = 0

abbrev pub is_none : Option ℕ → Bool
is_none (Some n) = false
is_none None = true

abbrev pub progress_of : Held → Progress
progress_of h = record { held = h.held; missing = or_zero h.missing; is_whole = flag (is_none h.missing) }

abbrev pub sealed_of : Sealed → SealedObject
sealed_of s = record { address = s.address; is_new = flag s.new }

abbrev pub usage_of : Usage → TenantUsage
usage_of u = record { used = u.used; reserved = u.reserved; limit = u.limit }

abbrev pub bound_of : UploadPlan → UploadBound
bound_of p = record { bound = p.bound; is_open = flag p.is_open }

abbrev pub store_totals_of : Totals → StoreTotals
store_totals_of t = record { objects = t.objects; object_bytes = t.object_bytes; uploads = t.uploads; held_bytes = t.held_bytes; parts = t.parts }

abbrev pub object_row : List ℕ × ℕ → ListedObject
object_row item = record { address = item.0; len = item.1 }

abbrev pub upload_row : UploadStatus → ListedUpload
upload_row u = record { upload = u.upload; bound = u.bound; end = or_zero u.end; held = u.held; is_fixed = flag (not (is_none u.end)) }
