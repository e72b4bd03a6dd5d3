-- The codes and the texts of refusals.
use Rattle.std.specs.Prelude.{ℕ, List, [], ◌++◌, codes}
use Rattle.std.specs.Fmt.{decimal}
use Rattle.hex.specs.Hex.{encode_lower}
use Rattle.store_books.specs.declared.refusal.Refusal.{Refusal}
use Rattle.store_books.specs.declared.refusal.Refusal.TheVariants.{BelowUse, Incomplete, JournalFull, LimitTooLarge, NoMemory, NoTenant, NoUpload, NotFixed, NotHeld, OverQuota, Overlap, PastLast, TenantsFull, TooLong, WrongAddress, WrongPlan}

-- the code of a refusal
abbrev pub refusal_code : Refusal → List ℕ
refusal_code NoTenant = codes "S1"
refusal_code TenantsFull = codes "S2"
refusal_code LimitTooLarge = codes "S3"
refusal_code (BelowUse bytes) = codes "S4"
refusal_code TooLong = codes "S5"
refusal_code (OverQuota free) = codes "S6"
refusal_code NoUpload = codes "S7"
refusal_code WrongPlan = codes "S8"
refusal_code (Overlap offset) = codes "S9"
refusal_code (Incomplete missing) = codes "S10"
refusal_code (WrongAddress found) = codes "S11"
refusal_code NotHeld = codes "S12"
refusal_code JournalFull = codes "S13"
refusal_code NoMemory = codes "S14"
refusal_code (PastLast end) = codes "S15"
refusal_code NotFixed = codes "S16"

-- the data of a refusal
abbrev pub carried_text : Refusal → List ℕ
carried_text NoTenant = []
carried_text TenantsFull = []
carried_text LimitTooLarge = []
carried_text (BelowUse bytes) = codes " use " ++ decimal bytes
carried_text TooLong = []
carried_text (OverQuota free) = codes " free " ++ decimal free
carried_text NoUpload = []
carried_text WrongPlan = []
carried_text (Overlap offset) = codes " at " ++ decimal offset
carried_text (Incomplete missing) = codes " missing " ++ decimal missing
carried_text (WrongAddress found) = codes " found " ++ encode_lower found
carried_text NotHeld = []
carried_text JournalFull = []
carried_text NoMemory = []
carried_text (PastLast end) = codes " end " ++ decimal end
carried_text NotFixed = []

-- the code of a refusal, and its data
abbrev pub refusal_text : Refusal → List ℕ
refusal_text refusal = refusal_code refusal ++ carried_text refusal

-- the code for limits that no store has
abbrev pub bad_limits_code : List ℕ
bad_limits_code = codes "S0"

-- the text for them
abbrev pub bad_limits_text : List ℕ
bad_limits_text = bad_limits_code ++ codes ": a limit is zero, or more than a store takes"
