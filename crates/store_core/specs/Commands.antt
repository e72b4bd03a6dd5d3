-- Commands on the store. A command is refused as the books refuse it, or is accepted: it has a reply, changes the books, and adds an entry
-- to the journal. A refused command changes nothing.
use Rattle.std.specs.Prelude.{◌≡◌, ◌+◌, ◌-◌, ◌*◌, ◌==◌, ℕ, Bool, true, false, List, [], ◌∷◌, ◌++◌, Option, Some, None, Result, Ok, Err, length, if◌then◌else◌, nat_le}
use Rattle.std.specs.Option.{option_map_or}
use Rattle.std.specs.Str.{bytes_eq}
use Rattle.b3_core.specs.Modes.{hash_of}
use Rattle.b3_forest.specs.Parts.{ModelPrepared}
use Rattle.b3_forest.specs.Uploads.{content_of, pieces_held, put_work}
use Rattle.store_books.specs.declared.refusal.Refusal.{Refusal}
use Rattle.store_books.specs.declared.refusal.Refusal.TheVariants.{NoMemory, NoUpload, WrongAddress, WrongPlan}
use Rattle.store_books.specs.Books.{object_at, upload_at}
use Rattle.store_books.specs.Commands.{abort_refusal, begin_refusal, fix_refusal, file_refusal, forget_refusal, limit_refusal, put_refusal, ready_refusal, tenant_refusal, with_begun, with_filed, with_fixed, with_forgotten, with_joined, with_limit, with_put, with_tenant, without_upload}
use Rattle.store_upload.specs.declared.refused.Refused.{Refused}
use Rattle.store_core.specs.declared.store.Held.{Held}
use Rattle.store_core.specs.Model.{ModelObject, ModelStoreBooks, ModelStore}
use Rattle.store_journal.specs.declared.entry.Entry.{Entry}
use Rattle.store_journal.specs.declared.entry.Entry.TheVariants as entry
use Rattle.store_upload.specs.Uploads.{ModelUpload, UploadPlan, closed_plan, first_missing, held_bytes, new_upload, open_plan, same_plan}

-- ---- results

-- an acceptance: the reply, the resulting store, and its entry in the journal
pub record Acceptance (M : Type 0) : Type 0 where
  pub reply : M
  pub state : ModelStoreBooks
  pub entry : Entry

-- the store after an acceptance, and the journal with its entry
abbrev pub advanced : {M : Type 0} → ModelStore → Acceptance M → ModelStore
advanced old a = record { state = a.state; journal = old.journal ++ a.entry ∷ [] }

-- the refusal, if there is one, otherwise the answer
abbrev pub unless : {A : Type 0} → Option Refusal → A → Result A Refusal
unless None answer = Ok answer
unless (Some refusal) answer = Err refusal

-- A call's result, as viewed, and its effect are the model's; or the model accepts, and it ran out of memory. A refusal leaves store and
-- journal unchanged.
abbrev pub StepsAs : {R M : Type 0} → (R → M) → Result (Acceptance M) Refusal → ModelStore → Result R Refusal → ModelStore → Type 0
StepsAs seen (Ok a) old (Ok reply) new = (seen reply ≡ a.reply) × (new ≡ advanced old a)
StepsAs seen (Ok a) old (Err refusal) new = (refusal ≡ NoMemory) × (new ≡ old)
StepsAs seen (Err first) old (Err refusal) new = (refusal ≡ first) × (new ≡ old)
StepsAs seen (Err first) old (Ok reply) new = ⊥

-- a result, with its reply as viewed
abbrev pub reply_seen : {R M E : Type 0} → (R → M) → Result R E → Result M E
reply_seen seen (Ok reply) = Ok (seen reply)
reply_seen seen (Err refusal) = Err refusal

-- a put's result, without the part that a refusal returns
abbrev pub put_result : Result Held (Refused Refusal ModelPrepared) → Result Held Refusal
put_result (Ok held) = Ok held
put_result (Err refused) = Err refused.reason

-- a reply viewed as it is
abbrev pub as_is : {R : Type 0} → R → R
as_is reply = reply

-- ---- tenants

abbrev pub open_tenant_in : ModelStoreBooks → ℕ → Result (Acceptance ℕ) Refusal
open_tenant_in s limit = unless (tenant_refusal s limit) (record {
  reply = length s.tenant_limits;
  state = with_tenant s limit;
  entry = entry.Tenant (length s.tenant_limits) limit;
})

abbrev pub set_limit_in : ModelStoreBooks → ℕ → ℕ → Result (Acceptance (Unit {0})) Refusal
set_limit_in s tenant limit = unless (limit_refusal length s tenant limit) (record {
  reply = tt;
  state = with_limit s tenant limit;
  entry = entry.Limit tenant limit;
})

-- ---- uploads

-- the entry of a new upload: by its kind of plan
abbrev pub begin_entry : ℕ → ℕ → UploadPlan → Entry
begin_entry number tenant plan = if plan.is_open then entry.Open number tenant plan.bound else entry.Begin number tenant plan.bound

-- an upload with that plan is begun: the reply is its number and its plan
abbrev pub begin_plan_in : ModelStoreBooks → ℕ → UploadPlan → Result (Acceptance (ℕ × UploadPlan)) Refusal
begin_plan_in s tenant plan = unless (begin_refusal length s tenant plan.bound) (record {
  reply = (s.begun, plan);
  state = with_begun s tenant plan;
  entry = begin_entry s.begun tenant plan;
})

abbrev pub begin_in : ModelStoreBooks → ℕ → ℕ → Result (Acceptance (ℕ × UploadPlan)) Refusal
begin_in s tenant len = begin_plan_in s tenant (closed_plan len)

abbrev pub begin_open_in : ModelStoreBooks → ℕ → ℕ → Result (Acceptance (ℕ × UploadPlan)) Refusal
begin_open_in s tenant at_most = begin_plan_in s tenant (open_plan at_most)

-- the open upload of the number, or an empty one if there is none
abbrev pub opened : ModelStoreBooks → ℕ → ModelUpload (List ℕ)
opened s number = option_map_or (λ u. u.upload) (upload_at s number) (new_upload (closed_plan 0))

-- the number of bytes that the open upload holds, and the lowest offset that it does not hold
abbrev pub held_in : ModelStoreBooks → ℕ → Held
held_in s number = record { held = held_bytes length (opened s number).parts; missing = first_missing length (opened s number) }

-- of a part: the upload is not open, has another plan than the part, or does not take it
abbrev pub part_refused : ModelStoreBooks → ℕ → ModelPrepared → Option Refusal
part_refused s number p = option_map_or
    (λ u. if same_plan p.plan u.upload.plan then put_refusal length s number p.part.offset (length p.part.bytes) else Some WrongPlan)
    (upload_at s number) (Some NoUpload)

abbrev pub put_in : ModelStoreBooks → ℕ → ModelPrepared → Result (Acceptance Held) Refusal
put_in s number p = unless (part_refused s number p) (record {
  reply = held_in (with_put length s number p.part.offset p.part.bytes) number;
  state = with_put length s number p.part.offset p.part.bytes;
  entry = entry.Put number p.part.offset (length p.part.bytes);
})

-- the upload's end is fixed, and so is what it reserves
abbrev pub fix_in : ModelStoreBooks → ℕ → ℕ → Result (Acceptance (Unit {0})) Refusal
fix_in s number len = unless (fix_refusal length s number len) (record {
  reply = tt;
  state = with_fixed s number len;
  entry = entry.Fix number len;
})

-- the upload is removed, and what it held is returned
abbrev pub abort_in : ModelStoreBooks → ℕ → Result (Acceptance (ModelUpload (List ℕ))) Refusal
abort_in s number = unless (abort_refusal s number) (record {
  reply = opened s number;
  state = without_upload s number;
  entry = entry.Abort number;
})

-- ---- objects

-- the content of the open upload of the number, and its address
abbrev pub content_in : ModelStoreBooks → ℕ → List ℕ
content_in s number = content_of (opened s number).parts

abbrev pub address_in : ModelStoreBooks → ℕ → List ℕ
address_in s number = hash_of (content_in s number)

-- the result of a seal: its content's address, whether no object was filed there before, the object's bytes, and what the upload held
pub record ModelSealed : Type 0 where
  pub address : List ℕ
  pub new : Bool
  pub bytes : List ℕ
  pub released : ModelUpload (List ℕ)

-- a complete upload is removed: if nothing is filed at its content's address, the content is filed last, otherwise its tenant joins the
-- holders
abbrev pub sealed_by : ModelStoreBooks → ℕ → Option ModelObject → Acceptance ModelSealed
sealed_by s number None = record {
  reply = record { address = address_in s number; new = true; bytes = content_in s number; released = opened s number };
  state = with_filed s number (content_in s number);
  entry = entry.Seal true number (address_in s number);
}
sealed_by s number (Some object) = record {
  reply = record { address = address_in s number; new = false; bytes = object.content; released = opened s number };
  state = with_joined hash_of s number (address_in s number);
  entry = entry.Seal false number (address_in s number);
}

abbrev pub filed_in : ModelStoreBooks → ℕ → Result (Acceptance ModelSealed) Refusal
filed_in s number = unless (file_refusal length hash_of s number (address_in s number)) (sealed_by s number (object_at hash_of s (address_in s number)))

-- the earlier refusal, otherwise what follows
abbrev pub and_then : {A : Type 0} → Option Refusal → Result A Refusal → Result A Refusal
and_then None rest = rest
and_then (Some refusal) rest = Err refusal

abbrev pub seal_in : ModelStoreBooks → ℕ → Result (Acceptance ModelSealed) Refusal
seal_in s number = and_then (ready_refusal length s number) (filed_in s number)

-- the content has another address than the one given
abbrev pub address_refused : ModelStoreBooks → ℕ → List ℕ → Option Refusal
address_refused s number address = if bytes_eq (address_in s number) address then None else Some (WrongAddress (address_in s number))

abbrev pub seal_as_in : ModelStoreBooks → ℕ → List ℕ → Result (Acceptance ModelSealed) Refusal
seal_as_in s number address = and_then (ready_refusal length s number) (and_then (address_refused s number address) (filed_in s number))

-- what is removed with its last holder: its bytes
abbrev pub removed_in : ModelStoreBooks → List ℕ → Option (List ℕ)
removed_in s address = option_map_or (λ o. if nat_le (length o.holders) 1 then Some o.content else None) (object_at hash_of s address) None

abbrev pub forget_in : ModelStoreBooks → ℕ → List ℕ → Result (Acceptance (Option (List ℕ))) Refusal
forget_in s tenant address = unless (forget_refusal hash_of s tenant address) (record {
  reply = removed_in s address;
  state = with_forgotten hash_of s tenant address;
  entry = entry.Forget tenant address;
})

-- ---- compressions

-- of a part that is put: two for each merge in its upload
abbrev pub put_work_in : ModelStoreBooks → ℕ → ModelPrepared → ℕ
put_work_in s number p = put_work (opened s number).parts p.part

-- of a seal of m pieces: one for the root, and two for each piece after the first
abbrev pub seal_work : ℕ → ℕ
seal_work m = if m == 0 then 1 else 2 * (m - 1) + 1

-- of a seal: none if the upload is not open and complete
abbrev pub seal_work_of : Option Refusal → ℕ → ℕ
seal_work_of None pieces = seal_work pieces
seal_work_of (Some refusal) pieces = 0

abbrev pub seal_work_in : ModelStoreBooks → ℕ → ℕ
seal_work_in s number = seal_work_of (ready_refusal length s number) (pieces_held (opened s number).parts)
