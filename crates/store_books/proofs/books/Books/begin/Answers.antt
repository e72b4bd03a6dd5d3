use Rattle.std.proofs.Common.{rules, ◌≡◌, ◌∙◌, ◌<◌, ◌++◌, ◌∷◌, [], ℕ, List, None, arith, ap, refl}
use Rattle.std.specs.BTreeMap.{insert_entry}
use Rattle.std.specs.List.{AllByRecursion}
use Rattle.std.specs.Ordering.{nat_cmp}
use Rattle.store_books.specs.Books.{ModelOwnedUpload, ModelBooks, IsOwnedUpload}
use Rattle.store_books.specs.Commands.{begin_refusal, with_begun}
use Rattle.store_books.specs.Kept.{IsKept, KeptBooks, view_of}
use Rattle.store_upload.specs.Uploads.{UploadPlan}
use Rattle.store_books.proofs.Commands.{begins, none, reserving}
use Rattle.store_books.proofs.Lists.{all_weaker}
use Rattle.store_books.proofs.Numbers.{inserted_last}
use Rattle.store_books.proofs.Sums.{Takes, takes}
use Rattle.store_books.proofs.books.Books.begin.Goals as goal

last : {P O : Type 0} {len : P → ℕ} {size : O → ℕ} {address : O → List ℕ} {k : KeptBooks P O} {us : List (ℕ × ModelOwnedUpload P)} (u v : ModelOwnedUpload P) → IsKept len size address k → us ≡ insert_entry nat_cmp k.uploads k.begun u → u ≡ v → us ≡ k.uploads ++ (k.begun, v) ∷ []
last {P = P} {O = O} {len = len} {k = k} u v kept inserted is =
    let numbers : AllByRecursion (λ (e : ℕ × ModelOwnedUpload P). e.0 < k.begun) k.uploads = all_weaker (IsOwnedUpload len _ k.begun) (λ e. e.0 < k.begun) k.uploads (λ e is. is.number) kept.all.sound.uploads in
    inserted ∙ inserted_last k.begun u k.uploads numbers ∙ ap (λ (w : ModelOwnedUpload P). k.uploads ++ (k.begun, w) ∷ []) is

starts : {P O : Type 0} {len : P → ℕ} {size : O → ℕ} {address : O → List ℕ} {k : KeptBooks P O} {b : ModelBooks P O} (t : ℕ) (plan : UploadPlan) (n : ℕ) → IsKept len size address k → view_of k ≡ b → n ≡ plan.bound → begin_refusal size b t plan.bound ≡ None
    → Takes len size address k t none (reserving n) (with_begun (view_of k) t plan)
starts {len = len} {size} {address} {k} t plan n kept is bound free = takes len size address k kept (begins len size address (view_of k) t plan n bound (ap (λ b. begin_refusal size b t plan.bound) is ∙ free) kept.all.sound)

pub change-requires : goal.change-requires
change-requires g c = (starts c.args.tenant c.args.plan _ c.self.invariant c.self.view_is c.bound-reserved.ensures.value c.requires).room

pub invariant_of-self-2 : goal.invariant_of-self-2
invariant_of-self-2 g c =
    let new = c.new-begun.ensures ∙ ap (λ u. record { tenant = c.args.tenant; upload = u }) c.new.ensures in
    let uploads = last c.new-begun.result _ c.self.invariant c.in-Ok.ensures.entries new in
    (starts c.args.tenant c.args.plan _ c.self.invariant c.self.view_is c.bound-reserved.ensures.value c.requires).kept c.change.ensures.accounts uploads refl (λ few. omega (arith, few))

pub returns-clause-begun : goal.returns-clause-begun
returns-clause-begun g c =
    let new = c.new-begun.ensures ∙ ap (λ u. record { tenant = c.args.tenant; upload = u }) c.new.ensures in
    let uploads = last c.new-begun.result _ c.self.invariant c.in-Ok.ensures.entries new in
    search rules
