use Rattle.std.proofs.Common.{◌≡◌, ◌∙◌, ℕ, Bool, List, None, Some, arith, ap, ap₂, length, refl}
use Rattle.std.specs.Prelude.{nat_le}
use Rattle.std.proofs.lemmas.Bool.{leb-false}
use Rattle.store_books.specs.declared.refusal.Refusal.TheVariants.{NoTenant}
use Rattle.store_books.specs.Books.{Filed, ModelBooks, is_absent, is_held_by, object_at}
use Rattle.store_books.specs.Commands.{forget_refusal, full_refusal, holding_refusal, with_left}
use Rattle.store_books.specs.Kept.{IsKept, KeptBooks, view_of}
use Rattle.store_books.proofs.Commands.{both, none, object_amounts, passed, room}
use Rattle.store_books.proofs.Objects.{is_held, leaves, where_so}
use Rattle.store_books.proofs.Sums.{Takes, takes}
use Rattle.store_books.proofs.books.Books.forget.Goals as goal

forgets : {P O : Type 0} {len : P → ℕ} {size : O → ℕ} {address : O → List ℕ} {k : KeptBooks P O} {b : ModelBooks P O} (t : ℕ) (at : List ℕ) (o : Filed O) (used bytes : ℕ) → IsKept len size address k → view_of k ≡ b → object_at address (view_of k) at ≡ Some o → used ≡ size o.content
    → bytes ≡ where_so (nat_le (length o.holders) 1) (size o.content) → forget_refusal address b t at ≡ None → Takes len size address k t (object_amounts used bytes) none (with_left address (view_of k) t at (Some o))
forgets {len = len} {size} {address} {k} t at o used bytes kept is known used_is bytes_is free =
    let b = view_of k in
    let all = both (holding_refusal address b t at) (full_refusal b) (ap (λ b. forget_refusal address b t at) is ∙ free) in
    let there = passed (is_absent b t) NoTenant _ all.0 in
    let held = is_held (is_held_by t o) None (rw known at there.1) in
    takes len size address k kept (leaves len size address b t at o used bytes used_is bytes_is known kept.all.sound (room b all.1) (leb-false (length b.tenant_limits) t there.0) held.0)

pub change-requires : goal.change-requires
change-requires g c =
    let known = c.in-Some.ensures.found in
    let bytes = c.freed.ensures ∙ ap₂ (λ (x : Bool) (y : ℕ). where_so x y) known.is_alone known.size in
    (forgets c.args.tenant c.args.address known.object _ c.freed.result c.self.invariant c.self.view_is known.found known.size bytes c.requires).room

pub invariant_of-self : goal.invariant_of-self
invariant_of-self g c =
    let known = c.in-Some.ensures.found in
    let bytes = c.freed.ensures ∙ ap₂ (λ (x : Bool) (y : ℕ). where_so x y) known.is_alone known.size in
    let new = c.drop_holder-freed.ensures.left known.object known.found in
    (forgets c.args.tenant c.args.address known.object _ c.freed.result c.self.invariant c.self.view_is known.found known.size bytes c.requires).kept
    c.change.ensures.accounts refl new (λ few. omega (arith, few))
