-- The machine values of a handle, and what it owns. Assumes `Logic`.
use Rattle.std.proofs.Common.{◌≡◌, ℕ, List, [], ◌∷◌, ◌++◌, refl, subst}
use seplogic.Ra.Ura.{Ura}
use mir.Raw.{raw as bare}
use mir.Val.{Val, vstruct, vcons, vnil, of_list}
use base.Fml.{Fml}
use base.Fraction.{full_share}
use base.Logic.{ent, guard, never, fst∗, snd∗, via, guard_i}
use types.Logic.{Logic, sem}
use types.Kit.{Item, Goal, Seq, Step, step, ‵, given, ◌$◌, drop, fsplit, fjoin, fpick, fpack, feq_i, feq_l, use1, learn}
use contract.Monad.{fact_use}
use denote.RattleType.{RattleType, Valss}
use denote.Builtin.{RawPtr}
use denote.Memory.{lone}
use denote.RawPtr.{Ptr, block_ptr, null_ptr, ptr_val, in_a_block, Testable, lies_at}
use denote.Steps.{nothing}
use denote.Struct.Struct.{within}
use denote.Struct.Owning.{shape}
use Rattle.std.specs.Prelude.{Option, Some, None}
use Rattle.std.specs.contracts.impls.GlobalAllocator.TheImpl.{ghosts}
use Rattle.std.proofs.GlobalToken.{dealloc_token-Testable}
use Rattle.store_handle.specs.contracts.Kept as kept_type
use Rattle.store_handle.specs.Owned.{boxed, handle_owns, heap}
use Rattle.store_handle.specs.contracts.Handle as handle_type

abbrev pub word : Ptr → Val
word p = vstruct (vcons (ptr_val p) vnil)

abbrev pub R : RattleType
R = kept_type.the_row

abbrev pub Handle : RattleType
Handle = handle_type.the_row

-- the right to free the block at p
abbrev to_free : Ptr → Fml
to_free = ghosts.dealloc_token heap (bare (lone R.mir))

module _ {M : Type 1} {𝓤 : Ura M} (𝓛 : Logic 𝓤) where
  -- a value on the heap is at the start of its block
  tested : (p : Ptr) (x : R.Denot) → ent 𝓤 (sem 𝓛 (boxed R p x)) (guard 𝓤 (Testable p) (sem 𝓛 (boxed R p x)))
  tested p x = fact_use 𝓤 (Testable p)
      (via 𝓤 (sem 𝓛 (to_free p)) (snd∗ 𝓤 (sem 𝓛 (lies_at R full_share p x)) (sem 𝓛 (to_free p))) (dealloc_token-Testable 𝓛 heap (bare (lone R.mir)) p))
      (guard_i 𝓤 (Testable p) (sem 𝓛 (boxed R p x)))

module _ {M : Type 1} {𝓤 : Ura M} {𝓛 : Logic 𝓤} {K : Type 0} {Γ : List (Item 𝓤)} {G : Goal 𝓤 𝓛.H} where
  pub handle_in : K → (p : Ptr) (v : Option R.Denot)
      → Step K 𝓛 (‵ (Handle.own_val (record { at = p; kept = v }) (word p ∷ [])) ∷ Γ) G (‵ (handle_owns R p v) ∷ Γ) G
  handle_in t p v = step (λ s.
      nothing t $ feq_i t (List Val) (ptr_val p ∷ []) (ptr_val p ∷ []) refl $ fjoin t $ feq_i t (List Val) (word p ∷ []) (word p ∷ []) refl $ fjoin t $
      fpack t (Valss (RawPtr ∷ [])) (within (shape handle_type.the_type) (p, tt) (word p ∷ [])) (ptr_val p ∷ [], tt) $ fjoin t $ s)

  pub handle_out : K → (d : Handle.Denot) (vs : List Val) → (vs ≡ word d.at ∷ [] → Seq K 𝓛 (‵ (handle_owns R d.at d.kept) ∷ Γ) G) → Seq K 𝓛 (‵ (Handle.own_val d vs) ∷ Γ) G
  handle_out t d vs k = fsplit t $ fpick t (λ vss. fsplit t $ feq_l t (λ ev. fsplit t $ feq_l t (λ ep. drop t $
      k (subst (λ (ps : List Val). vs ≡ vstruct (of_list (ps ++ [])) ∷ []) ep ev))))

  -- a handle is closed, or it owns a value on the heap
  pub either : K → (p : Ptr) (v : Option R.Denot) → (v ≡ None → p ≡ null_ptr → Seq K 𝓛 Γ G)
      → ((b o : ℕ) (x : R.Denot) → v ≡ Some x → p ≡ block_ptr b o → Testable (block_ptr b o) → Seq K 𝓛 (‵ (boxed R (block_ptr b o) x) ∷ Γ) G)
      → Seq K 𝓛 (‵ (handle_owns R p v) ∷ Γ) G
  either t p None none one = feq_l t (λ e. none refl e)
  either t p (Some x) none one = in_a_block t p (λ q. boxed R q x) (fst∗ 𝓤 (never 𝓤) (sem 𝓛 (to_free null_ptr))) (λ b o e.
      use1 𝓛 (given (Testable (block_ptr b o)) (‵ (boxed R (block_ptr b o) x))) (tested 𝓛 (block_ptr b o) x) $ learn t (λ s. one b o x refl e s))
