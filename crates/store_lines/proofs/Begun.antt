-- What a session aborts at its end, it began.
use Rattle.std.proofs.Common.{◌≡◌, ◌++◌, ◌∷◌, [], ◌⊎◌, ℕ, suc, zero, List, Some, None, Option, Ok, Err, drop, inl, inr, take, refl}
use Rattle.std.specs.Prelude.{◌==◌}
use Rattle.std.specs.List.{fold, position, remove}
use Rattle.std.specs.Option.{option_map_or}
use Rattle.store_core.specs.Runs.{ask, change, put}
use Rattle.store_core.specs.declared.command.Command.{Command}
use Rattle.store_core.specs.declared.command.Command.TheVariants as commands
use Rattle.store_core.specs.declared.store.questions.Reply.{Reply}
use Rattle.store_core.specs.declared.store.questions.Reply.TheVariants as replies
use Rattle.store_lines.specs.Owning.{IsAmong, IsBeginOf, OwnWereBegun, WasBegunBy, accepted_after, own_after, without}
use Rattle.store_lines.specs.Script.{took}
use Rattle.store_lines.specs.Session.{SessionTurn, as_script, filed, no_memory, reported_as}
use Rattle.store_lines.specs.declared.owning.UploadsAtEnd.{UploadsAtEnd}
use Rattle.store_lines.specs.declared.owning.UploadsAtEnd.TheVariants as at_end

module _ (upload : ℕ) where
  among_front : (xs ys : List ℕ) → IsAmong upload (xs ++ ys) → IsAmong upload xs ⊎ IsAmong upload ys
  among_front [] ys h = inr h
  among_front (x ∷ xs) ys (inl is) = inl (inl is)
  among_front (x ∷ xs) ys (inr later) = elim (among_front xs ys later) [ inl mine ↦ inl (inr mine) | inr other ↦ inr other ]

  among_taken : (n : ℕ) (xs : List ℕ) → IsAmong upload (take n xs) → IsAmong upload xs
  among_taken zero xs h = absurd h
  among_taken (suc n) [] h = absurd h
  among_taken (suc n) (x ∷ xs) (inl is) = inl is
  among_taken (suc n) (x ∷ xs) (inr later) = inr (among_taken n xs later)

  among_dropped : (n : ℕ) (xs : List ℕ) → IsAmong upload (drop n xs) → IsAmong upload xs
  among_dropped zero xs h = h
  among_dropped (suc n) [] h = absurd h
  among_dropped (suc n) (x ∷ xs) h = inr (among_dropped n xs h)

  among_left : (own : List ℕ) (place : Option ℕ) → IsAmong upload (option_map_or (remove own) place own) → IsAmong upload own
  among_left own None h = h
  among_left own (Some place) h = elim (among_front (take place own) (drop (suc place) own) h) [ inl front ↦ among_taken place own front | inr back ↦ among_dropped (suc place) own back ]

  among_without : (number : ℕ) (own : List ℕ) → IsAmong upload (without number own) → IsAmong upload own
  among_without number own h = among_left own (position (λ n. n == number) own) h

  -- after a turn
  abbrev OrBegan : List ℕ → SessionTurn → Type 0
  OrBegan own turn = IsAmong upload own ⊎ IsBeginOf upload turn

  among_more : (own : List ℕ) (number : ℕ) → IsAmong upload (own ++ number ∷ []) → IsAmong upload own ⊎ (number ≡ upload)
  among_more own number h = elim (among_front own (number ∷ []) h) [ inl mine ↦ inl mine | inr (inl is) ↦ inr is | inr (inr none) ↦ absurd none ]

  after_accepted : (own : List ℕ) (command : Command) (reply : Reply) → IsAmong upload (accepted_after own command reply) → OrBegan own (reported_as as_script (took (change command) (Ok reply)))
  after_accepted own (commands.Begin tenant len) (replies.Upload number plan) h = elim (among_more own number h) [ inl mine ↦ inl mine | inr is ↦ inr (refl, is) ]
  after_accepted own (commands.Begin tenant len) _ h = inl h
  after_accepted own (commands.BeginOpen tenant at_most) (replies.Upload number plan) h = elim (among_more own number h) [ inl mine ↦ inl mine | inr is ↦ inr (refl, is) ]
  after_accepted own (commands.BeginOpen tenant at_most) _ h = inl h
  after_accepted own (commands.Seal number) reply h = inl (among_without number own h)
  after_accepted own (commands.SealAs number address) reply h = inl (among_without number own h)
  after_accepted own (commands.Abort number) reply h = inl (among_without number own h)
  after_accepted own (commands.OpenTenant limit) reply h = inl h
  after_accepted own (commands.SetLimit tenant limit) reply h = inl h
  after_accepted own (commands.Fix number len) reply h = inl h
  after_accepted own (commands.Forget tenant address) reply h = inl h

  after_turn : (own : List ℕ) (turn : SessionTurn) (uploads : UploadsAtEnd) → IsAmong upload (own_after own turn uploads) → OrBegan own turn
  after_turn own no_memory uploads h = inl h
  after_turn own (filed turns) uploads h = inl h
  after_turn own (reported_as manner (took (change command) (Ok reply))) at_end.Aborted h = elim (after_accepted own command reply h) [ inl mine ↦ inl mine | inr began ↦ inr (by command reply began) ]
    where
      by : (c : Command) (r : Reply) → IsBeginOf upload (reported_as as_script (took (change c) (Ok r))) → IsBeginOf upload (reported_as manner (took (change c) (Ok r)))
      by c (replies.Upload number plan) began = began
      by c _ began = absurd began
  after_turn own (reported_as manner (took (change command) (Err refusal))) at_end.Aborted h = inl h
  after_turn own (reported_as manner (took (put number part) reply)) at_end.Aborted h = inl h
  after_turn own (reported_as manner (took (ask question) reply)) at_end.Aborted h = inl h
  after_turn own (reported_as manner (took call reply)) at_end.Kept h = inl h
  after_turn own (reported_as manner _) uploads h = inl h

  among_own : (uploads : UploadsAtEnd) (own : List ℕ) (turns : List SessionTurn) → IsAmong upload (fold (λ own turn. own_after own turn uploads) own turns) → IsAmong upload own ⊎ WasBegunBy upload turns
  among_own uploads own [] h = inl h
  among_own uploads own (turn ∷ turns) h = elim (among_own uploads (own_after own turn uploads) turns h) [
    | inl left ↦ elim (after_turn own turn uploads left) [ inl mine ↦ inl mine | inr began ↦ inr (inl began) ]
    | inr later ↦ inr (inr later)
  ]

pub own_were_begun : OwnWereBegun
own_were_begun at_end turns upload h = elim (among_own upload at_end [] turns h) [ inl none ↦ absurd none | inr began ↦ began ]
