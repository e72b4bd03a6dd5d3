-- Texts that are made in a room before they are written.
use Rattle.std.proofs.Common.{◌≡◌, ◌<◌, ◌∙◌, ◌++◌, ◌∷◌, ℕ, List, [], Option, Some, None, Result, Ok, Err, IfSome, OnErr, OnOk, ap, append-nil, append_assoc, length, refl, subst, sym}
use Rattle.std.specs.Fmt.{WritesInCalls, WritesText}
use Rattle.std.specs.Fmt.InlineText.{AppendsIfIntact, IsIntact, inline_text}
use Rattle.std.specs.declared.fmt.InlineText.{InlineText}
use Rattle.std.specs.Io.KnownBytes.{Appends}
use Rattle.std.specs.List.{FoldsTo, concat}
use Rattle.std.proofs.KnownBytes.{Appends-nil}
use Rattle.std.proofs.lemmas.Result.{on_ok_weaker}
use Rattle.edge.specs.Output.{AllBut, IsTruncated, WroteSome}
use Rattle.edge.proofs.Output.{cut_some}

-- a room has the texts that it took
took : {n : ℕ} (s : InlineText n) (parts : List (List ℕ)) (t : InlineText n) → FoldsTo AppendsIfIntact s parts t → AppendsIfIntact s (concat parts) t
took s [] t same intact = (subst IsIntact same intact, ap inline_text (sym same) ∙ sym (append-nil (inline_text s)))
took s (x ∷ parts) t calls intact =
    let first = calls.1 intact in
    let rest = took calls.0 parts t calls.2 first.0 in
    (rest.0, rest.1 ∙ ap (λ l. l ++ concat parts) first.1 ∙ append_assoc (inline_text s) x (concat parts))

has : {n : ℕ} (s t : InlineText n) (text : List ℕ) → IsIntact s → inline_text s ≡ [] → WritesInCalls AppendsIfIntact s text t → inline_text t ≡ text
has s t text intact empty wrote = (took s wrote.parts t wrote.calls intact).1 ∙ ap (λ l. l ++ concat wrote.parts) empty ∙ wrote.whole

-- the text that was made in an empty room
pub text_made : {n : ℕ} (s t : InlineText n) (o : Option (List ℕ)) → IsIntact s → inline_text s ≡ [] → WritesText AppendsIfIntact s o t → IfSome o (λ text. inline_text t ≡ text)
text_made s t None intact empty wrote = tt
text_made s t (Some text) intact empty wrote = has s t text intact empty wrote

pub text_went : {E : Type 0} (result : Result (Unit {0}) E) (old new : Option (List ℕ)) (bytes : List ℕ) (o : Option (List ℕ)) → IfSome o (λ text. bytes ≡ text) → OnOk result (Appends old new bytes) → OnOk result (IfSome o (Appends old new))
text_went result old new bytes None is went = on_ok_weaker result (λ _. tt) went
text_went result old new bytes (Some text) is went = subst (λ t. OnOk result (Appends old new t)) is went

pub text_cut : {E : Type 0} (result : Result (Unit {0}) E) (old new : Option (List ℕ)) (bytes : List ℕ) (o : Option (List ℕ)) → IfSome o (λ text. bytes ≡ text) → OnErr result (IsTruncated old new bytes)
    → OnErr result (IfSome o (λ text. 0 < length text → IsTruncated old new text))
text_cut (Ok x) old new bytes o is went = tt
text_cut (Err e) old new bytes None is went = tt
text_cut (Err e) old new bytes (Some text) is went = λ _. subst (IsTruncated old new) is went

pub text_begun : {E : Type 0} (result : Result (Unit {0}) E) (old new : Option (List ℕ)) (bytes : List ℕ) (o : Option (List ℕ)) → IfSome o (λ text. bytes ≡ text) → OnErr result (IsTruncated old new bytes) → OnErr result (IfSome o (WroteSome old new))
text_begun (Ok x) old new bytes o is went = tt
text_begun (Err e) old new bytes None is went = tt
text_begun (Err e) old new bytes (Some text) is went = cut_some old new text (subst (IsTruncated old new) is went)

-- nothing was written of a text that was not made
all_but : (was : Option (List ℕ)) (text : List ℕ) → AllBut was was text text
all_but was text = record { front = []; is = refl; went = Appends-nil was }

pub text_not_begun : (was : Option (List ℕ)) (o : Option (List ℕ)) → IfSome o (WroteSome was was)
text_not_begun was None = tt
text_not_begun was (Some text) = record { rest = text; front = all_but was text }

pub text_not_made : (was : Option (List ℕ)) (o : Option (List ℕ)) → IfSome o (λ text. 0 < length text → IsTruncated was was text)
text_not_made was None = tt
text_not_made was (Some text) = λ some. record { rest = text; some = some; front = all_but was text }
