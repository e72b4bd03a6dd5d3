use Rattle.std.proofs.Common.{rules, ◌≡◌, ◌≤◌, ◌++◌, ◌∷◌, [], length, ap, ap₂, subst, sym, ◌∙◌, vec_len}
use Rattle.std.specs.Prelude.{flat_map}
use Rattle.std.proofs.lemmas.List.{append-nil}
use Rattle.std.proofs.lemmas.List.Elements.{All-push}
use Rattle.b3_forest.specs.Stretches.{AreFull, stretch_bytes}
use Rattle.b3_forest.proofs.ByteRuns.{more_after, with_stretch}
use Rattle.b3_forest.proofs.stretches.StretchesBuilder.with.Goals as goal
use Rattle.b3_forest.proofs.stretches.StretchesBuilder.with.Goals.{then-len-stretch_len+in-Ok+in_ok-push+in_ok-last, else-len-stretch_len}

pub loop-rest-preserved : goal.loop-rest-preserved
loop-rest-preserved c =
    let old = c.loop-rest in
    let new = c.if-len-stretch_len in
    let front = c.split_at.result.0.now in
    let following = c.split_at.result.1.now in
    let whole : front ++ following ≡ old.rest.now = search rules in
    let added : c.extend_from_slice.new.self.items ≡ new.last.items ++ front = search rules in
    let short : vec_len c.extend_from_slice.new.self ≤ c.self.inside.stretch_len = search rules in
    elim c.if-len-stretch_len.branch [
      | then-len-stretch_len+in-Ok+in_ok-push+in_ok-last w ↦
          let pushed : new.full.items ≡ old.full.items ++ w.in-Ok.stretch ∷ [] = search rules in
          let empty : new.last.items ≡ [] = search rules in
          let is : stretch_bytes w.in-Ok.stretch ≡ old.last.items = search rules in
          let len : length (stretch_bytes w.in-Ok.stretch) ≡ c.self.inside.stretch_len = search rules in
          let kept : flat_map stretch_bytes new.full.items ++ new.last.items ≡ flat_map stretch_bytes old.full.items ++ old.last.items =
          ap₂ (λ xs l. flat_map stretch_bytes xs ++ l) pushed empty ∙ append-nil _ ∙ with_stretch stretch_bytes old.full.items w.in-Ok.stretch
          ∙ ap (λ l. flat_map stretch_bytes old.full.items ++ l) is in
          record {
            full = subst (AreFull c.self.inside.stretch_len) (sym pushed) (All-push (λ s. length (stretch_bytes s) ≡ c.self.inside.stretch_len) old.full.items w.in-Ok.stretch old.invariant.full len);
            short = short;
            bytes = ap (λ l. (flat_map stretch_bytes new.full.items ++ l) ++ following) added ∙ more_after (flat_map stretch_bytes new.full.items) new.last.items front following
                ∙ ap₂ (λ x y. x ++ y) kept whole ∙ old.invariant.bytes;
          }
      | else-len-stretch_len w ↦
          let full : new.full.items ≡ old.full.items = search rules in
          let last : new.last.items ≡ old.last.items = search rules in
          record {
            full = subst (AreFull c.self.inside.stretch_len) (sym full) old.invariant.full;
            short = short;
            bytes = ap (λ l. (flat_map stretch_bytes new.full.items ++ l) ++ following) added ∙ more_after (flat_map stretch_bytes new.full.items) new.last.items front following
                ∙ ap₂ (λ x y. x ++ y) (ap₂ (λ xs l. flat_map stretch_bytes xs ++ l) full last) whole ∙ old.invariant.bytes;
          }
    ]
