use Rattle.std.proofs.Common.{rules, ◌≡◌, ◌++◌, ◌∷◌, [], ℕ, List, sym, ◌∙◌, ap}
use Rattle.std.proofs.lemmas.Grind.{common_steps}
use Rattle.std.proofs.Common.{arith}
use Rattle.store_lines.proofs.Owned.{aborts_more}
use Rattle.store_lines.proofs.owning.OwnUploads.abort_all.Goals as goal

some_left : (done rest : List ℕ) (upload : ℕ) → [] ≡ done ++ upload ∷ rest → ⊥
some_left [] rest upload same = cc
some_left (first ∷ done) rest upload same = cc

pub loop-upload-preserved : goal.loop-upload-preserved
loop-upload-preserved g c =
    let before = c.loop-upload.invariant.0 in
    let upload = c.in-Some.upload in
    let popped : c.loop-upload.self.numbers.items ≡ upload ∷ c.pop_front.new.self.items = search rules in
    let all : c.args.self.numbers.items ≡ (before.0 ++ upload ∷ []) ++ c.pop_front.new.self.items = grind (arith, common_steps) in (
      (before.0 ++ upload ∷ [], (all, aborts_more g.A.Access.reach (g.A.Access.stands c.args.access.now) (g.A.Access.stands c.loop-upload.access) (g.A.Access.stands c.abort.new.access) before.0 upload c.abort.ensures.0 before.1.1 c.abort.ensures.1)),
      (λ none. absurd (let same : [] ≡ before.0 ++ c.loop-upload.self.numbers.items = sym none ∙ before.1.0 in let no : [] ≡ before.0 ++ upload ∷ c.pop_front.new.self.items = same ∙ ap (λ (rest : List ℕ). before.0 ++ rest) popped in some_left before.0 c.pop_front.new.self.items upload no)),
    )
