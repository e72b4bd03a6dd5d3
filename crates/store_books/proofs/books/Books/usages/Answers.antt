use Rattle.std.proofs.Common.{rules, ◌≡◌, ◌∙◌, ◌++◌, [], ◌∷◌, ap, arith, sym}
use Rattle.std.proofs.lemmas.List.FromFn.{map-range_with_len_more}
use Rattle.store_books.specs.Questions.{usage_of}
use Rattle.store_books.proofs.books.Books.usages.Goals as goal

pub loop-tenant-preserved : goal.loop-tenant-preserved
loop-tenant-preserved g c =
    let pushed : c.push.new.self.items ≡ c.loop-tenant.list.items ++ c.in-Ok.usage ∷ [] = search rules in
    let reported : c.in-Ok.usage ≡ usage_of g.O.Content.size c.args.self.now c.loop-tenant.tenant = search rules in
    pushed ∙ ap (λ u. c.loop-tenant.list.items ++ u ∷ []) reported ∙ ap (λ us. us ++ usage_of g.O.Content.size c.args.self.now c.loop-tenant.tenant ∷ []) c.loop-tenant.invariant ∙ sym (map-range_with_len_more (usage_of g.O.Content.size c.args.self.now) 0 c.loop-tenant.tenant c.loop-tenant.tenant (omega arith))
