use Rattle.std.proofs.Common.{Some, ap, sym, ◌∙◌}
use Rattle.store_handle.specs.declared.Kept.TheVariants as kept
use Rattle.store_c.proofs.OnParts.{on_store, part_to}
use Rattle.store_c.proofs.parts.b3store_put.Goals as goal

pub returns-clause-step : goal.returns-clause-step
returns-clause-step c = part_to c.args.part.now.kept _ _ _ _
    (λ p takes. on_store _ _ c.in-Some.ensures.store (c.put-answer.new.store, takes, c.put_store.ensures))
    (λ none. (none.0, c.put_store.ensures ∙ (ap (λ s. Some (kept.Store s)) none.1 ∙ sym c.in-Some.ensures.store)))
    c.put-answer.ensures.step

pub returns-clause-count : goal.returns-clause-count
returns-clause-count c done = on_store _ _ c.in-Some.ensures.store (c.put-answer.ensures.count done)
