use Rattle.std.proofs.Common.{◌∙◌, ℕ, List, Some, ap, cond}
use Rattle.std.specs.BTreeMap.{get}
use Rattle.std.specs.Cmp.Lexicographic.{slice_cmp}
use Rattle.std.specs.Ordering.{nat_cmp}
use Rattle.std.specs.Str.{bytes_eq}
use Rattle.store_books.proofs.ObjectsByNumber.{at_address}
use Rattle.store_books.proofs.index.BTreeMapArrayU832U64AddressIndex.insert.Goals as goal

pub returns-clause-inserted : goal.returns-clause-inserted
returns-clause-inserted c a = c.in-Ok.ensures.updates.0 a ∙ ap (λ b. cond b (Some c.args.number) (get (slice_cmp nat_cmp) c.args.self.now a)) (at_address c.bytes.result a ∙ ap (λ (x : List ℕ). bytes_eq x a) c.bytes.ensures)
