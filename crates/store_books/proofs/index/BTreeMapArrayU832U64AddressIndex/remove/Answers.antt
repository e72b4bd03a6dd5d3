use Rattle.std.proofs.Common.{◌∙◌, ℕ, List, None, ap, cond}
use Rattle.std.specs.BTreeMap.{get}
use Rattle.std.specs.Cmp.Lexicographic.{slice_cmp}
use Rattle.std.specs.Ordering.{nat_cmp}
use Rattle.std.specs.Str.{bytes_eq}
use Rattle.store_books.proofs.ObjectsByNumber.{at_address}
use Rattle.store_books.proofs.index.BTreeMapArrayU832U64AddressIndex.remove.Goals as goal

pub returns : goal.returns
returns c a = c.remove-number.ensures.updates.0 a ∙ ap (λ b. cond b None (get (slice_cmp nat_cmp) c.args.self.now a)) (at_address c.bytes.result a ∙ ap (λ (x : List ℕ). bytes_eq x a) c.bytes.ensures)
