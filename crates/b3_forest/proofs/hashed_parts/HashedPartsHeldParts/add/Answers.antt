use Rattle.std.proofs.Common.{◌≡◌, ◌*◌, ◌+◌, ℕ, List, Option, false, ap, ap₂, length, sym, subst, rules, ◌∙◌}
use Rattle.std.specs.Prelude.{is_some, max}
use Rattle.std.specs.BTreeMap.{insert_entry, is_at}
use Rattle.std.specs.Map.{lookup}
use Rattle.std.specs.Ordering.{nat_cmp}
use Rattle.b3_core.specs.Work.{counted}
use Rattle.store_upload.specs.Uploads.{MayTake}
use Rattle.b3_forest.specs.Parts.{HeldPart, held_as}
use Rattle.b3_forest.specs.Subtrees.{AreHashed}
use Rattle.b3_forest.specs.Uploads.{put_work, with_part}
use Rattle.b3_forest.proofs.Ends.{hashed_with, not_begun, room_for}
use Rattle.b3_forest.proofs.hashed_parts.HashedPartsHeldParts.add.Goals as goal

pub unreachable-requires : goal.unreachable-requires
unreachable-requires c =
    let old = c.self.inside in
    let ps = old.parts.entries in
    let p = c.args.part.part in
    let may = subst (λ (qs : List HeldPart). MayTake length qs p.offset p.bytes) (sym c.self.view_is) c.requires in
    let none = not_begun may.size 0 (held_as p) ps may.fits.some may.placed may.clear in
    let absent : is_some (lookup (is_at (nat_cmp c.offset.result)) ps) ≡ false = ap (λ (k : ℕ). is_some (lookup (is_at (nat_cmp k)) ps)) c.offset.ensures ∙ ap (λ (o : Option (List ℕ)). is_some o) none in
    let there = rw c.in_default-place.is at c.in-Ok.ensures.found in
    let present = there.0 in
    cc

pub add-requires : goal.add-requires
add-requires c =
    let old = c.self.inside in
    let ps = old.parts.entries in
    let p = c.args.part.part in
    let may = subst (λ (qs : List HeldPart). MayTake length qs p.offset p.bytes) (sym c.self.view_is) c.requires in
    (may.size, ps, room_for old.last_end ps old.subtrees.entries p c.self.invariant may)

pub invariant_of-self-in_default-add : goal.invariant_of-self-in_default-add
invariant_of-self-in_default-add c =
    let old = c.self.inside in
    let ps = old.parts.entries in
    let p = c.args.part.part in
    let may = subst (λ (qs : List HeldPart). MayTake length qs p.offset p.bytes) (sym c.self.view_is) c.requires in
    let room = room_for old.last_end ps old.subtrees.entries p c.self.invariant may in
    let same : c.add.new.subtrees.entries ≡ old.subtrees.entries = c.in_default-add.ensures.unchanged may.size ps room in
    subst (λ (qs : List HeldPart). AreHashed old.last_end qs c.add.new.subtrees.entries) (sym (search rules))
    (subst (λ es. AreHashed old.last_end ps es) (sym same) c.self.invariant)

pub invariant_of-self-2 : goal.invariant_of-self-2
invariant_of-self-2 c =
    let old = c.self.inside in
    let ps = old.parts.entries in
    let p = c.args.part.part in
    let may = subst (λ (qs : List HeldPart). MayTake length qs p.offset p.bytes) (sym c.self.view_is) c.requires in
    let room = room_for old.last_end ps old.subtrees.entries p c.self.invariant may in
    let kept = c.in-Ok-add.ensures.kept may.size ps room in
    let all = hashed_with old.last_end may.size ps old.subtrees.entries c.add.new.subtrees.entries p c.self.invariant room kept in
    let last : c.max-self-inside.result ≡ max old.last_end (p.offset + length p.bytes) = c.max-self-inside.ensures ∙ ap (max old.last_end) c.end-end.ensures in
    let put = rw c.in-Vacant.is at (c.in-Ok.ensures.update.1 c.into_shared.result) in
    subst (λ (qs : List HeldPart). AreHashed c.max-self-inside.result qs c.add.new.subtrees.entries)
    (sym (search rules ∙ put ∙ ap₂ (λ (k : ℕ) (b : List ℕ). insert_entry nat_cmp ps k b) c.offset.ensures c.into_shared.ensures))
    (subst (λ (n : ℕ). AreHashed n (with_part p ps) c.add.new.subtrees.entries) (sym last) all)

pub returns-clause-count : goal.returns-clause-count
returns-clause-count c =
    let old = c.self.inside in
    let ps = old.parts.entries in
    let p = c.args.part.part in
    let may = subst (λ (qs : List HeldPart). MayTake length qs p.offset p.bytes) (sym c.self.view_is) c.requires in
    let room = room_for old.last_end ps old.subtrees.entries p c.self.invariant may in
    let merges = c.in-Ok-add.ensures.merges may.size ps room in
    c.in-Ok-add.ensures.count ∙ ap (λ n. counted c.args.work.now (2 * n)) merges ∙ ap (λ (qs : List HeldPart). counted c.args.work.now (put_work qs p)) c.self.view_is
