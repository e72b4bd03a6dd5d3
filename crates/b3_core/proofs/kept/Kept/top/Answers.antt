use Rattle.std.proofs.Common.{◌≡◌, ◌*◌, ◌-◌, ◌+◌, ◌/◌, ◌<◌, ◌⊎◌, ℕ, ◌∷◌, ◌++◌, List, [], length, reverse, arith, ap, ◌∙◌, rules, inl, inr}
use Rattle.std.proofs.lemmas.List.{append-nil, length-reverse, nil_from_length, reverse-append}
use Rattle.b3_core.specs.Kept.{nodes_of, tail_of}
use Rattle.b3_core.specs.Tree.{ModelTop, chunk_top}
use Rattle.b3_core.specs.Work.{block_count}
use Rattle.b3_core.proofs.Hashings.{tail_joined, tail_work, whole_joined, whole_work}
use Rattle.b3_core.proofs.kept.Kept.top.Goals as goal
use Rattle.b3_core.proofs.kept.Kept.top.Goals.{in_default-via-in-Some+else-is_empty, in_default-via-in_default}

-- the last subtree, before which are the others
abbrev last : goal.After-joined → ℕ × ModelTop
last c = (c.last.inside.level, c.last.inside.top)

taken : (c : goal.After-joined) → (reverse (nodes_of c.args.self.now.subtrees)) ≡ last c ∷ reverse c.in-Some.before.now
taken c = search (rules, c.split_last.ensures, c.in-Some, c.as_slice.ensures, c.last, reverse-append)

no_tail : (c : goal.After-joined) (before x : List ℕ) → x ≡ before ++ tail_of c.args.self.now.tail → x ≡ before
no_tail c before x cut =
    let empty : length (tail_of c.args.self.now.tail) ≡ 0 = search (rules, c.is_empty.ensures, c.if-is_empty) in
    let none = nil_from_length (tail_of c.args.self.now.tail) empty in
    cut ∙ ap (λ t. before ++ t) none ∙ append-nil before

pub returns-in-Some-clause-node : goal.returns-in-Some-clause-node
returns-in-Some-clause-node c x (before, cut, are, size, few) =
    let whole = whole_joined c.args.mode.now (last c) (reverse c.in-Some.before.now) before (rw (taken c) at are) in
    rw (no_tail c before x cut) (c.joined.ensures.node ∙ whole)

pub returns-in-Some-clause-count : goal.returns-in-Some-clause-count
returns-in-Some-clause-count c x (before, cut, are, size, few) =
    let work = whole_work c.args.mode.now (last c) (reverse c.in-Some.before.now) before (rw (taken c) at are) in
    let same = length-reverse c.in-Some.before.now in
    (2 * length c.in-Some.before.now, rw (no_tail c before x cut, taken c) (omega (arith, work, same)), c.joined.ensures.count)

-- there are bytes after the subtrees, or there is none
tail_or_none : (c : goal.After-joined-in_default) → (0 < length (tail_of c.args.self.now.tail)) ⊎ ((reverse (nodes_of c.args.self.now.subtrees)) ≡ [])
tail_or_none c = elim c.in_default.branch [
  | in_default-via-in-Some+else-is_empty w ↦ inl (search (rules, w.is_empty.ensures, w.if-is_empty))
  | in_default-via-in_default w ↦ inr (nil_from_length (reverse (nodes_of c.args.self.now.subtrees)) (search (rules, c.split_last.ensures, c.as_slice.ensures, w.in_default, length-reverse)))
]

pub returns-in_default-clause-node : goal.returns-in_default-clause-node
returns-in_default-clause-node c x (before, cut, are, size, few) =
    let right : c.of_chunk-last.result ≡ chunk_top (tail_of c.args.self.now.tail) (length before / 1024) c.args.mode.now = search (rules, c.of_chunk-last.ensures, c.as_slice-in_default.ensures, c.number.ensures, size) in
    let node = tail_joined c.args.mode.now (reverse (nodes_of c.args.self.now.subtrees)) before (tail_of c.args.self.now.tail) c.of_chunk-last.result are few (tail_or_none c) right in
    rw cut (search (rules, c.joined-in_default.ensures, c.as_slice-in_default-2.ensures, node))

pub returns-in_default-clause-count : goal.returns-in_default-clause-count
returns-in_default-clause-count c x (before, cut, are, size, few) =
    let work = tail_work c.args.mode.now (reverse (nodes_of c.args.self.now.subtrees)) before (tail_of c.args.self.now.tail) are few (tail_or_none c) in
    let items : length c.as_slice-in_default-2.result.now ≡ length (reverse (nodes_of c.args.self.now.subtrees)) = search (rules, c.as_slice-in_default-2.ensures, length-reverse) in
    let bytes : length c.as_slice-in_default.result.now ≡ length (tail_of c.args.self.now.tail) = search (rules, c.as_slice-in_default.ensures) in (
      (block_count (length (tail_of c.args.self.now.tail)) - 1) + 2 * length (reverse (nodes_of c.args.self.now.subtrees)),
      rw cut (omega (arith, work)),
      omega (arith, c.joined-in_default.ensures.count, c.of_chunk-last.ensures.count, items, bytes),
    )
