use Rattle.std.proofs.Common.{rules, arith, ◌≡◌, ◌++◌, ◌∷◌, [], get_or}
use Rattle.hash_engines.specs.Lists.{names_from}
use Rattle.hash_engines.proofs.ListNames.{longer_within, named_at_end, named_last, none_at_end, none_last}
use Rattle.hash_engines.proofs.lists.names_in.Goals as goal
use Rattle.hash_engines.proofs.lists.names_in.Goals.{then-byte-end+in_ok-push_name+else-not-branch, else-byte-end+in_ok-push}

pub returns-then-not-branch : goal.returns-then-not-branch
returns-then-not-branch c =
    none_at_end c.args.end c.loop-byte.names.items c.loop-byte.front.items c.args.text.now c.loop-byte.byte-index _ c.loop-byte-test.true c.if-byte-end.true
    (c.in_ok-push_name.ensures.bad (let no = c.if-not-branch.true in first_of (cc, search (rules, no)))) c.loop-byte.invariant

pub loop-byte-preserved : goal.loop-byte-preserved
loop-byte-preserved c =
    let i = c.loop-byte.byte-index in
    let text = c.args.text.now in
    let all = names_from c.args.end [] text in
    elim c.if-byte-end.branch [
      | then-byte-end+in_ok-push_name+else-not-branch w ↦
          rw (w.names-is, w.front-is, w.new-front-then-byte-end.ensures.items)
          (named_at_end c.args.end c.loop-byte.names.items w.push_name.new.names.items c.loop-byte.front.items text i all c.loop-byte-test.true w.if-byte-end.true
          (w.in_ok-push_name.ensures.good (let yes = w.if-not-branch.false in first_of (cc, search (rules, yes)))) c.loop-byte.invariant)
      | else-byte-end+in_ok-push w ↦
          let longer : w.push.new.self.items ≡ c.loop-byte.front.items ++ get_or text i 0 ∷ [] = search rules in
          rw (w.names-is, w.front-is, longer) (longer_within c.args.end c.loop-byte.names.items c.loop-byte.front.items text i all c.loop-byte-test.true w.if-byte-end.false c.loop-byte.invariant)
    ]

pub returns-then-branch : goal.returns-then-branch
returns-then-branch c =
    named_last c.args.end c.loop-byte.names.items c.push_name-2.new.names.items c.loop-byte.front.items c.args.text.now c.loop-byte.byte-index _ (omega arith)
    (c.in_ok-push_name-2.ensures.good (let yes = c.if-branch.true in first_of (cc, search (rules, yes)))) c.loop-byte.invariant

pub returns-else-branch : goal.returns-else-branch
returns-else-branch c =
    none_last c.args.end c.loop-byte.names.items c.loop-byte.front.items c.args.text.now c.loop-byte.byte-index _ (omega arith)
    (c.in_ok-push_name-2.ensures.bad (let no = c.if-branch.false in first_of (cc, search (rules, no)))) c.loop-byte.invariant
