use Rattle.std.proofs.Common.{rules, ◌≡◌, ◌≤◌, ◌++◌, ◌+◌, length, take, ap, sym, subst, ◌∙◌}
use Rattle.std.proofs.lemmas.List.{length-take-le}
use Rattle.b3_forest.specs.Borrowed.{borrowed_bytes}
use Rattle.b3_forest.specs.Stretches.{StandsAt}
use Rattle.b3_forest.proofs.ByteRuns.{same_place, stands_front, stands_in_two}
use Rattle.b3_forest.proofs.borrowed.BorrowedBytes.has.Goals as goal

pub returns-then-ne-clause-no : goal.returns-then-ne-clause-no
returns-then-ne-clause-no c = λ _ stands.
    let b = borrowed_bytes c.args.self in
    let at = c.loop-rest.at in
    let found = c.bytes_from-found.result.now in
    let m = c.min-len.result in
    let front = c.split_at.result.0.now in
    let following = c.split_at.result.1.now in
    let whole : c.loop-rest.rest.now ≡ front ++ following = search rules in
    let short : m ≤ length found = search rules in
    let len : length front ≡ m = search rules in
    let here = (stands_in_two b at front following).0 (subst (StandsAt b at) whole (c.loop-rest.invariant.same.0 stands)) in
    let there = stands_front b at found m c.bytes_from-found.ensures.same short in
    let same : front ≡ take m found = same_place b at front (take m found) here.0 there (len ∙ sym (length-take-le m found short)) in
    search rules

pub loop-rest-preserved : goal.loop-rest-preserved
loop-rest-preserved c =
    let b = borrowed_bytes c.args.self in
    let at = c.loop-rest.at in
    let found = c.bytes_from-found.result.now in
    let m = c.min-len.result in
    let front = c.split_at.result.0.now in
    let following = c.split_at.result.1.now in
    let whole : c.loop-rest.rest.now ≡ front ++ following = search rules in
    let short : m ≤ length found = search rules in
    let len : length front ≡ m = search rules in
    let same : take m found ≡ front = search rules in
    let there = subst (StandsAt b at) same (stands_front b at found m c.bytes_from-found.ensures.same short) in
    let two = stands_in_two b at front following in
    let place = ap (λ i. at + i) len in
    record {
      within = search rules;
      same = (
        (λ stands. subst (λ i. StandsAt b i following) place (two.0 (subst (StandsAt b at) whole (c.loop-rest.invariant.same.0 stands))).1),
        (λ later. c.loop-rest.invariant.same.1 (subst (StandsAt b at) (sym whole) (two.1 (there, subst (λ i. StandsAt b i following) (sym place) later)))),
      );
    }
