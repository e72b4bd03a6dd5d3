use Rattle.std.proofs.Common.{rules, ◌≡◌, ◌≤◌, ◌++◌, ◌+◌, length, take, subst}
use Rattle.b3_forest.specs.Borrowed.{borrowed_bytes}
use Rattle.b3_forest.specs.Stretches.{StandsAt}
use Rattle.b3_forest.proofs.ByteRuns.{stands_more}
use Rattle.b3_forest.proofs.borrowed.BorrowedBytes.copied.Goals as goal

pub loop-self-preserved : goal.loop-self-preserved
loop-self-preserved c =
    let b = borrowed_bytes c.args.self in
    let found = c.bytes_from-found.result.now in
    let more = c.min-more.result in
    let at : c.args.at + c.len-in-loop-self.result ≡ c.args.at + length c.loop-self.copy.items = search rules in
    let stands : StandsAt b (c.args.at + length c.loop-self.copy.items) found = subst (λ i. StandsAt b i found) at c.bytes_from-found.ensures.same in
    let short : more ≤ length found = search rules in
    let added : c.loop-self.copy.items ++ take more found ≡ c.extend_from_slice.new.self.items = search rules in
    (search rules, subst (StandsAt b c.args.at) added (stands_more b c.args.at c.loop-self.copy.items found more c.loop-self.invariant.1 stands short))
