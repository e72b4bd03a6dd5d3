use Rattle.std.proofs.Common.{◌≡◌, ◌+◌, ◌^◌, arith, sym, add-one}
use Rattle.std.proofs.Math.Nat.{two-pow-succ}
use Rattle.std.proofs.lemmas.Nat.{pow_pos}
use Rattle.b3_core.proofs.Nodes.{top_short, top_long, split_is, top_join}
use Rattle.b3_core.proofs.laws.tree_laws.Goals as goal

pub returns : goal.returns
returns c = record {
  one = top_short;
  two = top_long;
  cut = λ n j below above.
      let some = pow_pos j in
      let double : 2 ^ (j + 1) ≡ 2 ^ j + 2 ^ j = rw add-one (two-pow-succ j) in
      sym (split_is n j (omega arith) (omega arith));
  join = top_join;
}
