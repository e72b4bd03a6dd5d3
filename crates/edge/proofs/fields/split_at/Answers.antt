use Rattle.std.proofs.Common.{◌≡◌, ◌∙◌, ◌+◌, ◌-◌, suc, ap, arith, drop, length, sym, take, take_all, Some}
use Rattle.std.proofs.lemmas.List.{length-drop}
use Rattle.edge.proofs.Searches.{split_first, split_none}
use Rattle.edge.proofs.fields.split_at.Goals as goal

pub returns-in-Some : goal.returns-in-Some
returns-in-Some c =
    let bytes = c.args.bytes.now in
    let at = c.in-Some.at in
    let (first, is) = c.in-Some.ensures in
    let found = split_first c.args.mark bytes at first.high is (λ k less. first.before k (omega arith) less) in
    let next : at + 1 ≡ suc at = omega arith in
    let all : take (length bytes - (at + 1)) (drop (at + 1) bytes) ≡ drop (at + 1) bytes = take_all (length bytes - (at + 1)) (drop (at + 1) bytes) (omega (arith, length-drop (at + 1) bytes)) in
    ap (λ l. Some (take at bytes, l)) (all ∙ ap (λ n. drop n bytes) next) ∙ sym found

pub returns-in-None : goal.returns-in-None
returns-in-None c = sym (split_none c.args.mark c.args.bytes.now (λ k less. c.in-None.ensures k (omega arith) less))
