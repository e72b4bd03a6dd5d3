use Rattle.std.proofs.Common.{sym, arith, add-one}
use Rattle.b3_check.proofs.Returns.{is_other, is_return, only_returns, up_to_last}
use Rattle.b3_check.proofs.reading.without_returns.Goals as goal

pub returns-in-Some : goal.returns-in-Some
returns-in-Some c =
    let h = c.in-Some.ensures in
    rw add-one (sym (up_to_last c.args.line.now c.in-Some.last h.0.high (is_other _ h.1) (λ j low high. is_return _ (h.0.after j (omega arith) high))))

pub returns-in-None : goal.returns-in-None
returns-in-None c = let h = c.in-None.ensures in sym (only_returns c.args.line.now (λ k lt. is_return _ (h k (omega arith) lt)))
