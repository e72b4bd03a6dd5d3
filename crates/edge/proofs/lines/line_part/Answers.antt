use Rattle.std.proofs.Common.{rules, arith, ◌≢◌, ◌-◌, ◌∙◌, All, [], length-take-le, ap, eq-eqb, eqb-true, get_or, get_or-take, refl, subst, sym, take, true≢false, vec_capacity}
use Rattle.std.specs.Io.BufRead.{FillKeeps}
use Rattle.std.proofs.BufReadLemmas.{Consumes_shown, zero_unless_positive}
use Rattle.std.proofs.KnownBytes.{Consumes-kept, Consumes-nil}
use Rattle.std.proofs.Transfers.{StopsAt-take}
use Rattle.std.proofs.lemmas.List.Elements.{All-more, All-nil}
use Rattle.edge.specs.inner.Reads.{KeepsPart}
use Rattle.edge.proofs.LineParts.{kept_none}
use Rattle.edge.proofs.lines.line_part.Goals.{then-end-eq0, else-end-eq0}
use Rattle.edge.proofs.lines.line_part.Goals as goal

pub returns-then-eq-clause-part : goal.returns-then-eq-clause-part
returns-then-eq-clause-part g c = (
  [],
  record {
    count_is = refl;
    consumes = Consumes-kept _ _ _ [] (Consumes-nil _) c.fill_buf.follows.holds-at-none.0;
    stops = All-nil (λ x. x ≢ 10);
    goes_on = λ _. All-nil (λ x. x ≢ 10);
    ends = λ done. absurd (true≢false (sym done));
    none = λ done. absurd (true≢false (sym done));
  },
  kept_none c.args.max_len (vec_capacity c.args.line.now) c.args.is_kept c.args.line.now.items,
)

pub returns-clause-part : goal.returns-clause-part
returns-clause-part g c =
    let shown = c.in-Ok.available.now in
    let end = c.len_through-end in
    let long = length-take-le end.result shown end.ensures.bound in
    let rested = c.fill_buf.follows.lender-at-none in
    let filled = subst (FillKeeps _ (g.R.Read.remaining rested) (g.R.BufRead.consumable_len rested)) c.in-Ok.is c.fill_buf.follows.holds-at-none in
    let moved = Consumes_shown _ _ _ _ shown end.result end.ensures.bound c.in-Ok.ensures.front c.in-Ok.ensures.end filled.0 filled.1 c.consume.ensures.bytes in
    let held : KeepsPart c.args.max_len (vec_capacity c.args.line.now) c.args.is_kept c.keep-is_held.result c.args.line.now.items c.keep-is_held.new.line.items (take end.result shown) = search rules in (
      take end.result shown,
      record {
        count_is = long;
        consumes = moved.0;
        stops = StopsAt-take _ _ _ end.ensures.bound end.ensures.before;
        goes_on = λ more. elim c.if-end-eq0.branch [
          | then-end-eq0 w ↦ absurd (more (search rules))
          | else-end-eq0 w ↦ subst (λ k. All (λ x. x ≢ 10) (take k shown)) (omega (arith, w.if-end-eq0.false))
              (All-more (λ x. x ≢ 10) _ (end.result - 1) 0 (omega (arith, w.if-end-eq0.false, end.ensures.bound)) end.ensures.before (λ e. more (w.is_done-is ∙ eq-eqb _ _ e)))
        ];
        ends = λ done some. elim c.if-end-eq0.branch [
          | then-end-eq0 w ↦ absurd (omega (arith, w.if-end-eq0.true))
          | else-end-eq0 w ↦ ap (λ n. get_or (take end.result shown) (n - 1) 0) long
              ∙ get_or-take end.result shown (end.result - 1) 0 (omega arith) ∙ eqb-true _ _ (sym w.is_done-is ∙ done)
        ];
        none = λ _ none. moved.1 (zero_unless_positive _ _ end.ensures.positive (sym long ∙ none));
      },
      held,
    )
