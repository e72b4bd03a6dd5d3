use Rattle.std.proofs.Common.{◌≡◌, ◌∙◌, refl, sym, true, length, take, rules}
use Rattle.std.proofs.lemmas.List.{take_rest}
use Rattle.std.proofs.lemmas.Result.{err_from_is_err_and}
use Rattle.b3_check.specs.Lines.{digest_at, has_two_spaces}
use Rattle.b3_check.proofs.Rests.{Reaches, at_bytes, at_error, at_hex, at_short, at_spaces, at_tag, digits_bad, digits_good}
use Rattle.b3_check.proofs.reading.read_rest.Goals as goal
use Rattle.b3_check.proofs.reading.read_rest.Goals.{In-Ok}

pub returns-then-starts_with : goal.returns-then-starts_with
returns-then-starts_with c = at_tag c.args.is_escaped c.args.rest.now (search rules)

pub returns-then-rest-lt-BEFORE_NAME : goal.returns-then-rest-lt-BEFORE_NAME
returns-then-rest-lt-BEFORE_NAME c = at_short c.args.is_escaped c.args.rest.now (search rules) c.if-rest-lt-BEFORE_NAME.true

pub returns-in_default : goal.returns-in_default
returns-in_default c =
    let text = c.split_at.result.0.now in
    let is : text ≡ take 64 c.args.rest.now = c.split_at.ensures.front in
    let long : length text ≡ 64 = c.split_at.ensures.front_len in
    let bad = digits_bad text c.in_default.field-0 long c.in_default.ensures in
    at_hex c.args.is_escaped c.args.rest.now (search rules) c.if-rest-lt-BEFORE_NAME.false (rw is at bad)

-- what is known after the digits
good : (c : In-Ok) → Reaches c.args.rest.now × (c.in-Ok.digest ≡ digest_at (take 64 c.args.rest.now))
good c =
    let text = c.split_at.result.0.now in
    let is : text ≡ take 64 c.args.rest.now = c.split_at.ensures.front in
    let long : length text ≡ 64 = c.split_at.ensures.front_len in
    let digits = digits_good text c.in-Ok.digest long c.in-Ok.ensures in
    let digits2 = rw is at digits in
    (record { untagged = search rules; long = c.if-rest-lt-BEFORE_NAME.false; digits = digits2.0 }, digits2.1)

pub returns-then-not-has_two_spaces : goal.returns-then-not-has_two_spaces
returns-then-not-has_two_spaces c =
    let reached = good (goal.at.returns-then-not-has_two_spaces c).In-Ok in
    at_spaces c.args.is_escaped c.args.rest.now reached.0 (search rules)

pub returns-in_err-name : goal.returns-in_err-name
returns-in_err-name c =
    let reached = good (goal.at.returns-in_err-name c).In-Ok in
    let spaces : has_two_spaces c.args.rest.now ≡ true = sym c.has_two_spaces.ensures ∙ c.if-not-has_two_spaces.false in
    let p = err_from_is_err_and c.from_residual.result c.from_residual.ensures.1 in
    let text = rw take_rest at c.in_err-name.ensures in
    rw (p.1, p.2) (at_error c.args.is_escaped c.args.rest.now c.in_err-name.field-0.0 reached.0 spaces text)

pub returns-in-Ok-new : goal.returns-in-Ok-new
returns-in-Ok-new c =
    let reached = good (goal.at.returns-in-Ok-new c).In-Ok in
    let spaces : has_two_spaces c.args.rest.now ≡ true = sym c.has_two_spaces.ensures ∙ c.if-not-has_two_spaces.false in
    let text = rw take_rest at c.in_ok-name.ensures in
    let named = c.in-Ok-new.ensures.named in
    rw (at_bytes c.args.is_escaped c.args.rest.now c.in_ok-name.name.items reached.0 spaces text, named.0, named.1, reached.1) refl

pub returns-in-Err : goal.returns-in-Err
returns-in-Err c =
    let reached = good (goal.at.returns-in-Err c).In-Ok in
    let spaces : has_two_spaces c.args.rest.now ≡ true = sym c.has_two_spaces.ensures ∙ c.if-not-has_two_spaces.false in
    let text = rw take_rest at c.in_ok-name.ensures in
    rw (at_bytes c.args.is_escaped c.args.rest.now c.in_ok-name.name.items reached.0 spaces text, c.in-Err.ensures.refused.0) refl
