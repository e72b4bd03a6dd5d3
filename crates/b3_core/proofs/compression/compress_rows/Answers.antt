use Rattle.std.proofs.Common.{◌≡◌, ◌∙◌, ◌+◌, ◌*◌, ◌/◌, ◌%◌, ◌^◌, List, ℕ, arith, ap, refl, take}
use Rattle.b3_core.specs.Compression.{compress_of, output_words, rounds, start_state}
use Rattle.b3_core.specs.inner.Compression.{turned}
use Rattle.b3_core.specs.inner.Rows.{rows_message, rows_state, rows_value}
use Rattle.b3_core.proofs.WordTurns.{turned_whole}
use Rattle.b3_core.proofs.compression.compress_rows.Goals as goal

pub returns-clause-values : goal.returns-clause-values
unfolding compress_of
returns-clause-values g c i t b d h row =
    let word = g.V.Words.word in
    let last = c.args.last in
    let value = rows_value word i c.args.h in
    let m = rows_message word i c.args.m in
    let turn = c.turn-d.ensures in
    let w0 : turned 8 (word c.turn-d.result (4 * i)) ≡ t % 2 ^ 32 =
    ap (turned 8) (turn.turns (4 * i) (omega arith)) ∙ turned_whole (word last (4 * i)) (turn.fits (4 * i) (omega arith)) ∙ row.0 in
    let w1 : turned 8 (word c.turn-d.result (4 * i + 1)) ≡ t / 2 ^ 32 =
    ap (turned 8) (turn.turns (4 * i + 1) (omega arith)) ∙ turned_whole (word last (4 * i + 1)) (turn.fits (4 * i + 1) (omega arith)) ∙ row.1 in
    let w2 : turned 8 (word c.turn-d.result (4 * i + 2)) ≡ b =
    ap (turned 8) (turn.turns (4 * i + 2) (omega arith)) ∙ turned_whole (word last (4 * i + 2)) (turn.fits (4 * i + 2) (omega arith)) ∙ row.2 in
    let w3 : turned 8 (word c.turn-d.result (4 * i + 3)) ≡ d =
    ap (turned 8) (turn.turns (4 * i + 3) h) ∙ turned_whole (word last (4 * i + 3)) (turn.fits (4 * i + 3) h) ∙ row.3 in
    let iv = c.of_row-c.ensures i h in
    let start : rows_state word i (c.args.h.0, c.args.h.1, c.of_row-c.result, c.turn-d.result) ≡ start_state value t b d =
    rw (iv.0, iv.1, iv.2, iv.3, w0, w1, w2, w3) refl in
    c.low_rows.ensures i value h
    ∙ ap (λ (v : List ℕ). take 8 (output_words value v)) (c.seven_rounds-v.ensures.states i h ∙ ap (λ (v : List ℕ). rounds 7 v m) start)
