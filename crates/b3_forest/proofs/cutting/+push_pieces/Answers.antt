use Rattle.std.proofs.Common.{◌≡◌, ◌≤◌, ◌⊎◌, ◌<◌, ℕ, List, [], ◌∷◌, ◌++◌, ◌+◌, ◌-◌, ◌/◌, ◌^◌, length, arith, refl, ap, ap₂, subst, sym, ◌∙◌, inl, inr}
use Rattle.std.proofs.lemmas.List.{append-nil, append_assoc, length-append}
use Rattle.b3_forest.specs.Parts.{chunks_of}
use Rattle.b3_core.specs.Work.{counted}
use Rattle.b3_forest.specs.Pieces.{pieces_of, part_work}
use Rattle.b3_forest.specs.declared.piece.Piece.{Piece}
use Rattle.b3_forest.proofs.Ranges.{part_from, end_from, full_within, left_aligned, right_aligned, pieces_of-none, pieces_of-full, halved, pieces_of-halved, work_halves, bytes_within, counted_twice}
use Rattle.b3_forest.proofs.cutting.+push_pieces.Goals as goal
use Rattle.b3_forest.proofs.cutting.+push_pieces.Goals.{then-end-first-via-then-end-first, then-end-first-via-else-end-first+then-first-width, else-start-first-via-then-start-first+else-first-width-2, else-start-first-via-else-start-first}

pub returns-then-end-first-clause-pieces : goal.returns-then-end-first-clause-pieces
returns-then-end-first-clause-pieces t c =
    let out : (c.args.range.first + 2 ^ c.args.range.level ≤ c.args.start) ⊎ (end_from c.args.start (length c.args.bytes.now) ≤ c.args.range.first) =
    elim c.then-end-first.branch [
      | then-end-first-via-then-end-first w ↦ inr (omega arith)
      | then-end-first-via-else-end-first+then-first-width w ↦ inl (omega arith)
    ] in
    rw (pieces_of-none c.args.start c.args.bytes.now c.args.range.level c.args.range.first out) (sym (append-nil c.args.pieces.now.items))

pub returns-then-end-first-clause-count : goal.returns-then-end-first-clause-count
returns-then-end-first-clause-count t c =
    let out : (c.args.range.first + 2 ^ c.args.range.level ≤ c.args.start) ⊎ (end_from c.args.start (length c.args.bytes.now) ≤ c.args.range.first) =
    elim c.then-end-first.branch [
      | then-end-first-via-then-end-first w ↦ inr (omega arith)
      | then-end-first-via-else-end-first+then-first-width w ↦ inl (omega arith)
    ] in
    rw (pieces_of-none c.args.start c.args.bytes.now c.args.range.level c.args.range.first out) (elim out [ inl l ↦ omega arith | inr r ↦ omega arith ])

pub returns-then-first-width-2-clause-pieces : goal.returns-then-first-width-2-clause-pieces
returns-then-first-width-2-clause-pieces t c =
    let one = pieces_of-full (chunks_of (part_from c.args.start c.args.bytes.now)) c.args.range.level c.args.range.first
    (full_within c.args.start c.args.bytes.now c.args.range.level c.args.range.first (omega arith) (omega arith)) in
    c.in_ok-push.ensures.items
    ∙ ap (λ (p : Piece). c.args.pieces.now.items ++ p ∷ []) c.piece_of.ensures.piece
    ∙ ap (λ (ps : List Piece). c.args.pieces.now.items ++ ps) (sym one)

pub returns-then-first-width-2-clause-count : goal.returns-then-first-width-2-clause-count
returns-then-first-width-2-clause-count t c =
    let one = pieces_of-full (chunks_of (part_from c.args.start c.args.bytes.now)) c.args.range.level c.args.range.first
    (full_within c.args.start c.args.bytes.now c.args.range.level c.args.range.first (omega arith) (omega arith)) in
    rw one (omega (arith, c.piece_of.ensures.count))

pub push_pieces-requires : goal.push_pieces-requires
push_pieces-requires t c =
    let some : (c.args.range.first < c.args.start) ⊎ (end_from c.args.start (length c.args.bytes.now) < c.args.range.first + c.args.range.width) =
    elim c.else-start-first.branch [
      | else-start-first-via-then-start-first+else-first-width-2 w ↦ inr (omega arith)
      | else-start-first-via-else-start-first w ↦ inl (omega arith)
    ] in
    let h = halved c.args.start (end_from c.args.start (length c.args.bytes.now)) c.args.range.level c.args.range.width c.args.range.first
    c.requires.width.0 (omega arith) (omega arith) some in
    (omega (arith, h.level), ((h.width, h.some, omega (arith, h.twice)), (c.requires.len, (left_aligned c.args.range.level c.args.range.width c.args.range.first c.args.range.first h c.requires.width.0 c.requires.aligned refl, (omega (arith, h.twice), omega arith)))))

pub push_pieces-requires-2 : goal.push_pieces-requires-2
push_pieces-requires-2 t c =
    let some : (c.args.range.first < c.args.start) ⊎ (end_from c.args.start (length c.args.bytes.now) < c.args.range.first + c.args.range.width) =
    elim c.else-start-first.branch [
      | else-start-first-via-then-start-first+else-first-width-2 w ↦ inr (omega arith)
      | else-start-first-via-else-start-first w ↦ inl (omega arith)
    ] in
    let h = halved c.args.start (end_from c.args.start (length c.args.bytes.now)) c.args.range.level c.args.range.width c.args.range.first
    c.requires.width.0 (omega arith) (omega arith) some in
    (omega (arith, h.level), ((h.width, h.some, omega (arith, h.twice)), (c.requires.len, (right_aligned c.args.range.level c.args.range.width c.args.range.first _ h c.requires.width.0 c.requires.aligned refl, (omega (arith, h.twice), omega arith)))))

pub returns-clause-pieces : goal.returns-clause-pieces
returns-clause-pieces t c =
    let some : (c.args.range.first < c.args.start) ⊎ (end_from c.args.start (length c.args.bytes.now) < c.args.range.first + c.args.range.width) =
    elim c.else-start-first.branch [
      | else-start-first-via-then-start-first+else-first-width-2 w ↦ inr (omega arith)
      | else-start-first-via-else-start-first w ↦ inl (omega arith)
    ] in
    let h = halved c.args.start (end_from c.args.start (length c.args.bytes.now)) c.args.range.level c.args.range.width c.args.range.first
    c.requires.width.0 (omega arith) (omega arith) some in
    let b = c.args.bytes.now in
    let two = pieces_of-halved c.args.start b c.args.range.level c.args.range.width c.args.range.first c.requires.width.0 h some in
    let x = chunks_of (part_from c.args.start b) in
    let right = pieces_of x (c.args.range.level - 1) (c.args.range.first + c.args.range.width / 2) in
    c.in_ok-push_pieces-2.ensures.pieces
    ∙ ap (λ (ps : List Piece). ps ++ right) c.in_ok-push_pieces.ensures.pieces
    ∙ append_assoc c.args.pieces.now.items (pieces_of x (c.args.range.level - 1) c.args.range.first) right
    ∙ ap (λ (ps : List Piece). c.args.pieces.now.items ++ ps) (sym two)

pub returns-clause-count : goal.returns-clause-count
returns-clause-count t c =
    let some : (c.args.range.first < c.args.start) ⊎ (end_from c.args.start (length c.args.bytes.now) < c.args.range.first + c.args.range.width) =
    elim c.else-start-first.branch [
      | else-start-first-via-then-start-first+else-first-width-2 w ↦ inr (omega arith)
      | else-start-first-via-else-start-first w ↦ inl (omega arith)
    ] in
    let h = halved c.args.start (end_from c.args.start (length c.args.bytes.now)) c.args.range.level c.args.range.width c.args.range.first
    c.requires.width.0 (omega arith) (omega arith) some in
    let b = c.args.bytes.now in
    let two = pieces_of-halved c.args.start b c.args.range.level c.args.range.width c.args.range.first c.requires.width.0 h some in
    let x = chunks_of (part_from c.args.start b) in
    let left = pieces_of x (c.args.range.level - 1) c.args.range.first in
    let right = pieces_of x (c.args.range.level - 1) (c.args.range.first + c.args.range.width / 2) in
    let work = work_halves c.args.start b (c.args.range.level - 1) c.args.range.first (length left) (length right) refl (ap (λ i. length (pieces_of x (c.args.range.level - 1) (c.args.range.first + i))) h.width) in
    let n = length b in
    let s = c.args.range.first in
    let Adds : ℕ → Type 0 = λ i. part_work (bytes_within c.args.start n s i) (length left) + part_work (bytes_within c.args.start n (s + i) i) (length right)
    ≡ part_work (bytes_within c.args.start n s (i + i)) (length left + length right) in
    let sum = subst Adds (sym h.width) work in
    let pieces : length left + length right ≡ length (pieces_of x c.args.range.level s) = sym (length-append left right) ∙ ap length (sym two) in
    let first = part_work (bytes_within c.args.start n s (c.args.range.width / 2)) (length left) in
    let second = part_work (bytes_within c.args.start n (s + c.args.range.width / 2) (c.args.range.width / 2)) (length right) in
    c.in_ok-push_pieces-2.ensures.count
    ∙ ap (λ m. counted m second) c.in_ok-push_pieces.ensures.count
    ∙ counted_twice c.args.work.now first second
    ∙ ap (counted c.args.work.now) (sum ∙ ap₂ (λ i l. part_work (bytes_within c.args.start n s i) l) (sym h.twice) pieces)
