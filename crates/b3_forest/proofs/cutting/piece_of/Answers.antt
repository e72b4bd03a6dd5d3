use Rattle.std.proofs.Common.{◌≡◌, ℕ, List, ◌-◌, ◌*◌, ◌^◌, min, length, take, drop, arith, ap, ap₂, sym, ◌∙◌}
use Rattle.std.proofs.lemmas.List.{take_min, length-drop, length-take-le}
use Rattle.b3_core.specs.Modes.{hash_mode}
use Rattle.b3_core.specs.Tree.{ModelTop, ModelMode, tree_top}
use Rattle.b3_forest.proofs.Ranges.{content_within}
use Rattle.b3_forest.specs.declared.piece.Piece.{Piece}
use Rattle.b3_forest.proofs.cutting.piece_of.Goals as goal

-- one number and one mode, one top
same_top : (x : List ℕ) (c d : ℕ) (p q : ModelMode) → c ≡ d → p ≡ q → tree_top x c p ≡ tree_top x d q
same_top x c d p q number mode = ap₂ (λ (i : ℕ) (m : ModelMode). tree_top x i m) number mode

pub returns-clause-piece : goal.returns-clause-piece
returns-clause-piece c =
    let b = c.args.bytes.now in
    let w = c.requires.width.0 in
    let skip = (c.args.range.first - c.args.start) * 1024 in
    let n = 1024 * 2 ^ c.args.range.level in
    let rest : length (drop skip b) ≡ length b - skip = length-drop skip b in
    let count : c.min-end.result - skip ≡ min n (length (drop skip b)) = omega arith in
    let place : skip ≡ 1024 * (c.args.range.first - c.args.start) = omega arith in
    let content = content_within c.args.start b c.args.range.level c.args.range.first (omega arith) (omega arith) in
    let bytes : take (c.min-end.result - skip) (drop skip b) ≡ take n (drop (1024 * (c.args.range.first - c.args.start)) b) =
    ap (λ i. take i (drop skip b)) count ∙ take_min n (drop skip b) ∙ ap (λ i. take n (drop i b)) place in
    let top = c.of_subtree-top.ensures.node
    ∙ same_top _ _ c.args.range.first _ hash_mode (omega arith) c.hash.ensures
    ∙ ap (λ (x : List ℕ). tree_top x c.args.range.first hash_mode) (bytes ∙ sym content) in
    let Made : ModelTop → Piece = λ t. record { first = c.args.range.first; level = c.args.range.level; top = t } in
    ap Made top

pub of_subtree-top-requires : goal.of_subtree-top-requires
of_subtree-top-requires c =
    let b = c.args.bytes.now in
    let skip = (c.args.range.first - c.args.start) * 1024 in
    let rest : length (drop skip b) ≡ length b - skip = length-drop skip b in
    let len : length (take (c.min-end.result - skip) (drop skip b)) ≡ c.min-end.result - skip = length-take-le (c.min-end.result - skip) (drop skip b) (omega arith) in
    let (q, at) = c.requires.aligned in
    record {
      subtree = ((λ none. absurd (omega (arith, none, len))), c.args.range.level, q, omega (arith, len), omega (arith, at));
      number = omega (arith, len);
    }
