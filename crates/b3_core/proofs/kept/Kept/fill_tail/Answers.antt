use Rattle.std.proofs.Common.{◌≡◌, ◌^◌, ◌/◌, ◌<◌, ℕ, ◌∷◌, ◌++◌, List, [], length, arith, refl, ap, sym, ◌∙◌, rules, length-append}
use Rattle.b3_core.specs.Hashers.{ModelHasher, CountsRest, kept_work}
use Rattle.b3_core.specs.Kept.{kept_of, tail_of}
use Rattle.b3_core.specs.Tree.{chunk_top}
use Rattle.b3_core.proofs.Hashings.{holds_filled, makes_then, next_filled}
use Rattle.b3_core.proofs.kept.Kept.fill_tail.Goals as goal

-- the hasher before the call, and after it
abbrev old : goal.After-put → ModelHasher
old c = kept_of c.args.mode.now c.args.self.now

abbrev new : goal.After-put → ModelHasher
new c = kept_of c.args.mode.now c.put.new.self

-- the bytes that fill up the chunk
abbrev front : goal.After-put → List ℕ
front c = c.split_at.result.0.now

cut : (c : goal.After-put) → c.args.bytes.now ≡ front c ++ c.split_at.result.1.now
cut c = search (rules, c.split_at.ensures)

chunk : (c : goal.After-put) → c.as_slice.result.now ≡ (old c).tail ++ front c
chunk c = c.as_slice.ensures.value ∙ c.extend.ensures.bytes (omega (arith, c.split_at.ensures, c.min.ensures, c.room-room.ensures))

whole_chunk : (c : goal.After-put) → length c.as_slice.result.now ≡ 1024
whole_chunk c = search (rules, c.as_slice.ensures, c.is_full.ensures, c.if-is_full)

pub returns-then-is_full-clause-bytes : goal.returns-then-is_full-clause-bytes
returns-then-is_full-clause-bytes c x is less =
    let top = c.of_chunk-top.result in
    let same = cut c in
    let len : length ((old c).tail ++ front c) ≡ 1024 = ap length (sym (chunk c)) ∙ whole_chunk c in
    let few : length (x ++ front c) < 2 ^ 64 = omega (arith, less, ap length same, length-append x (front c), length-append (front c) c.split_at.result.1.now) in
    let node : top ≡ chunk_top ((old c).tail ++ front c) ((old c).whole / 1024) (old c).mode = search (rules, c.of_chunk-top.ensures, c.number.ensures, chunk c) in
    let next = next_filled (old c) top x (front c) is len node in
    let empty : (new c).tail ≡ [] = ap tail_of c.put.ensures.tail ∙ c.clear.ensures.bytes in
    let made = c.put.ensures.count (x ++ front c) next few in
    let are = c.put.ensures.nodes (x ++ front c) next few in
    let count : CountsRest (kept_work (old c).subtrees) (kept_work ((0, top) ∷ (old c).subtrees)) c.args.work.now c.of_chunk-top.new.work = (15, refl, omega (arith, c.of_chunk-top.ensures.count, whole_chunk c)) in (
      front c,
      same,
      holds_filled (old c) (new c) top x (front c) is len refl empty c.put.ensures.whole few are,
      (λ _. empty),
      makes_then (kept_work (old c).subtrees) (kept_work ((0, top) ∷ (old c).subtrees)) (kept_work (new c).subtrees) c.args.work.now c.of_chunk-top.new.work c.put.new.work count made,
    )
