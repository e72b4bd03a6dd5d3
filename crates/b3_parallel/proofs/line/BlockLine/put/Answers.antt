use Rattle.std.proofs.Common.{◌≡◌, ◌*◌, ◌/◌, ◌^◌, ◌++◌, ◌∷◌, ◌∙◌, List, [], length, arith, ap, rules, ℕ}
use Rattle.b3_core.specs.Tree.{ModelMode, ModelTop}
use Rattle.b3_parallel.specs.inner.Blocks.{IsHashed}
use Rattle.b3_parallel.proofs.Carrying.{few_bytes, hashed_as, thread_carries}
use Rattle.b3_parallel.proofs.line.BlockLine.put.Goals as goal

-- a block after all bytes
at_end : (p mode : ModelMode) (mine x : List ℕ) (place level chunks : ℕ) (top : ModelTop) (own : ℕ) → chunks ≡ 2 ^ level → mode ≡ p → length x ≡ 1024 * (place * 2 ^ level)
    → IsHashed mode mine (place * chunks) top own → IsHashed p mine (length x / 1024) top own
at_end p mode mine x place level chunks top own size same len hashed =
    hashed_as p mode mine (length x / 1024) (place * chunks) top own hashed (omega (arith, len, ap (λ m. place * m) size)) same

pub returns-then-is_err-clause-carries : goal.returns-then-is_err-clause-carries
returns-then-is_err-clause-carries g c p x is len =
    let mine = c.args.bytes.items in
    let k = c.args.self.now.level in
    let block = c.hash_block-block.result in
    c.put_hashed.ensures.carries p x mine (rw c.reserve.ensures.items is) c.requires.len
    (at_end p c.mode-mode.result mine x c.args.place k c.chunks_of.result block.top block.work c.chunks_of.ensures.value (c.mode-mode.ensures ∙ is.3.0) len c.hash_block-block.ensures)
    (few_bytes (length x) c.args.place (2 ^ k) (length mine) len c.requires.len c.requires.place)

pub returns-in-Ok-clause-carries : goal.returns-in-Ok-clause-carries
returns-in-Ok-clause-carries g c p x is len =
    let mine = c.args.bytes.items in
    let k = c.args.self.now.level in
    let front = c.args.self.now.front in
    let t = c.in-Ok.handle in
    let made : (t.promise.bytes.value.items ≡ mine) × (t.promise.number ≡ c.args.place * c.chunks_of.result) × (t.promise.mode ≡ c.mode-mode.result) = search (rules, c.in-Ok.ensures) in
    let items : c.push_back_reserved.new.self.items ≡ c.args.self.now.handles.items ++ t ∷ [] = search (rules, c.push_back_reserved.ensures, c.reserve.ensures) in
    rw items
    (thread_carries p k front c.args.self.now.handles.items x mine (c.args.place * 2 ^ k) t is c.requires.len len made.0 (made.1 ∙ ap (λ m. c.args.place * m) c.chunks_of.ensures.value) (made.2 ∙ c.mode-mode.ensures))

pub returns-in-Err-clause-carries : goal.returns-in-Err-clause-carries
returns-in-Err-clause-carries g c p x is len =
    let mine = c.args.bytes.items in
    let k = c.args.self.now.level in
    let block = c.in-Err.block in
    let hashed : IsHashed c.mode-mode.result mine (c.args.place * c.chunks_of.result) block.top block.work = search (rules, c.in-Err.ensures) in
    c.put_hashed-in-Err.ensures.carries p x mine (rw c.reserve.ensures.items is) c.requires.len
    (at_end p c.mode-mode.result mine x c.args.place k c.chunks_of.result block.top block.work c.chunks_of.ensures.value (c.mode-mode.ensures ∙ is.3.0) len hashed)
    (few_bytes (length x) c.args.place (2 ^ k) (length mine) len c.requires.len c.requires.place)
