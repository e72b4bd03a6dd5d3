use Rattle.std.proofs.Common.{rules, ◌≡◌, ◌∙◌, ◌+◌, ◌%◌, ◌++◌, ◌∷◌, [], ap, sym}
use Rattle.store_lines.specs.Grammar.{pattern_of}
use Rattle.store_lines.proofs.Patterns.{pattern_more}
use Rattle.store_lines.proofs.parsing.pattern.Goals as goal

pub loop-i-init : goal.loop-i-init
unfolding pattern_of
loop-i-init c = search rules

pub loop-i-preserved : goal.loop-i-preserved
loop-i-preserved c =
    let pushed : c.push.new.self.items ≡ c.loop-i.bytes.items ++ ((c.args.offset % 251 + c.loop-i.i) % 251) ∷ [] = search rules in
    pushed ∙ ap (λ bytes. bytes ++ ((c.args.offset % 251 + c.loop-i.i) % 251) ∷ []) c.loop-i.invariant ∙ sym (pattern_more c.args.offset c.loop-i.i)
