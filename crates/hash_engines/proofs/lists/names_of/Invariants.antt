use Rattle.std.proofs.Common.{◌≡◌, map, take}
use Rattle.hash_engines.proofs.lists.names_of.Given as goal

abbrev pub invariant-loop-word : goal.invariant-loop-word
invariant-loop-word l = l.names.items ≡ map (λ word. word.now) (take l.word-index l.words)
