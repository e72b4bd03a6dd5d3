use Rattle.std.proofs.Common.{◌∙◌, ap}
use Rattle.b3_core.specs.Tree.{chaining_value_of}
use Rattle.b3_c.specs.Modes.{tree_mode}
use Rattle.b3_c.proofs.Parents.{parent_is, parent_value}
use Rattle.b3_c.proofs.nodes.b3_parent.Goals as goal

pub returns-clause-value : goal.returns-clause-value
returns-clause-value c done =
    c.copy_from_slice.ensures.after
    ∙ parent_value c.args.left.words c.args.right.words c.parent_words-words.result (tree_mode c.args.key.now) c.parent_words-words.ensures.words

pub returns-clause-parent : goal.returns-clause-parent
returns-clause-parent c l r is_left is_right done =
    returns-clause-value c done
    ∙ ap chaining_value_of (parent_is l r c.args.left.words c.args.right.words (tree_mode c.args.key.now) is_left is_right)
