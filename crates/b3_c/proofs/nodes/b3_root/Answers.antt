use Rattle.std.proofs.Common.{◌∙◌, ap}
use Rattle.b3_core.specs.ExtendedOutput.{output_of}
use Rattle.b3_core.specs.Tree.{ModelTop}
use Rattle.b3_c.specs.Modes.{tree_mode}
use Rattle.b3_c.proofs.Parents.{parent_is, root_bytes}
use Rattle.b3_c.proofs.nodes.b3_root.Goals as goal

pub returns-clause-bytes : goal.returns-clause-bytes
returns-clause-bytes c done =
    c.copy_from_slice.ensures.after
    ∙ root_bytes c.args.left.words c.args.right.words c.parent_words-words.result c.first_bytes.result (tree_mode c.args.key.now)
    c.parent_words-words.ensures.words c.first_bytes.ensures

pub returns-clause-parent : goal.returns-clause-parent
returns-clause-parent c l r is_left is_right done =
    returns-clause-bytes c done
    ∙ ap (λ (n : ModelTop). output_of n 0 32)
    (parent_is l r c.args.left.words c.args.right.words (tree_mode c.args.key.now) is_left is_right)
