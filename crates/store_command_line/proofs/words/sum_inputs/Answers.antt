use Rattle.std.proofs.Common.{rules, ◌≡◌, Some, codes, map}
use Rattle.clap.specs.Words.{all_of, first_of, found_of, one_of, rows_of}
use Rattle.store_command_line.proofs.Found.{only_named}
use Rattle.store_command_line.proofs.words.sum_inputs.Goals as goal

pub returns-in-Some-None-None-clause-only : goal.returns-in-Some-None-None-clause-only
returns-in-Some-None-None-clause-only c = λ i says named.
    let rows = rows_of (found_of c.args.found.now) in
    let texts = c.in-Some-None-None.files.now in
    let files : all_of (codes "file") rows ≡ Some (map (λ t. t.now) texts) = search rules in
    only_named i (all_of (codes "file") rows) (first_of (codes "name") rows) (first_of (codes "files-from") rows) (one_of (codes "null") rows) texts _ files says named c.named_inputs.ensures.only
