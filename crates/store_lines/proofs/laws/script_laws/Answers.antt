use Rattle.store_lines.proofs.Lengths.{long_is_none}
use Rattle.store_lines.proofs.Patterns.{pattern_is}
use Rattle.store_lines.proofs.Read.{again, found}
use Rattle.store_lines.proofs.Words.{words_are_known}
use Rattle.store_lines.proofs.laws.script_laws.Goals as goal

pub returns-clause-found : goal.returns-clause-found
returns-clause-found c = found

pub returns-clause-only : goal.returns-clause-only
returns-clause-only c = again

pub returns-clause-pattern : goal.returns-clause-pattern
returns-clause-pattern c = pattern_is

pub returns-clause-long : goal.returns-clause-long
returns-clause-long c = long_is_none

pub returns-clause-words : goal.returns-clause-words
returns-clause-words c = words_are_known
