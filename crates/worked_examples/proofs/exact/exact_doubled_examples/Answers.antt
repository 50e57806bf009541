-- By computation, roll by roll and sequence by sequence.
use Rattle.std.proofs.Common.{refl}
use Rattle.position_rank.specs.Packed.{counts_of}
use Rattle.roll_table.specs.Rolls.{all_rolls}
use Rattle.move_rules.specs.Ends.{legal_ends, legal_lines, all_lines, lines, lines_from, places, after_move}
use Rattle.turn_rule.specs.Exact.{exact}
use Rattle.worked_examples.proofs.exact.exact_doubled_examples.Goals as goal

pub returns-clause-passed : goal.returns-clause-passed
unfolding exact all_rolls counts_of legal_ends legal_lines all_lines lines lines_from places after_move
returns-clause-passed c = refl

pub returns-clause-taken : goal.returns-clause-taken
unfolding exact all_rolls counts_of legal_ends legal_lines all_lines lines lines_from places after_move
returns-clause-taken c = refl

pub returns-clause-not_doubled : goal.returns-clause-not_doubled
unfolding exact all_rolls counts_of legal_ends legal_lines all_lines lines lines_from places after_move
returns-clause-not_doubled c = refl
