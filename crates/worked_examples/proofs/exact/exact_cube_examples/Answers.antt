-- By computation, roll by roll and sequence by sequence.
use Rattle.std.proofs.Common.{refl}
use Rattle.position_rank.specs.Packed.{counts_of}
use Rattle.roll_table.specs.Rolls.{all_rolls}
use Rattle.move_rules.specs.Ends.{legal_ends, legal_lines, all_lines, lines, lines_from, places, after_move}
use Rattle.turn_rule.specs.Exact.{exact}
use Rattle.worked_examples.proofs.exact.exact_cube_examples.Goals as goal

pub returns-clause-rolling : goal.returns-clause-rolling
unfolding exact all_rolls counts_of legal_ends legal_lines all_lines lines lines_from places after_move
returns-clause-rolling c = refl

pub returns-clause-take : goal.returns-clause-take
unfolding exact all_rolls counts_of legal_ends legal_lines all_lines lines lines_from places after_move
returns-clause-take c = refl

pub returns-clause-double : goal.returns-clause-double
unfolding exact all_rolls counts_of legal_ends legal_lines all_lines lines lines_from places after_move
returns-clause-double c = refl

pub returns-clause-value : goal.returns-clause-value
unfolding exact all_rolls counts_of legal_ends legal_lines all_lines lines lines_from places after_move
returns-clause-value c = refl

pub returns-clause-behind_rolling : goal.returns-clause-behind_rolling
unfolding exact all_rolls counts_of legal_ends legal_lines all_lines lines lines_from places after_move
returns-clause-behind_rolling c = refl

pub returns-clause-behind_take : goal.returns-clause-behind_take
unfolding exact all_rolls counts_of legal_ends legal_lines all_lines lines lines_from places after_move
returns-clause-behind_take c = refl

pub returns-clause-behind_beaver : goal.returns-clause-behind_beaver
unfolding exact all_rolls counts_of legal_ends legal_lines all_lines lines lines_from places after_move
returns-clause-behind_beaver c = refl

pub returns-clause-behind_double : goal.returns-clause-behind_double
unfolding exact all_rolls counts_of legal_ends legal_lines all_lines lines lines_from places after_move
returns-clause-behind_double c = refl

pub returns-clause-behind_value : goal.returns-clause-behind_value
unfolding exact all_rolls counts_of legal_ends legal_lines all_lines lines lines_from places after_move
returns-clause-behind_value c = refl
