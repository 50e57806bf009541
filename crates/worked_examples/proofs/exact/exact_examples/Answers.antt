-- By computation, roll by roll and sequence by sequence.
use Rattle.std.proofs.Common.{refl}
use Rattle.position_rank.specs.Packed.{counts_of}
use Rattle.roll_table.specs.Rolls.{all_rolls}
use Rattle.move_rules.specs.Ends.{legal_ends, legal_lines, all_lines, lines, lines_from, places, after_move}
use Rattle.turn_rule.specs.Exact.{exact}
use Rattle.worked_examples.proofs.exact.exact_examples.Goals as goal

pub returns-clause-one_roll_ahead : goal.returns-clause-one_roll_ahead
unfolding exact all_rolls counts_of legal_ends legal_lines all_lines lines lines_from places after_move
returns-clause-one_roll_ahead c = refl

pub returns-clause-both_rolls_ahead : goal.returns-clause-both_rolls_ahead
unfolding exact all_rolls counts_of legal_ends legal_lines all_lines lines lines_from places after_move
returns-clause-both_rolls_ahead c = refl

pub returns-clause-single_wins : goal.returns-clause-single_wins
unfolding exact all_rolls counts_of legal_ends legal_lines all_lines lines lines_from places after_move
returns-clause-single_wins c = refl

pub returns-clause-unfinished_is_lost : goal.returns-clause-unfinished_is_lost
unfolding exact all_rolls counts_of legal_ends legal_lines all_lines lines lines_from places after_move
returns-clause-unfinished_is_lost c = refl

pub returns-clause-unfinished_is_won : goal.returns-clause-unfinished_is_won
unfolding exact all_rolls counts_of legal_ends legal_lines all_lines lines lines_from places after_move
returns-clause-unfinished_is_won c = refl

pub returns-clause-cut_off_at_once : goal.returns-clause-cut_off_at_once
unfolding exact
returns-clause-cut_off_at_once c = λ p k. refl
