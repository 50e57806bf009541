-- By computation, roll by roll and sequence by sequence.
use Rattle.std.proofs.Common.{refl}
use Rattle.position_rank.specs.Packed.{counts_of}
use Rattle.roll_table.specs.Rolls.{all_rolls}
use Rattle.move_rules.specs.Ends.{legal_ends, legal_lines, all_lines, lines, lines_from, places, after_move}
use Rattle.turn_rule.specs.Turn.{turn, rounds}
use Rattle.worked_examples.proofs.turns.worked_turns.Goals as goal

pub returns-clause-sure_gammon : goal.returns-clause-sure_gammon
unfolding rounds turn all_rolls counts_of legal_ends legal_lines all_lines lines lines_from places after_move
returns-clause-sure_gammon c = refl

pub returns-clause-sure_backgammon : goal.returns-clause-sure_backgammon
unfolding rounds turn all_rolls counts_of legal_ends legal_lines all_lines lines lines_from places after_move
returns-clause-sure_backgammon c = refl

pub returns-clause-only_double_sixes : goal.returns-clause-only_double_sixes
unfolding rounds turn all_rolls counts_of legal_ends legal_lines all_lines lines lines_from places after_move
returns-clause-only_double_sixes c = refl

pub returns-clause-one_roll_ahead : goal.returns-clause-one_roll_ahead
unfolding rounds turn all_rolls counts_of legal_ends legal_lines all_lines lines lines_from places after_move
returns-clause-one_roll_ahead c = refl

pub returns-clause-both_rolls_ahead : goal.returns-clause-both_rolls_ahead
unfolding rounds turn all_rolls counts_of legal_ends legal_lines all_lines lines lines_from places after_move
returns-clause-both_rolls_ahead c = refl

pub returns-clause-rounded_outwards : goal.returns-clause-rounded_outwards
unfolding rounds turn all_rolls counts_of legal_ends legal_lines all_lines lines lines_from places after_move
returns-clause-rounded_outwards c = refl
