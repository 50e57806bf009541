-- By computation, roll by roll and sequence by sequence.
use Rattle.std.proofs.Common.{refl}
use Rattle.position_rank.specs.Packed.{counts_of}
use Rattle.roll_table.specs.Rolls.{all_rolls}
use Rattle.move_rules.specs.Ends.{legal_ends, legal_lines, all_lines, lines, lines_from, places, after_move}
use Rattle.turn_rule.specs.Turn.{turn, rounds}
use Rattle.worked_examples.proofs.turns.doubled_examples.Goals as goal

pub returns-clause-passed : goal.returns-clause-passed
unfolding rounds turn all_rolls counts_of legal_ends legal_lines all_lines lines lines_from places after_move
returns-clause-passed c = refl

pub returns-clause-taken : goal.returns-clause-taken
unfolding rounds turn all_rolls counts_of legal_ends legal_lines all_lines lines lines_from places after_move
returns-clause-taken c = refl

pub returns-clause-not_doubled : goal.returns-clause-not_doubled
unfolding rounds turn all_rolls counts_of legal_ends legal_lines all_lines lines lines_from places after_move
returns-clause-not_doubled c = refl
