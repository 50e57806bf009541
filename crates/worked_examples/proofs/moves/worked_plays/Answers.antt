-- By computation.
use Rattle.std.proofs.Common.{refl}
use Rattle.position_rank.specs.Packed.{counts_of}
use Rattle.move_rules.specs.Ends.{legal_ends, legal_lines, all_lines, lines, lines_from, places, after_move}
use Rattle.worked_examples.proofs.moves.worked_plays.Goals as goal

pub returns-clause-both_dice_are_used : goal.returns-clause-both_dice_are_used
unfolding counts_of legal_ends legal_lines all_lines lines lines_from places after_move
returns-clause-both_dice_are_used c = refl

pub returns-clause-only_in_this_order : goal.returns-clause-only_in_this_order
unfolding counts_of legal_ends legal_lines all_lines lines lines_from places after_move
returns-clause-only_in_this_order c = refl

pub returns-clause-either_but_not_both : goal.returns-clause-either_but_not_both
unfolding counts_of legal_ends legal_lines all_lines lines lines_from places after_move
returns-clause-either_but_not_both c = refl

pub returns-clause-lower_where_the_higher_cannot : goal.returns-clause-lower_where_the_higher_cannot
unfolding counts_of legal_ends legal_lines all_lines lines lines_from places after_move
returns-clause-lower_where_the_higher_cannot c = refl

pub returns-clause-shut_out : goal.returns-clause-shut_out
unfolding counts_of legal_ends legal_lines all_lines lines lines_from places after_move
returns-clause-shut_out c = refl

pub returns-clause-last_checker_by_the_higher : goal.returns-clause-last_checker_by_the_higher
unfolding counts_of legal_ends legal_lines all_lines lines lines_from places after_move
returns-clause-last_checker_by_the_higher c = refl

pub returns-clause-bar_enters_first : goal.returns-clause-bar_enters_first
unfolding counts_of legal_ends legal_lines all_lines lines lines_from places after_move
returns-clause-bar_enters_first c = refl

pub returns-clause-four_moves : goal.returns-clause-four_moves
unfolding counts_of legal_ends legal_lines all_lines lines lines_from places after_move
returns-clause-four_moves c = refl

pub returns-clause-as_many_as_can_be : goal.returns-clause-as_many_as_can_be
unfolding counts_of legal_ends legal_lines all_lines lines lines_from places after_move
returns-clause-as_many_as_can_be c = refl
