use Rattle.std.proofs.Common.{refl}
use Rattle.std.specs.Fmt.{digits}
use Rattle.position_rank.specs.Packed.{counts_of}
use Rattle.race_table.specs.Races.{pips_of}
use Rattle.position_board.specs.Boards.{board_text, cell, lower_half, lower_row, off_mark, upper_half, upper_row}
use Rattle.position_board.proofs.laws.boards_are_as_drawn.Goals as goal

pub returns-clause-start : goal.returns-clause-start
unfolding board_text upper_half lower_half upper_row lower_row cell off_mark counts_of pips_of digits
returns-clause-start c = refl

pub returns-clause-entering : goal.returns-clause-entering
unfolding board_text upper_half lower_half upper_row lower_row cell off_mark counts_of pips_of digits
returns-clause-entering c = refl

pub returns-clause-hit : goal.returns-clause-hit
unfolding board_text upper_half lower_half upper_row lower_row cell off_mark counts_of pips_of digits
returns-clause-hit c = refl
