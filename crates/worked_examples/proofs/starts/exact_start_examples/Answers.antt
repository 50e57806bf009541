-- By computation, opening by opening.
use Rattle.std.proofs.Common.{refl}
use Rattle.position_rank.specs.Packed.{counts_of}
use Rattle.roll_table.specs.Rolls.{all_rolls, opening_rolls}
use Rattle.move_rules.specs.Ends.{legal_ends, legal_lines, all_lines, lines, lines_from, places, after_move}
use Rattle.cube_actions.specs.MatchKinds.{match_kinds}
use Rattle.turn_rule.specs.Exact.{exact}
use Rattle.worked_examples.proofs.starts.exact_start_examples.Goals as goal

pub returns : goal.returns
unfolding exact all_rolls opening_rolls counts_of legal_ends legal_lines all_lines lines lines_from places after_move match_kinds
returns c = record { won = refl; one_turn = refl; drawn = refl; payoffs = refl }
