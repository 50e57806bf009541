use Rattle.std.proofs.Common.{pos, ◌*ℤ◌, ℤ, subst}
use Rattle.roll_table.specs.Rolls.{all_rolls}
use Rattle.cube_actions.specs.Stakes.{kind_at}
use Rattle.turn_rule.specs.Turn.{worth, sum_over}
use Rattle.turn_rule.specs.Looks.{MayFollow}
use Rattle.turn_rule.specs.Found.{IsFound}
use Rattle.column_sums.proofs.Found.{found-sum, all-best}
use Rattle.column_sums.proofs.found_laws.found_ends_give_the_sum.Goals as goal

pub returns : goal.returns
returns c = λ end s stakes noted p k value positive found.
    subst (λ (x : ℤ). IsFound end s noted (MayFollow stakes p k) (pos 36 *ℤ s.bound) (λ u. sum_over all_rolls (worth end (kind_at stakes k) u) p) x) (all-best value p)
    (found-sum end s stakes noted p k value positive found)
