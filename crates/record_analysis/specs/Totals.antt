-- What the decisions of a player lose together.
use Rattle.std.specs.Prelude.{◌≡◌, ◌≤◌, ◌*◌, ℤ, pos, ◌+ℤ◌, ◌≤ℤ◌, List, [], ◌∷◌, length, Option, None, filter_map, if◌then◌else◌}
use Rattle.directed_fixed.specs.Bounds.{Bounds}
use Rattle.cube_actions.specs.Stakes.{point_units}
use Rattle.game_record.specs.declared.player.Player.{Player}
use Rattle.game_record.specs.Turns.{same_player}
use Rattle.play_analyser.specs.Losses.{lower_ends, upper_ends}
use Rattle.record_analysis.specs.declared.analysis.Judged.{Judged}
use Rattle.record_analysis.specs.declared.total.Total.{Total}

-- the loss of a decision of this player, where it was judged
abbrev pub loss_by : Player → Judged → Option Bounds
loss_by player judged = if same_player judged.decision.player player then judged.loss else None

-- the losses of a player's decisions that were judged, in their order
abbrev pub losses_by : Player → List Judged → List Bounds
losses_by player list = filter_map (loss_by player) list

abbrev pub sum_of : List ℤ → ℤ
sum_of [] = pos 0
sum_of (value ∷ values) = value +ℤ sum_of values

-- how many losses there are, the sum of their lower ends and the sum of their upper ends
abbrev pub total_of : List Bounds → Total
total_of pairs = record {
  decisions = length pairs;
  lower = sum_of (lower_ends pairs);
  upper = sum_of (upper_ends pairs);
}

-- from 0 to 24 points for each decision, the lower sum at most the upper one
pub record IsSmallTotal (total : Total) : Type 0 where
  pub few : total.decisions ≤ 131072
  pub from : pos 0 ≤ℤ total.lower
  pub in_order : total.lower ≤ℤ total.upper
  pub to : total.upper ≤ℤ point_units (24 * total.decisions)

-- as many decisions, and sums that are known at least as well
pub record IsNoLooserTotal (one other : Total) : Type 0 where
  pub decisions : one.decisions ≡ other.decisions
  pub lower : other.lower ≤ℤ one.lower
  pub upper : one.upper ≤ℤ other.upper
