-- How a match stands, game after game.
use Rattle.std.specs.Prelude.{◌≤◌, ℕ, ◌-◌, ◌==◌, nat_le, min, max, if◌then◌else◌}
use Rattle.cube_actions.specs.declared.phase.Phase.{Phase}
use Rattle.cube_actions.specs.declared.phase.Phase.TheVariants.{Normal, Post}
use Rattle.cube_actions.specs.declared.side.Side.{Side}
use Rattle.cube_actions.specs.declared.side.Side.TheVariants.{Near, Far}
use Rattle.cube_actions.specs.Matches.{next_phase}
use Rattle.cube_actions.specs.Scores.{MatchScore}
use Rattle.game_record.specs.declared.player.Player.{Player}
use Rattle.game_record.specs.declared.player.Player.TheVariants.{A, B}
use Rattle.game_record.specs.declared.record.RecordStakes.{RecordStakes}
use Rattle.game_record.specs.declared.record.RecordStakes.TheVariants.{Match}
use Rattle.game_record.specs.declared.standing.Standing.{Standing}
use Rattle.game_record.specs.Turns.{same_player}

-- A and B need so many points
abbrev pub standing_at : ℕ → ℕ → Phase → Standing
standing_at a b phase = record { a = a; b = b; phase = phase }

-- As the first game begins, both need the length of the match. In a match of one point no game is the Crawford game. For money nothing is
-- needed.
abbrev pub first_standing : RecordStakes → Standing
first_standing (Match points) = record {
  a = points;
  b = points;
  phase = if points == 1 then Post else Normal;
}
first_standing _ = record { a = 0; b = 0; phase = Normal }

-- how many points a player still needs
abbrev pub points_needed : Standing → Player → ℕ
points_needed standing A = standing.a
points_needed standing B = standing.b

abbrev pub at_score : Standing → MatchScore
at_score standing = record {
  near = min standing.a standing.b;
  far = max standing.a standing.b;
  phase = standing.phase;
}

-- A is near where A needs at most what B needs
abbrev pub near_player : Standing → Player
near_player standing = if nat_le standing.a standing.b then A else B

abbrev pub side_of : Standing → Player → Side
side_of standing player = if same_player player (near_player standing) then Near else Far

-- after a player has won so many points: what he needs falls by them, and the phase follows from what is needed
abbrev pub standing_after_win : Standing → Player → ℕ → Standing
standing_after_win standing A won = record {
  a = standing.a - won;
  b = standing.b;
  phase = next_phase standing.phase (standing.a - won) standing.b;
}
standing_after_win standing B won = record {
  a = standing.a;
  b = standing.b - won;
  phase = next_phase standing.phase standing.a (standing.b - won);
}

-- nobody needs more than five points
abbrev pub IsInRange : Standing → Type 0
IsInRange standing = (standing.a ≤ 5) × (standing.b ≤ 5)
