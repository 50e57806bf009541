-- A game in progress.
use Rattle.std.specs.Prelude.{ℕ, Bool, true, false, not, ◌&&◌, is_some, is_none, nat_lt, Some, None, if◌then◌else◌}
use Rattle.std.specs.Option.{option_map}
use Rattle.cube_actions.specs.declared.name.MoneyRule.TheVariants.{Cubeless, Jacoby, JacobyBeavers}
use Rattle.cube_actions.specs.Money.{has_beavers}
use Rattle.cube_actions.specs.Scores.{is_crawford}
use Rattle.move_rules.specs.Payoff.{points}
use Rattle.move_rules.specs.declared.payoff.Won.{Won}
use Rattle.move_rules.specs.declared.payoff.Won.TheVariants.{Single, Gammon, Backgammon}
use Rattle.position_rank.specs.Packed.{start_placement}
use Rattle.position_rank.specs.Placement.{Placement, swap}
use Rattle.game_record.specs.declared.cube.Cube.{Cube}
use Rattle.cube_actions.specs.declared.action.Answer.{Answer}
use Rattle.cube_actions.specs.declared.action.Answer.TheVariants.{Take, Pass, Beaver}
use Rattle.game_record.specs.declared.player.Player.{Player}
use Rattle.game_record.specs.declared.progress.Progress.{Progress}
use Rattle.game_record.specs.declared.record.RecordStakes.{RecordStakes}
use Rattle.game_record.specs.declared.record.RecordStakes.TheVariants.{Unlimited, Match}
use Rattle.game_record.specs.declared.standing.Standing.{Standing}
use Rattle.game_record.specs.Cube.{centred, is_free_to, shows, turned}
use Rattle.game_record.specs.Standings.{points_needed}
use Rattle.game_record.specs.Turns.{other_player}

-- the board is set up, and the cube is centred
abbrev pub opening : ℕ → Progress
opening checkers = record {
  position = start_placement checkers;
  cube = centred;
  opened = false;
  doubled = false;
  won = None;
}

-- a play or a pass has ended the game
abbrev pub is_over : Progress → Bool
is_over game = is_some game.won

abbrev pub has_jacoby_rule : RecordStakes → Bool
has_jacoby_rule (Unlimited Jacoby) = true
has_jacoby_rule (Unlimited JacobyBeavers) = true
has_jacoby_rule _ = false

abbrev pub records_beavers : RecordStakes → Bool
records_beavers (Unlimited rule) = has_beavers rule
records_beavers (Match length) = false

abbrev pub won_worth : Won → ℕ
won_worth Single = 1
won_worth Gammon = 2
won_worth Backgammon = 3

-- by the Jacoby rule a gammon and a backgammon count once while the cube is centred
abbrev pub counted : RecordStakes → Cube → Won → ℕ
counted stakes cube won = if has_jacoby_rule stakes && is_none cube.owner then 1 else won_worth won

-- A player's play leaves this. If he has borne off his last checker, he has won. Else it is the other's turn.
abbrev pub game_after_play : RecordStakes → Player → Placement → Progress → Progress
game_after_play stakes player end game = record {
  position = swap end;
  cube = game.cube;
  opened = true;
  doubled = false;
  won = option_map (λ won. record { winner = player; points = counted stakes game.cube won })
      (points end);
}

abbrev pub game_after_double : Progress → Progress
game_after_double game = record game { doubled = true }

-- Who takes owns the cube at twice what it showed, and who beavers at four times. Who passes has lost one point, at what the cube showed.
abbrev pub after_answer : Player → Answer → Progress → Progress
after_answer player Take game = record game { cube = turned game.cube 1 player }
after_answer player Beaver game = record game { cube = turned game.cube 2 player }
after_answer player Pass game =
    record game { won = Some (record { winner = other_player player; points = 1 }) }

-- The right to double: the cube is centred or the player's own. In a match it isn't the Crawford game either, and he needs more points than
-- the cube shows.
abbrev pub has_right : RecordStakes → Standing → Player → Cube → Bool
has_right (Unlimited Cubeless) standing player cube = false
has_right (Match length) standing player cube = not (is_crawford standing.phase)
    && is_free_to player cube.owner && nat_lt (shows cube) (points_needed standing player)
has_right _ standing player cube = is_free_to player cube.owner

-- a player may double after the game's first play, once in a turn, where he has the right
abbrev pub may_double : RecordStakes → Standing → Player → Progress → Bool
may_double stakes standing player game =
    game.opened && not game.doubled && has_right stakes standing player game.cube
