-- The kind of state in a game, and its number.
use Rattle.std.specs.Prelude.{ℕ, Option, Some, None, if◌then◌else◌}
use Rattle.std.specs.List.{position_or_len}
use Rattle.std.specs.Option.{option_map}
use Rattle.cube_actions.specs.Names.{names_of, same_name}
use Rattle.cube_actions.specs.Scores.{MatchScore}
use Rattle.cube_actions.specs.declared.name.KindName.{KindName}
use Rattle.cube_actions.specs.declared.name.KindName.TheVariants.{Alone, Centred, Mine, Theirs, InMatch}
use Rattle.cube_actions.specs.declared.name.MoneyRule.TheVariants.{Cubeless}
use Rattle.cube_actions.specs.declared.name.StakesName.{StakesName}
use Rattle.cube_actions.specs.declared.name.StakesName.TheVariants as game
use Rattle.game_record.specs.declared.cube.Cube.{Cube}
use Rattle.game_record.specs.declared.player.Player.{Player}
use Rattle.game_record.specs.declared.record.RecordStakes.{RecordStakes}
use Rattle.game_record.specs.declared.record.RecordStakes.TheVariants.{Unlimited, Match}
use Rattle.game_record.specs.declared.standing.Standing.{Standing}
use Rattle.game_record.specs.Cube.{shows}
use Rattle.game_record.specs.Standings.{at_score, side_of}
use Rattle.game_record.specs.Turns.{same_player}

-- the score of a game, which only a match has
abbrev pub game_score : RecordStakes → Standing → Option MatchScore
game_score (Match length) standing = Some (at_score standing)
game_score _ standing = None

-- the points that A and B still need, as a game's line has them
abbrev pub game_needs : RecordStakes → Standing → Option (ℕ × ℕ)
game_needs (Match length) standing = Some (standing.a, standing.b)
game_needs _ standing = None

-- what a game with this score is played for; in a match each game has one
abbrev pub stakes_at : RecordStakes → Option MatchScore → StakesName
stakes_at (Unlimited rule) score = game.Unlimited rule
stakes_at (Match length) (Some score) = game.Match score
stakes_at (Match length) None = game.Unlimited Cubeless

abbrev pub game_stakes : RecordStakes → Standing → StakesName
game_stakes stakes standing = stakes_at stakes (game_score stakes standing)

-- whose cube it is, as a player sees it
abbrev pub money_kind : Player → Option Player → KindName
money_kind player None = Centred
money_kind player (Some owner) = if same_player owner player then Mine else Theirs

-- the kind of state where it is this player's turn
abbrev pub kind_of_turn : RecordStakes → Standing → Player → Cube → KindName
kind_of_turn (Unlimited Cubeless) standing player cube = Alone
kind_of_turn (Match length) standing player cube =
    InMatch (side_of standing player) (shows cube) (option_map (side_of standing) cube.owner)
kind_of_turn _ standing player cube = money_kind player cube.owner

-- the number of a kind, by its place among those of the stakes
abbrev pub kind_number : StakesName → KindName → ℕ
kind_number stakes name = position_or_len (same_name name) (names_of stakes)
