-- What a replay rests on at a line of a record that was read, where the lines before it are by the rules.
use Rattle.std.specs.Prelude.{◌≡◌, ◌≤◌, ℕ, ◌+◌, ◌*◌, List, [], ◌∷◌, Contains}
use Rattle.cube_actions.specs.Ladder.{IsOfMatch}
use Rattle.cube_actions.specs.Names.{names_of}
use Rattle.cube_actions.specs.declared.name.StakesName.{StakesName}
use Rattle.game_record.specs.declared.decision.Decision.{Decision}
use Rattle.game_record.specs.declared.line.Line.{Line}
use Rattle.game_record.specs.declared.line.Line.TheVariants.{Game as GameLine, Acted, Ended}
use Rattle.game_record.specs.declared.moment.Moment.{Moment}
use Rattle.game_record.specs.declared.player.Player.{Player}
use Rattle.game_record.specs.declared.record.RecordStakes.{RecordStakes}
use Rattle.game_record.specs.declared.record.RecordStakes.TheVariants.{Match}
use Rattle.game_record.specs.declared.standing.Standing.{Standing}
use Rattle.game_record.specs.Kinds.{game_needs, game_stakes, kind_of_turn}
use Rattle.game_record.specs.Replay.{Reports}
use Rattle.game_record.specs.Standings.{at_score, IsInRange}

-- this holds of a match's length, where the stakes are one
abbrev pub IfMatch : RecordStakes → (ℕ → Type 0) → Type 0
IfMatch (Match length) fact = fact length
IfMatch _ fact = Unit {0}

-- in a match, of one to five points, the score is one of it
abbrev pub HasStanding : RecordStakes → Standing → Type 0
HasStanding stakes standing =
    IfMatch stakes (λ length. (1 ≤ length) × (length ≤ 5) × IsOfMatch length (at_score standing))

-- what some lines say fits where they stand
abbrev pub FitsMoment : Moment → Line → Type 0
FitsMoment now (GameLine number away) = (number ≡ now.game + 1)
    × (away ≡ game_needs now.stakes now.standing → HasStanding now.stakes now.standing)
FitsMoment now (Acted action) = HasStanding now.stakes now.standing
FitsMoment now (Ended winner points) = points ≤ 3
FitsMoment now _ = Unit {0}

-- the number of checkers and the needs are in range, the place of the cube has a kind for either player, and no count is large
pub record IsSetFor (now : Moment) (line : Line) : Type 0 where
  pub checkers_from : 1 ≤ now.checkers
  pub checkers_to : now.checkers ≤ 3
  pub standing : IsInRange now.standing
  pub kinds : (player : Player)
      → Contains (names_of (game_stakes now.stakes now.standing))
      (kind_of_turn now.stakes now.standing player now.progress.cube)
  pub few_turns : IfMatch now.stakes (λ length. now.progress.cube.turns ≤ 3)
  pub turns : now.progress.cube.turns ≤ 2 * now.line
  pub lines : now.line ≤ 65536
  pub games : now.game ≤ now.line
  pub fits : FitsMoment now line

-- what is decided now can be told, where the game's stakes have this name
pub record CanTell (now : Moment) (name : StakesName) : Type 0 where
  pub named : name ≡ game_stakes now.stakes now.standing
  pub score : HasStanding now.stakes now.standing
  pub few_turns : IfMatch now.stakes (λ length. now.progress.cube.turns ≤ 3)
  pub kinds : (player : Player)
      → Contains (names_of name) (kind_of_turn now.stakes now.standing player now.progress.cube)

-- each of these lines is ready where those before it are by the rules
abbrev pub AreLinesReady : Moment → List Line → Type 0
AreLinesReady now [] = Unit {0}
AreLinesReady now (line ∷ lines) = IsSetFor now line
    × ((here : List Decision) (next : Moment) → Reports now line here next
    → AreLinesReady next lines)
