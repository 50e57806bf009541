-- What each decision of a replay can be relied on for.
use Rattle.std.specs.Prelude.{◌≡◌, ◌<◌, ◌≤◌, length, sum, Option, Some, None, IsSome, IfSome}
use Rattle.cube_actions.specs.Ladder.{IsOfMatch}
use Rattle.cube_actions.specs.Matches.{stakes_named}
use Rattle.cube_actions.specs.Scores.{MatchScore}
use Rattle.cube_actions.specs.Stakes.{kind_at}
use Rattle.cube_actions.specs.Starts.{StartPairs}
use Rattle.cube_actions.specs.declared.kind.Double.{Double}
use Rattle.cube_actions.specs.declared.kind.Kind.{Kind}
use Rattle.move_rules.specs.Sequences.{IsLegalEnd}
use Rattle.position_rank.specs.Placement.{Placement, IsLive, IsPosition}
use Rattle.roll_table.specs.Rolls.{IsRoll}
use Rattle.cube_actions.specs.declared.action.Answer.{Answer}
use Rattle.cube_actions.specs.declared.action.Answer.TheVariants.{Take, Pass, Beaver}
use Rattle.turn_rule.specs.declared.choice.Choice.{Choice}
use Rattle.turn_rule.specs.declared.choice.Choice.TheVariants.{Played, Offered, Answered}
use Rattle.game_record.specs.declared.decision.Decision.{Decision}
use Rattle.game_record.specs.declared.record.Record.{Record}
use Rattle.game_record.specs.declared.record.RecordStakes.{RecordStakes}
use Rattle.game_record.specs.declared.record.RecordStakes.TheVariants.{Match}
use Rattle.game_record.specs.Kinds.{stakes_at}

-- in a match one of its scores, and else none
abbrev pub IsScoreIn : RecordStakes → Option MatchScore → Type 0
IsScoreIn (Match length) (Some score) = IsOfMatch length score
IsScoreIn (Match length) None = ⊥
IsScoreIn stakes score = score ≡ None

-- a beaver is an answer to a double that has two
abbrev pub IsAnswerTo : Option Double → Answer → Type 0
IsAnswerTo right Take = IsSome right
IsAnswerTo right Pass = IsSome right
IsAnswerTo right Beaver = IsSome right × IfSome right (λ double. 2 ≤ length double.answers.items)

-- a play leaves a legal end, and who offers or answers is in a kind with a right to double
abbrev pub IsRightChoice : Placement → Kind → Choice → Type 0
IsRightChoice position kind (Played roll end) = IsRoll roll × IsLegalEnd position roll end
IsRightChoice position kind (Offered offer) = IsSome kind.double
IsRightChoice position kind (Answered answer) = IsAnswerTo kind.double answer

-- The position is live and has the record's checkers, the score is one of the match, the kind is one of the stakes, and the choice could be
-- made there.
pub record IsRightDecision (rec : Record) (decision : Decision) : Type 0 where
  pub position : IsPosition decision.position
  pub live : IsLive decision.position
  pub checkers : sum decision.position.mover ≡ rec.checkers
  pub score : IsScoreIn rec.stakes decision.score
  pub kind : (starts : StartPairs)
      → decision.kind < length (stakes_named (stakes_at rec.stakes decision.score) starts).kinds
  pub choice : (starts : StartPairs)
      → IsRightChoice decision.position
      (kind_at (stakes_named (stakes_at rec.stakes decision.score) starts) decision.kind)
      decision.choice
