-- The texts of games.
use Rattle.std.specs.Prelude.{ℕ, List, ◌++◌, codes}
use Rattle.cube_actions.specs.declared.name.StakesName.{StakesName}
use Rattle.cube_actions.specs.declared.name.StakesName.TheVariants.{Unlimited, Match}
use Rattle.cube_text.specs.Texts.{rule_text, score_text}
use Rattle.equity_report.specs.declared.text.GameName.{GameName}
use Rattle.equity_report.specs.Reports.{counted_text}

-- what is played for, in a match its length and the score
abbrev pub stakes_text : ℕ → StakesName → List ℕ
stakes_text match_length (Unlimited rule) = rule_text rule
stakes_text match_length (Match score) =
    counted_text (codes "match") match_length ++ codes " " ++ score_text score

-- how many checkers a side has, and what is played for
abbrev pub game_text : GameName → List ℕ
game_text game = counted_text (codes "checkers") game.checkers ++ codes " stakes "
    ++ stakes_text game.match_length game.stakes
