-- The pairs of a list of positions from a file.
use Rattle.std.specs.Prelude.{◌≡◌, ◌⊎◌, ℕ, List, Ok, Err}
use Rattle.position_rank.specs.Placement.{Placement}
use Rattle.base_head.specs.Heads.{FileHead}
use Rattle.equity_report.specs.declared.refusal.Refusal.{Refusal}
use Rattle.run_endings.specs.Pages.{IsOfOther}
use Rattle.base_commands.specs.declared.list_answers.LineAnswer.{LineAnswer}
use Rattle.base_commands.specs.declared.list_answers.LineAnswer.TheVariants.{Ranked, Refused, Shown}
use Rattle.run_endings.specs.Games.{WantsCheckers}
use Rattle.base_commands.specs.Lists.{GivesPosition}
use Rattle.base_commands.specs.Shows.{IsBadAt, ShowsPairs}

-- a file whose front is right is of another number of checkers, or something is wrong with the position's page
abbrev pub RefusesIn : List ℕ → Placement → Refusal → Type 0
RefusesIn bytes p refusal =
    IsOfOther (WantsCheckers p) bytes refusal ⊎ IsBadAt bytes p refusal

-- What a file says of a position alone: its pairs, as `show` finds them, or the refusal of `show`.
abbrev pub ShowsPosition : List ℕ → Placement → LineAnswer → Type 0
ShowsPosition bytes p (Shown shown) =
    (shown.position ≡ p) × ((head : FileHead) × ShowsPairs bytes p head shown.rows.items)
ShowsPosition bytes p (Refused refusal) = RefusesIn bytes p refusal
ShowsPosition bytes p (Ranked ranked) = ⊥

-- What it says of a line: of the position that the line gives, or why the line gives none.
abbrev pub ShowsLine : List ℕ → List ℕ → LineAnswer → Type 0
ShowsLine bytes line answer =
    ((p : Placement) × GivesPosition line (Ok p) × ShowsPosition bytes p answer)
    ⊎ ((refusal : Refusal) × GivesPosition line (Err refusal) × (answer ≡ Refused refusal))
