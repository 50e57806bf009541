-- The best plays of a list of positions and rolls from a file.
use Rattle.std.specs.Prelude.{◌≡◌, ◌⊎◌, ℕ, false, List, Option, Some, Ok, Err}
use Rattle.cube_actions.specs.declared.name.KindName.{KindName}
use Rattle.base_head.specs.Heads.{FileHead}
use Rattle.equity_report.specs.declared.refusal.Refusal.{Refusal}
use Rattle.command_line.specs.declared.command.Advise.{Advise as AdviseTask}
use Rattle.run_endings.specs.Pages.{IsOfOther}
use Rattle.base_commands.specs.declared.list_answers.LineAnswer.{LineAnswer}
use Rattle.base_commands.specs.declared.list_answers.LineAnswer.TheVariants.{Ranked, Refused, Shown}
use Rattle.base_commands.specs.declared.lists.RolledPosition.{RolledPosition}
use Rattle.base_commands.specs.Advises.{IsBadFor, Ranks}
use Rattle.run_endings.specs.Games.{WantsOther}
use Rattle.base_commands.specs.Lists.{GivesRolled}

-- what `advise` is asked of a file by its name, for a position, a roll and a kind
abbrev pub advise_of : List ℕ → Option KindName → RolledPosition → AdviseTask
advise_of file asked rolled = record {
  file = file;
  position = rolled.position;
  kind = asked;
  roll = Some rolled.roll;
  take = false;
  board = false;
}

-- a file whose front is right is of another game, or something is wrong with a page on which the ranking rests
abbrev pub RefusesRolled : AdviseTask → List ℕ → Refusal → Type 0
RefusesRolled task bytes refusal =
    IsOfOther (WantsOther task.position task.kind) bytes refusal ⊎ IsBadFor task bytes refusal

-- What a file of this name says of a position and a roll alone: the ranking of `advise`, of whose first play the line tells, or the refusal of
-- `advise`.
abbrev pub AdvisesRolled : List ℕ → Option KindName → List ℕ → RolledPosition → LineAnswer → Type 0
AdvisesRolled file asked bytes rolled (Ranked ranked) =
    (ranked.rolled ≡ rolled) × ((head : FileHead)
    × Ranks (advise_of file asked rolled) rolled.roll bytes head ranked.kind ranked.ranking)
AdvisesRolled file asked bytes rolled (Refused refusal) =
    RefusesRolled (advise_of file asked rolled) bytes refusal
AdvisesRolled file asked bytes rolled (Shown shown) = ⊥

-- What it says of a line: of the position and the roll that the line gives, or why it gives none.
abbrev pub AdvisesLine : List ℕ → Option KindName → List ℕ → List ℕ → LineAnswer → Type 0
AdvisesLine file asked bytes line answer =
    ((rolled : RolledPosition) × GivesRolled line (Ok rolled)
    × AdvisesRolled file asked bytes rolled answer)
    ⊎ ((refusal : Refusal) × GivesRolled line (Err refusal) × (answer ≡ Refused refusal))
