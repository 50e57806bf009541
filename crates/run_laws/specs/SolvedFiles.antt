-- What a command asks of a file of bounds that was solved.
use Rattle.std.specs.Prelude.{◌≡◌, ℕ, List, [], sum, ⊤}
use Rattle.outside_log.specs.Files.{Contents}
use Rattle.base_head.specs.Heads.{FileHead}
use Rattle.base_head.specs.Headers.{magic}
use Rattle.command_line.specs.declared.command.Command.{Command}
use Rattle.command_line.specs.declared.command.Command.TheVariants.{Show, ShowList, Migrate, Advise, AdviseList, Verify, Plan, Scan, Reply}
use Rattle.run_endings.specs.Games.{HasState}
use Rattle.run_laws.specs.RightFiles.{IsRightList}
use Rattle.whole_file_commands.specs.Plans.{IsOfFirstGame, first_file}
use Rattle.whole_file_commands.specs.Scans.{IsConditionText}
use Rattle.run_laws.specs.RightRuns.{MayBeReplaced}

-- the name of the one file of bounds that a command reads
abbrev pub file_read : Command → List ℕ
file_read (Show task) = task.file
file_read (ShowList task) = task.file
file_read (Advise task) = task.file
file_read (AdviseList task) = task.file
file_read (Verify task) = task.file
file_read (Migrate task) = task.old
file_read (Plan task) = first_file task
file_read (Scan task) = task.file
file_read (Reply task) = task.file
file_read _ = []

-- A command that reads one file of bounds asks for what a game with this head has: a position of its checkers, a kind of its states, the
-- first game of its match. A list is there and isn't too long, the text of a search is that of a condition, and what stands under a new name may
-- be replaced.
abbrev pub AsksOf : FileHead → Contents → Command → Type 0
AsksOf head held (Show task) = head.checkers ≡ sum task.position.mover
AsksOf head held (ShowList task) = IsRightList (held task.list)
AsksOf head held (Advise task) = HasState task.position task.kind head
AsksOf head held (AdviseList task) = IsRightList (held task.list)
AsksOf head held (Verify task) = ⊤
AsksOf head held (Migrate task) = MayBeReplaced magic held task.new
AsksOf head held (Plan task) = IsOfFirstGame task.match_length head
AsksOf head held (Scan task) = IsConditionText task.condition
AsksOf head held (Reply task) = HasState task.position task.kind head
AsksOf head held _ = ⊥
