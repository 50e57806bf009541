-- How a position is drawn.
use Rattle.std.specs.Prelude.{ℕ, List, ◌++◌}
use Rattle.outside_log.specs.Sink.{Output}
use Rattle.position_board.specs.Boards.{board_text}
use Rattle.position_id.specs.Ids.{id_told}
use Rattle.run_endings.specs.Endings.{Ending, Tells}
use Rattle.command_line.specs.declared.command.Board.{Board as BoardTask}

-- the board of the position, and its ID where that is asked for
abbrev pub board_report : BoardTask → List ℕ
board_report task = board_text task.position ++ id_told task.id task.position

-- that was put, which nothing refuses
abbrev pub TellsBoard : BoardTask → Output → Output → Ending → Type 0
TellsBoard task old new ending =
    Tells (λ (IsTold : List ℕ → Type 0). IsTold (board_report task)) (λ refusal. ⊥)
    old new ending
