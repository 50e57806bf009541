-- What reading answers.
use Rattle.std.specs.Prelude.{◌≡◌, Result, Ok, Err}
use Rattle.command_line.specs.declared.command.Command.{Command}
use Rattle.command_line.specs.declared.stop.WordsStop.{WordsStop}
use Rattle.command_line.specs.declared.stop.WordsStop.TheVariants.{Bad, NoMemory}
use Rattle.command_line.specs.Commands.{Asked}

-- the answer is what is asked or refused, unless there was no memory
abbrev pub Gives : Asked → Result Command WordsStop → Type 0
Gives expected (Ok command) = expected ≡ Ok command
Gives expected (Err (Bad fault)) = expected ≡ Err fault
Gives expected (Err NoMemory) = Unit {0}
