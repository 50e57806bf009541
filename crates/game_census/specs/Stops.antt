-- What is told of a file that isn't loaded.
use Rattle.database_file.specs.declared.stop.LoadStop.{LoadStop}
use Rattle.database_file.specs.declared.stop.LoadStop.TheVariants.{Missing, BadFile, ReadFault, NoMemory}
use Rattle.game_census.specs.declared.stop.Stop.{Stop}
use Rattle.game_census.specs.declared.stop.Stop.TheVariants.{NoFile, NoBounds, Unread, Memory}

abbrev pub told_of : LoadStop → Stop
told_of Missing = NoFile
told_of (BadFile bad) = NoBounds
told_of ReadFault = Unread
told_of NoMemory = Memory
