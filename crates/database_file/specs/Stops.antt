-- What pages that could not be read stop.
use Rattle.hyper_outside.specs.declared.outside.LookStop.{LookStop}
use Rattle.hyper_outside.specs.declared.outside.LookStop.TheVariants as looks
use Rattle.base_head.specs.Fronts.{bad_of}
use Rattle.database_file.specs.declared.pages.PagesStop.{PagesStop}
use Rattle.database_file.specs.declared.pages.PagesStop.TheVariants as pages
use Rattle.database_file.specs.declared.stop.LoadStop.{LoadStop}
use Rattle.database_file.specs.declared.stop.LoadStop.TheVariants.{BadFile as Bad, ReadFault, NoMemory}

abbrev pub loading_stopped : PagesStop → LoadStop
loading_stopped pages.ReadFault = ReadFault
loading_stopped (pages.BadPage flaw) = Bad (bad_of flaw)
loading_stopped pages.NoMemory = NoMemory

abbrev pub looking_stopped : PagesStop → LookStop
looking_stopped pages.ReadFault = looks.ReadFault
looking_stopped (pages.BadPage flaw) = looks.BadPage flaw.fault flaw.at
looking_stopped pages.NoMemory = looks.NoMemory
