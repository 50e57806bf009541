-- The events as code tells them.
use Rattle.outside_log.specs.Log.{Event, Sized, Read, ReadFailed, Started, Appended, Finished, GivenUp, Failed, Put}
use Rattle.outside_log.specs.declared.log.Told.{Told}
use Rattle.outside_log.specs.declared.log.Told.TheVariants as told

abbrev pub event_of_told : Told → Event
event_of_told (told.Sized name size) = Sized name.now size
event_of_told (told.Read name at room bytes) = Read name.now at room bytes.now
event_of_told (told.ReadFailed name) = ReadFailed name.now
event_of_told (told.Started name) = Started name.now
event_of_told (told.Appended name bytes) = Appended name.now bytes.now
event_of_told (told.Finished name) = Finished name.now
event_of_told (told.GivenUp name) = GivenUp name.now
event_of_told (told.Failed name) = Failed name.now
event_of_told (told.Put bytes) = Put bytes.now
