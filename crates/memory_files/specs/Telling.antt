-- What files in memory hold is what their log tells, and each of their answers is what they hold.
use Rattle.std.specs.Prelude.{◌≡◌, IsTrue}
use Rattle.outside_log.specs.Log.{disk_of}
use Rattle.outside_log.specs.Readings.{is_faithful}
use Rattle.memory_files.specs.Disks.{disk_in}
use Rattle.memory_files.specs.MemFiles.{LeavesSome}
use Rattle.memory_files.specs.declared.mem_files.MemFiles.TheInside.{Inside}

pub record IsTelling (files : Inside) : Type 0 where
  pub disk : disk_in files.disk ≡ disk_of files.log.events
  pub faithful : IsTrue (is_faithful files.log.events)
  pub limit : LeavesSome files.most
