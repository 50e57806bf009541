use Rattle.std.proofs.Common.{◌≡◌, ◌≤◌, ◌-◌, [], IsTrue, length}
use Rattle.outside_log.specs.Files.{bytes_from}
use Rattle.outside_log.specs.Log.{standing}
use Rattle.outside_log.specs.Readings.{ReadsOn, is_faithful, read_faults}
use Rattle.outside_log.proofs.Filling.{IsRead}
use Rattle.outside_log.proofs.reading.fill.Given as goal

abbrev pub invariant-reads : goal.invariant-reads
invariant-reads g l = record {
  within : l.done ≤ length l.buf;
  size : length l.buf ≡ length l.fn.buf;
  reads : ReadsOn (g.F.Files.log l.fn.files) (g.F.Files.log l.files);
  read : IsTrue (is_faithful (g.F.Files.log l.files)) → IsRead (bytes_from l.at (standing (g.F.Files.log l.fn.files) l.name)) l.buf l.done;
  later : read_faults (g.F.Files.log l.fn.files) ≤ read_faults (g.F.Files.log l.files);
  none : l.fn.buf ≡ [] → l.files ≡ l.fn.files;
}

-- each read but the last fills a byte or more
abbrev pub decreases-reads : goal.decreases-reads
decreases-reads g l = length l.fn.buf - l.done
