use Rattle.std.proofs.Common.{◌-◌, ◌≡◌, ◌≤◌, ◌*◌, IsTrue, length}
use Rattle.outside_log.specs.Files.{bytes_from}
use Rattle.outside_log.specs.Log.{standing}
use Rattle.outside_log.specs.Readings.{ReadsOn, is_faithful, read_faults}
use Rattle.database_file.specs.Batches.{HasComeTo}
use Rattle.database_file.specs.Pages.{whole_page}
use Rattle.database_file.proofs.Batches.{Reaches}
use Rattle.database_file.proofs.pages.read_pages.Given as goal

abbrev pub invariant-batches : goal.invariant-batches
invariant-batches g l = record {
  read : Reaches l.pages l.before l.words.items l.read.items;
  told : IsTrue (is_faithful (g.F.Files.log l.files)) → HasComeTo l.pages l.before (bytes_from l.pages.at (standing (g.F.Files.log l.fn.files) l.name)) l.words.items l.read.items;
  buf : length l.buf.items ≡ l.most * whole_page l.pages;
  later : read_faults (g.F.Files.log l.fn.files) ≤ read_faults (g.F.Files.log l.files);
  reads : ReadsOn (g.F.Files.log l.fn.files) (g.F.Files.log l.files);
}

abbrev pub decreases-batches : goal.decreases-batches
decreases-batches g l = l.count - l.before.past
