use Rattle.std.proofs.Common.{◌-◌, ◌≡◌, ◌≤◌, ◌*◌, length}
use Rattle.outside_log.specs.Log.{standing}
use Rattle.outside_log.specs.Readings.{ReadsOn, is_faithful}
use Rattle.database_file.specs.Pages.{page_count, whole_page}
use Rattle.database_file.specs.Paged.{AreOfFile, ArePagesKept}
use Rattle.database_file.proofs.keeping.keep_all.Given as goal

abbrev pub invariant-batches : goal.invariant-batches
invariant-batches g l = record {
  inside : l.first ≤ page_count l.pages;
  right : ArePagesKept l.pages l.kept.entries;
  of_file : AreOfFile l.pages (is_faithful (g.F.Files.log l.files)) (standing (g.F.Files.log l.files) l.name) l.kept.entries;
  most : l.kept.cap ≡ l.fn.kept.cap;
  buf : length l.buf.items ≡ l.most * whole_page l.pages;
  room : length l.read.items ≡ l.most;
  reads : ReadsOn (g.F.Files.log l.fn.files) (g.F.Files.log l.files);
}

abbrev pub decreases-batches : goal.decreases-batches
decreases-batches g l = l.count - l.first
