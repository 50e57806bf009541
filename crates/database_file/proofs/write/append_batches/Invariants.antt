use Rattle.std.proofs.Common.{◌≡◌, ◌≤◌, ◌-◌, length}
use Rattle.outside_log.specs.Log.{Adds}
use Rattle.word_pages.specs.Pages.{first_pages, pages_in}
use Rattle.database_file.proofs.write.append_batches.Given as goal

abbrev pub invariant-batches : goal.invariant-batches
invariant-batches g l = record {
  inside : l.first ≤ pages_in l.size (length l.words);
  places : length l.room ≡ length l.fn.room;
  added : Adds l.name (first_pages l.version l.digest l.size 0 l.first l.words) (g.F.Files.log l.fn.files) (g.F.Files.log l.files);
}

abbrev pub decreases-batches : goal.decreases-batches
decreases-batches g l = l.pages - l.first
