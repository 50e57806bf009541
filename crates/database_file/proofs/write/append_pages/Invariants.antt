use Rattle.outside_log.specs.Log.{Adds}
use Rattle.word_pages.specs.Pages.{first_pages}
use Rattle.database_file.proofs.write.append_pages.Given as goal

abbrev pub invariant-pages : goal.invariant-pages
invariant-pages g l = Adds l.name (first_pages l.version l.digest l.size 0 l.page l.words) (g.F.Files.log l.fn.files) (g.F.Files.log l.files)
