use Rattle.std.proofs.Common.{◌+◌, ℕ, List}
use Rattle.database_file.specs.declared.batch.Batch.{Batch}
use Rattle.database_file.specs.declared.pages.Pages.{Pages}
use Rattle.database_file.specs.Batches.{AreRead, HasComeTo}
use Rattle.database_file.proofs.batch.add_words.Given as goal

abbrev pub invariant-loop-page : goal.invariant-loop-page
invariant-loop-page l = (pages : Pages) (batch : Batch) (all : List ℕ) → HasComeTo pages batch all l.fn.words.items l.read → AreRead pages all (batch.first + l.page-index) l.words.items
