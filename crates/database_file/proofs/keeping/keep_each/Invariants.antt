use Rattle.std.proofs.Common.{◌≡◌, ◌≤◌, ℕ, Err, length, slice_index_or}
use Rattle.database_file.specs.declared.pages.PagesStop.TheVariants.{NoMemory}
use Rattle.database_file.specs.Paged.{KeepsRead}
use Rattle.database_file.proofs.keeping.keep_each.Given as goal

abbrev pub invariant-pages : goal.invariant-pages
invariant-pages l = record {
  kept : KeepsRead l.fn.first l.fn.read l.fn.kept.entries l.kept.entries;
  rest : (number : ℕ) → l.number ≤ number → slice_index_or l.read number (Err NoMemory) ≡ slice_index_or l.fn.read number (Err NoMemory);
  most : l.kept.cap ≡ l.fn.kept.cap;
  len : length l.read ≡ length l.fn.read;
}
