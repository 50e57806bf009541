use Rattle.std.proofs.Common.{◌≡◌, ◌≤◌, ◌<◌, None, IsTrue, length, take}
use Rattle.cube_actions.specs.Names.{names_of}
use Rattle.base_head.specs.Heads.{stakes_of}
use Rattle.database_file.specs.Paged.{KeepsPagesOf, flaw_at, word_at}
use Rattle.base_commands.specs.Shows.{rows_from}
use Rattle.outside_log.specs.Log.{standing}
use Rattle.outside_log.specs.Readings.{ReadsOn, is_faithful, read_faults}
use Rattle.base_commands.proofs.show.rows_of.Given as goal

abbrev pub invariant-kinds : goal.invariant-kinds
invariant-kinds g l = record {
  long : length l.rows.items ≡ l.number;
  rows : IsTrue (is_faithful (g.F.Files.log l.files)) → l.rows.items ≡ take l.number (rows_from (word_at l.fn.base.header (standing (g.F.Files.log l.fn.files) l.fn.base.name)) l.position 0 (names_of l.fn.base.header.name));
  right : IsTrue (is_faithful (g.F.Files.log l.files)) → 0 < l.number → flaw_at l.fn.base.header (standing (g.F.Files.log l.fn.files) l.fn.base.name) l.position ≡ None;
  base : l.base ≡ record l.fn.base { kept = l.base.kept };
  stakes : l.stakes ≡ stakes_of l.fn.base.head;
  of_file : KeepsPagesOf l.base (g.F.Files.log l.files);
  later : read_faults (g.F.Files.log l.fn.files) ≤ read_faults (g.F.Files.log l.files);
  reads : ReadsOn (g.F.Files.log l.fn.files) (g.F.Files.log l.files);
}
