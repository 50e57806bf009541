use Rattle.std.proofs.Common.{◌≡◌, ◌≤◌, ◌++◌, ◌+◌, ◌*◌, List, length, ℕ, take}
use Rattle.std.specs.List.{flat_map}
use Rattle.base_reports.specs.Shown.{row_text}
use Rattle.base_reports.specs.declared.shown.KindRow.{KindRow}
use Rattle.base_reports.proofs.shown.add_rows.Given as goal

pub record Invariant (start now : List ℕ) (rows : List KindRow) (done : ℕ) : Type 0 where
  pub bytes : now ≡ start ++ flat_map row_text (take done rows)
  pub room : length now ≤ length start + 149 * done

abbrev pub invariant-rows : goal.invariant-rows
invariant-rows l = Invariant l.initial.report.bytes l.report.bytes l.fn.rows l.row-index
