use Rattle.std.proofs.Common.{◌≡◌, ◌≤◌, ◌++◌, ◌+◌, ◌*◌, List, length, ℕ, take}
use Rattle.std.specs.List.{flat_map}
use Rattle.base_reports.specs.Lists.{row_fields}
use Rattle.base_reports.specs.declared.shown.KindRow.{KindRow}
use Rattle.base_reports.proofs.lists.add_rows.Given as goal

pub record Invariant (start now : List ℕ) (rows : List KindRow) (done : ℕ) : Type 0 where
  pub bytes : now ≡ start ++ flat_map row_fields (take done rows)
  pub room : length now ≤ length start + 165 * done

abbrev pub invariant-rows : goal.invariant-rows
invariant-rows l = Invariant l.initial.line.bytes l.line.bytes l.fn.rows l.row-index
