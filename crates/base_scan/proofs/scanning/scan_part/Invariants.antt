use Rattle.std.proofs.Common.{◌≡◌, ◌-◌, All}
use Rattle.base_scan.specs.Found.{IsFoundState}
use Rattle.base_scan.proofs.Scans.{of_rows}
use Rattle.base_scan.proofs.scanning.scan_part.Given as goal

abbrev pub invariant-loop-row : goal.invariant-loop-row
invariant-loop-row g l = record {
  found : l.found.items ≡ of_rows l.fn.words l.fn.condition l.from (l.row - l.from);
  right : All (IsFoundState l.fn.words.game) l.found.items;
}
