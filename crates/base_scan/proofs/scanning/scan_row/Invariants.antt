use Rattle.std.proofs.Common.{◌≡◌, ◌*◌, ◌++◌, All}
use Rattle.position_rank.specs.Ranks.{layouts}
use Rattle.base_scan.specs.Found.{IsFoundState}
use Rattle.base_scan.proofs.Scans.{scanned}
use Rattle.base_scan.proofs.scanning.scan_row.Given as goal

abbrev pub invariant-loop-rank : goal.invariant-loop-rank
invariant-loop-rank l = record {
  found : l.found.items ≡ l.initial.found.items ++ scanned l.words l.condition (l.row * layouts l.words.game.checkers) l.rank;
  right : All (IsFoundState l.words.game) l.initial.found.items → All (IsFoundState l.words.game) l.found.items;
}
