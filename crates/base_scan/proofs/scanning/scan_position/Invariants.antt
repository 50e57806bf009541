use Rattle.std.proofs.Common.{◌≡◌, ◌++◌, All}
use Rattle.base_scan.specs.Found.{IsFoundState, meeting_among, with_kinds}
use Rattle.base_scan.specs.Sides.{position_of}
use Rattle.base_scan.proofs.scanning.scan_position.Given as goal

abbrev pub invariant-loop-kind : goal.invariant-loop-kind
invariant-loop-kind l = record {
  found : l.found.items ≡ l.initial.found.items ++ meeting_among l.words l.condition (with_kinds l.kind (position_of l.mover l.other));
  right : All (IsFoundState l.words.game) l.initial.found.items → All (IsFoundState l.words.game) l.found.items;
}
