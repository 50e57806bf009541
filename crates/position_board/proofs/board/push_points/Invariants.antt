use Rattle.std.proofs.Common.{◌≡◌, ◌+◌, ◌*◌, ◌++◌, length, take}
use Rattle.std.specs.List.{flat_map}
use Rattle.position_board.specs.Boards.{point_cell}
use Rattle.position_board.proofs.board.push_points.Given as goal

abbrev pub invariant-loop-point : goal.invariant-loop-point
invariant-loop-point l = record {
  bytes : l.text.bytes ≡ l.initial.text.bytes ++ flat_map (point_cell l.position l.row) (take l.point-index l.points);
  room : length l.text.bytes ≡ length l.initial.text.bytes + 3 * l.point-index;
}
