use Rattle.std.proofs.Common.{◌≡◌, ◌+◌, ◌≤◌, [], length, fold, drop}
use Rattle.position_text.specs.Text.{words}
use Rattle.command_line.specs.Plain.{add_place}
use Rattle.command_line.proofs.PlaceRoom.{space_for}
use Rattle.command_line.proofs.plain.join_places.Given as goal

abbrev pub invariant-loop-word : goal.invariant-loop-word
invariant-loop-word l = record {
  same : fold add_place l.plain.bytes (drop (length l.yielded) (words l.fn.text)) ≡ fold add_place [] (words l.fn.text);
  room : length l.plain.bytes + space_for (drop (length l.yielded) (words l.fn.text)) ≤ 1538;
}
