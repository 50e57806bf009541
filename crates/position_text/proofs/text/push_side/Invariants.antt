use Rattle.std.proofs.Common.{◌≡◌, ◌+◌, ◌*◌, ◌≤◌, length, fold, map, sum, take}
use Rattle.position_text.specs.Text.{place_text, places_of}
use Rattle.position_text.specs.TextParts.{add_word}
use Rattle.position_text.proofs.TextPrint.{texts_below}
use Rattle.position_text.proofs.text.push_side.Given as goal

abbrev pub invariant-loop-place : goal.invariant-loop-place
invariant-loop-place l = record {
  words : fold add_word l.text.bytes (texts_below l.side l.place) ≡ fold add_word l.fn.text.bytes (map place_text (places_of l.side));
  length : length l.text.bytes + 4 * sum (take l.place l.side) ≤ length l.fn.text.bytes + 4 * sum l.side;
}
