use Rattle.std.proofs.Common.{◌≡◌, ◌+◌, ◌*◌, ◌≤◌, length, fold, replicate}
use Rattle.position_text.specs.Text.{place_text}
use Rattle.position_text.specs.TextParts.{add_word}
use Rattle.position_text.proofs.text.push_place.Given as goal

abbrev pub invariant-loop : goal.invariant-loop
invariant-loop l = record {
  words : l.text.bytes ≡ fold add_word l.fn.text.bytes (replicate l.counter (place_text l.place));
  length : length l.text.bytes ≤ length l.fn.text.bytes + 4 * l.counter;
}
