use Rattle.std.proofs.Common.{◌≡◌, length}
use Rattle.position_text.specs.Text.{words}
use Rattle.base_scan.proofs.Readings.{HasRead}
use Rattle.base_scan.proofs.reading.read_condition.Given as goal

abbrev pub invariant-loop-word : goal.invariant-loop-word
invariant-loop-word l = record {
  read : HasRead (words l.fn.text) l.tests.items l.wanted (length l.yielded);
  number : l.number ≡ length l.yielded;
}
