use Rattle.std.proofs.Common.{◌≡◌, ◌+◌, ◌≤◌, ◌++◌, length}
use Rattle.std.specs.List.{flat_map}
use Rattle.std.specs.Str.Lines.{lines}
use Rattle.plain_record.specs.Plain.{line_if_any, line_numbers, numbers_from, plain_text}
use Rattle.plain_record.proofs.read.read_plain.Given as goal

abbrev pub invariant-lines : goal.invariant-lines
invariant-lines l = record {
  text : l.plain.items ++ flat_map line_if_any (lines l.rest) ≡ plain_text l.text;
  numbers : l.lines.items ++ numbers_from l.number (lines l.rest) ≡ line_numbers l.text;
  few : l.number + length l.rest ≤ length l.text + 1;
}

abbrev pub decreases-lines : goal.decreases-lines
decreases-lines l = length l.rest
