use Rattle.std.proofs.Common.{◌≡◌, ◌≤◌, ◌+◌, drop}
use Rattle.std.specs.Prelude.{count_by}
use Rattle.record_text.specs.Texts.{is_line_end}
use Rattle.record_commands.proofs.make.lines.Given as goal

abbrev pub invariant-loop-byte : goal.invariant-loop-byte
invariant-loop-byte l = record {
  counted : l.ends + count_by is_line_end (drop l.byte-index l.text) ≡ count_by is_line_end l.text;
  few : l.ends ≤ l.byte-index;
}
