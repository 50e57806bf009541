use Rattle.std.proofs.Common.{◌≡◌, map, take}
use Rattle.record_commands.specs.Records.{at_line}
use Rattle.record_commands.proofs.record.in_text.Given as goal

abbrev pub invariant-loop-place : goal.invariant-loop-place
invariant-loop-place l = l.decisions ≡ map (at_line l.plain.lines.items) (take l.place l.told)
