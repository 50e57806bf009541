use Rattle.std.proofs.Common.{◌≡◌, ◌≤◌, ◌*◌, length, take}
use Rattle.std.specs.List.{flat_map}
use Rattle.cube_actions.specs.Ladder.{ladder}
use Rattle.match_plan.specs.Plans.{score_lines}
use Rattle.match_plan.proofs.plan.write_plan.Given as goal

-- the scores so far have their lines
abbrev pub invariant-loop-number : goal.invariant-loop-number
invariant-loop-number g l = record {
  bytes : l.text.bytes ≡ flat_map (score_lines l.starts) (take l.number (ladder l.starts.match_length));
  room : length l.text.bytes ≤ 362 * l.number;
}
