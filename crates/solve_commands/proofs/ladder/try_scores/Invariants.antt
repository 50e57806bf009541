use Rattle.std.proofs.Common.{◌≡◌, ◌≤◌, length}
use Rattle.outside_log.specs.Log.{LeavesPlaces, failures, standing}
use Rattle.outside_log.specs.Readings.{is_faithful, read_faults}
use Rattle.cube_actions.specs.Ladder.{ladder}
use Rattle.solve_commands.specs.Ladders.{MayTakePlaces}
use Rattle.solve_commands.proofs.ladder.try_scores.Given as goal

-- the files of the scores so far may take their places
abbrev pub invariant-scores : goal.invariant-scores
invariant-scores g l = record {
  end : l.place-end ≡ length (ladder l.task.match_length);
  may : MayTakePlaces l.task l.place (is_faithful (g.F.Files.log l.files)) (standing (g.F.Files.log l.fn.files));
  leaves : LeavesPlaces (g.F.Files.log l.fn.files) (g.F.Files.log l.files);
  later : failures (g.F.Files.log l.fn.files) ≤ failures (g.F.Files.log l.files);
  read_later : read_faults (g.F.Files.log l.fn.files) ≤ read_faults (g.F.Files.log l.files);
}
