use Rattle.std.proofs.Common.{◌≡◌, length}
use Rattle.cube_actions.specs.Ladder.{ladder}
use Rattle.record_reports.proofs.full.some_starts.Given as goal

abbrev pub invariant-loop-score : goal.invariant-loop-score
invariant-loop-score l =
    (l.starts.match_length ≡ l.match_length) ×
    (length l.starts.pairs ≡ l._score-index) ×
    (l._score-items ≡ ladder l.match_length)
