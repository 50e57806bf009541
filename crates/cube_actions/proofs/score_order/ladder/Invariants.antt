use Rattle.std.proofs.Common.{◌≡◌, take}
use Rattle.std.specs.List.{filter}
use Rattle.cube_actions.specs.Ladder.{is_of_match, ladder}
use Rattle.cube_actions.proofs.score_order.ladder.Given as goal

-- the scores of the match among those that were looked at
abbrev pub invariant-loop-score : goal.invariant-loop-score
invariant-loop-score l = record {
  all : l.score-items ≡ ladder 5;
  kept : l.scores.items ≡ filter (is_of_match l.length) (take l.score-index l.score-items);
}
