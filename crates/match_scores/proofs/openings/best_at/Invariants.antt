use Rattle.std.proofs.Common.{◌≡◌, take}
use Rattle.move_rules.specs.Order.{ends_of}
use Rattle.directed_fixed.specs.Bounds.{IsWithinUnits, other}
use Rattle.turn_rule.specs.Turn.{greatest}
use Rattle.interval_words.specs.WordLists.{words_in_list}
use Rattle.match_scores.specs.Openings.{opening_worth}
use Rattle.match_scores.proofs.openings.best_at.Given as goal

-- the best of the plays so far
abbrev pub invariant-loop-i : goal.invariant-loop-i
invariant-loop-i l = record {
  best : l.best ≡ greatest (opening_worth (words_in_list l.words (other l.end)) l.score l.side) (take l.i (ends_of l.entries));
  within : IsWithinUnits l.words.game.stakes.bound l.best;
}
