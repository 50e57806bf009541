use Rattle.std.proofs.Common.{◌≡◌, ◌*◌, ◌^◌, take, pos}
use Rattle.position_rank.specs.Packed.{start_placement}
use Rattle.directed_fixed.specs.Bounds.{IsWithinUnits, other}
use Rattle.turn_rule.specs.Turn.{sum_over}
use Rattle.interval_words.specs.WordLists.{words_in_list}
use Rattle.match_scores.specs.Openings.{opening_worth, openings}
use Rattle.match_scores.proofs.openings.opened_by.Given as goal

-- the sum of the rolls so far
abbrev pub invariant-loop-roll : goal.invariant-loop-roll
invariant-loop-roll l = record {
  sum : l.sum ≡ sum_over (take l.roll-index openings) (opening_worth (words_in_list l.words (other l.end)) l.score l.side) (start_placement l.words.game.checkers);
  within : IsWithinUnits (pos (l.roll-index * 2 ^ 32)) l.sum;
}
