-- Words, end scores and starts of worked examples, of games of one checker a side.
use Rattle.std.specs.Prelude.{ℕ, zero, suc, ◌+◌, ◌*◌, ◌==◌, ℤ, pos, neg_ℤ, if◌then◌else◌}
use Rattle.directed_fixed.specs.declared.bounds.End.TheVariants.{Lower, Upper}
use Rattle.cube_actions.specs.declared.phase.Phase.{Phase}
use Rattle.cube_actions.specs.declared.phase.Phase.TheVariants.{Normal, Crawford, Post}
use Rattle.cube_actions.specs.Scores.{is_crawford}
use Rattle.cube_actions.specs.Stakes.{point_units}
use Rattle.turn_rule.specs.Turn.{Words}
use Rattle.match_scores.specs.Payoffs.{EndScores, ExactStarts, ScoredMatch, ends_over}

-- so much for whichever side is to roll
abbrev pub to_roller : ℤ → Words
to_roller value end p k = value

-- so much for the near side, whichever side is to roll: the kinds with the centred cube are 0 for the near side and 1 for the far side
abbrev pub to_near : ℤ → Words
to_near value end p zero = value
to_near value end p (suc k) = neg_ℤ value

-- the near side has nothing where it rolls, and has so much where the far side rolls
abbrev pub to_near_second : ℤ → Words
to_near_second value end p zero = pos 0
to_near_second value end p (suc k) = neg_ℤ value

-- nothing is known but the value of the match
abbrev pub unknown_starts : Words
unknown_starts Lower p k = neg_ℤ (point_units 1)
unknown_starts Upper p k = point_units 1

-- each unfinished game is won by the near side, over a scale of 1
abbrev pub near_wins : EndScores
near_wins score p zero = pos 1
near_wins score p (suc k) = neg_ℤ (pos 1)

-- each unfinished game is worth nothing
abbrev pub drawn : EndScores
drawn score p k = pos 0

-- a match whose games have so many turns, with these end scores and starts over a scale
abbrev pub match_over : ℕ → ℕ → EndScores → ExactStarts → ScoredMatch
match_over turns scale ends starts = record {
  turns = turns;
  scale = scale;
  ends = ends_over scale ends;
  starts = starts;
}

-- over 2160, starts of Crawford games, of 2-2 and of 2-3
abbrev pub before_crawford : ExactStarts
before_crawford score =
    if is_crawford score.phase then pos 1080 else if score.far == 2 then pos 2160 else pos 2110

-- a number for each score, by which it can be told
abbrev pub digit : Phase → ℕ
digit Normal = 1
digit Crawford = 2
digit Post = 3

abbrev pub told : ExactStarts
told score = pos (score.near * 100 + score.far * 10 + digit score.phase)
