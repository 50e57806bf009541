-- What a game is worth exactly that is cut off after so many turns.
use Rattle.std.specs.Prelude.{ℕ, zero, suc, ◌^◌, ℤ, pos, neg_ℤ, ◌*ℤ◌, Option, Some, None, map}
use Rattle.std.specs.Int.{int_max}
use Rattle.position_rank.specs.Placement.{Placement, swap}
use Rattle.roll_table.specs.Rolls.{all_rolls}
use Rattle.move_rules.specs.declared.payoff.Won.{Won}
use Rattle.move_rules.specs.Payoff.{points}
use Rattle.cube_actions.specs.declared.kind.Double.{Double}
use Rattle.cube_actions.specs.declared.kind.Taken.{Taken}
use Rattle.cube_actions.specs.Stakes.{Terms, kind_at}
use Rattle.turn_rule.specs.Turn.{if_won, sum_over, least}

-- How a game is scored: what a win in each kind gives, and what a pass does, to the side to move, and what an unfinished end is worth to
-- it. All are whole numbers over one scale.
pub record Scoring : Type 0 where
  pub scale : ℕ
  pub win : ℕ → Won → ℤ
  pub pass : ℕ → ℤ
  pub unfinished : Placement → ℕ → ℤ

-- what each position is worth in each kind
abbrev pub Values : Type 0
Values = Placement → ℕ → ℤ

-- what the mover has after his play: his win, or what the other side, whose turn it then is, hasn't
abbrev pub left_with : Terms → Scoring → ℕ → Values → ℕ → Placement → ℤ
left_with stakes scoring turns later k q =
    if_won (points q)
    (λ won. pos (36 ^ turns) *ℤ scoring.win k won)
    (neg_ℤ (later (swap q) (kind_at stakes k).next))

-- rolling in a kind: the best plays of all 36 ways of two dice together, where so many turns follow
abbrev pub rolled : Terms → Scoring → ℕ → Values → Placement → ℕ → ℤ
rolled stakes scoring turns later p k =
    sum_over all_rolls (left_with stakes scoring turns later k) p

-- after a double the other side chooses what leaves the doubler least: to pass, or one of its answers
abbrev pub after_double : Terms → Scoring → ℕ → Values → Placement → ℕ → Double → ℤ
after_double stakes scoring turns later p k double =
    least (pos (36 ^ suc turns) *ℤ scoring.pass k)
    (map (λ (taken : Taken). pos taken.factor *ℤ rolled stakes scoring turns later p taken.kind)
    double.answers.items)

-- with a right to double the mover has the better of rolling at once and of doubling
abbrev pub better_of : Terms → Scoring → ℕ → Values → Placement → ℕ → ℤ → Option Double → ℤ
better_of stakes scoring turns later p k plain None = plain
better_of stakes scoring turns later p k plain (Some double) =
    int_max plain (after_double stakes scoring turns later p k double)

-- before a turn, from what each position is worth after it
abbrev pub before_turn : Terms → Scoring → ℕ → Values → Values
before_turn stakes scoring turns later p k =
    better_of stakes scoring turns later p k
    (rolled stakes scoring turns later p k) (kind_at stakes k).double

-- the value of a game of so many turns to the side to move, over the scale times 36 for each turn
unfoldable pub exact : Terms → Scoring → ℕ → Values
exact stakes scoring zero = scoring.unfinished
exact stakes scoring (suc turns) = before_turn stakes scoring turns (exact stakes scoring turns)
