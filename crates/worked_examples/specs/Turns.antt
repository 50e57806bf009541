-- Games and scorings of worked examples.
use Rattle.std.specs.Prelude.{ℕ, zero, suc, ℤ, pos, neg_ℤ, [], ◌∷◌, Some, None}
use Rattle.position_rank.specs.Placement.{Placement}
use Rattle.move_rules.specs.declared.payoff.Won.{Won}
use Rattle.move_rules.specs.declared.payoff.Won.TheVariants.{Single, Gammon, Backgammon}
use Rattle.directed_fixed.specs.Bounds.{Bounds}
use Rattle.cube_actions.specs.declared.kind.Kind.{Kind}
use Rattle.cube_actions.specs.declared.kind.Double.{Double}
use Rattle.cube_actions.specs.declared.name.MoneyRule.TheVariants.{Cubeless, Money, Jacoby, JacobyBeavers}
use Rattle.cube_actions.specs.declared.name.StakesName.TheVariants.{Unlimited}
use Rattle.cube_actions.specs.Money.{unlimited}
use Rattle.cube_actions.specs.Stakes.{Terms, exactly, point_units}
use Rattle.turn_rule.specs.Exact.{Scoring, rolled, after_double, exact}

-- each win is a point, and the mover may always double: a pass costs the other side a point, and if it takes the double, the roll counts twice
abbrev pub always_double : Kind
always_double = record {
  next = 0;
  win = exactly 1 ∷ exactly 1 ∷ exactly 1 ∷ [];
  double = Some (record
      { pass = exactly 1; answers = record { items = record { kind = 0; factor = 2 } ∷ [] } });
}

abbrev pub doubling_game : Terms
doubling_game =
    record { kinds = always_double ∷ []; bound = point_units 3; name = Unlimited Money }

-- a game without a cube in which of a gammon only this is known, that it wins one to three points
abbrev pub vague_gammon : Kind
vague_gammon = record {
  next = 0;
  win = exactly 1 ∷ record { lower = point_units 1; upper = point_units 3 } ∷ exactly 3 ∷ [];
  double = None;
}

abbrev pub vague_game : Terms
vague_game =
    record { kinds = vague_gammon ∷ []; bound = point_units 3; name = Unlimited Cubeless }

-- money by the Jacoby rule, without beavers and with them
abbrev pub jacoby : Terms
jacoby = unlimited Jacoby

abbrev pub jacoby_beavers : Terms
jacoby_beavers = unlimited JacobyBeavers

-- these bounds, both above zero, and both below it
abbrev pub gains : ℕ → ℕ → Bounds
gains lower upper = record { lower = pos lower; upper = pos upper }

abbrev pub losses : ℕ → ℕ → Bounds
losses lower upper = record { lower = neg_ℤ (pos lower); upper = neg_ℤ (pos upper) }

-- a loss and a gain
abbrev pub between : ℕ → ℕ → Bounds
between loss gain = record { lower = neg_ℤ (pos loss); upper = pos gain }

-- so many points for a single win, a gammon and a backgammon
abbrev pub win_points : ℕ → ℕ → ℕ → Won → ℤ
win_points single gammon backgammon Single = pos single
win_points single gammon backgammon Gammon = pos gammon
win_points single gammon backgammon Backgammon = pos backgammon

-- over a scale of 1, such wins, a pass of one point, and an unfinished end that is worth so much to whose turn it is
abbrev pub scored : (Won → ℤ) → ℤ → Scoring
scored wins unfinished = record {
  scale = 1;
  win = λ k won. wins won;
  pass = λ k. pos 1;
  unfinished = λ p k. unfinished;
}

-- a win counts its points, and a game that is cut off so much to the side whose turn it is
abbrev pub cut_off_at : ℤ → Scoring
cut_off_at = scored (win_points 1 2 3)

-- a win counts its points, or one point however the game was won, and a game that is cut off counts nothing
abbrev pub points_won : Scoring
points_won = cut_off_at (pos 0)

abbrev pub games_won : Scoring
games_won = scored (win_points 1 1 1) (pos 0)

-- the Jacoby rule: while the cube is centred a win counts one point however it was won, and then it counts its points
abbrev pub by_cube : ℕ → Won → ℤ
by_cube zero = win_points 1 1 1
by_cube (suc k) = win_points 1 2 3

-- such wins, a pass of one point, and a game that is cut off counts nothing
abbrev pub jacoby_won : Scoring
jacoby_won = record { scale = 1; win = by_cube; pass = λ k. pos 1; unfinished = λ p k. pos 0 }

-- rolling in a game of two turns
abbrev pub rolled_first : Terms → Scoring → Placement → ℕ → ℤ
rolled_first stakes scoring p k = rolled stakes scoring 1 (exact stakes scoring 1) p k

-- doubling in a game of two turns, where it is answered as suits the other side
abbrev pub doubled_first : Terms → Scoring → Placement → ℕ → Double → ℤ
doubled_first stakes scoring p k double =
    after_double stakes scoring 1 (exact stakes scoring 1) p k double
