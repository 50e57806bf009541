-- The square of a position is one of all squares.
use Rattle.std.proofs.Common.{◌≡◌, ◌<◌, ◌+◌, ◌*◌, ℕ, sum, sym, subst, arith}
use Rattle.std.proofs.lemmas.Nat.{mul-add-lt}
use Rattle.position_rank.specs.Placement.{Placement, IsPosition}
use Rattle.position_rank.specs.Ranks.{layouts, rank_of, square_rank_of}
use Rattle.position_rank.proofs.RankLaws.{rank-below}
use Rattle.turn_rule.specs.Layouts.{squares_of}

pub square-below : (p : Placement) (checkers : ℕ) → IsPosition p → sum p.mover ≡ checkers → square_rank_of p < squares_of checkers
square-below p checkers is many = subst (λ (n : ℕ). square_rank_of p < squares_of n) many (below (rank_of p.mover) (rank_of p.other) (layouts (sum p.mover)) (rank-below p.mover is.mover) (subst (λ (n : ℕ). rank_of p.other < layouts n) (sym is.same) (rank-below p.other is.other))) where
  below : (a b n : ℕ) → a < n → b < n → a * n + b < n * n
  below a b n h k = omega (arith, mul-add-lt a n b n h k)
