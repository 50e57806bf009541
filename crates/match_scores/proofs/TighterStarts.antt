-- Tighter start pairs give tighter stakes.
use Rattle.std.proofs.Common.{◌≡◌, ◌<◌, ◌-◌, ◌*◌, ◌∙◌, ℕ, Bool, true, false, cond, nat_le, length, get_or, Some, None, refl, sym, subst}
use Rattle.move_rules.specs.declared.payoff.Won.{Won}
use Rattle.move_rules.specs.declared.payoff.Won.TheVariants.{Single, Gammon, Backgammon}
use Rattle.directed_fixed.specs.Bounds.{Bounds, AreNoLooserPairs, negated}
use Rattle.cube_actions.specs.declared.kind.Double.{Double}
use Rattle.cube_actions.specs.declared.side.Side.{Side}
use Rattle.cube_actions.specs.declared.side.Side.TheVariants.{Near}
use Rattle.cube_actions.specs.Scores.{MatchScore, needs, other_side}
use Rattle.cube_actions.specs.Stakes.{exactly, kind_at}
use Rattle.cube_actions.specs.Starts.{StartPairs, start_pair, ladder_place}
use Rattle.cube_actions.specs.MatchKinds.{match_kinds, kind_may_double}
use Rattle.cube_actions.specs.Matches.{next_score, stays_near, value_of_win, match_kind, terms_of}
use Rattle.turn_rule.specs.Turn.{win}
use Rattle.turn_rule.specs.Truth.{AreNoLooserDoubles, IsNoLooserKind, AreNoLooserStakes}
use Rattle.turn_rule.proofs.Integers.{le_refl, neg_le}
use Rattle.match_scores.specs.Payoffs.{mover_in, cube_in}
use Rattle.match_scores.specs.Ladders.{start_pair_at}
use Rattle.match_scores.proofs.MatchPayoffs.{kind-at, kinds-many}

-- at each place, the first start pairs are at least as tight as the second
pub record AreNoLooserStarts (a b : StartPairs) : Type 0 where
  pub of_length : a.match_length ≡ b.match_length
  pub pairs : (place : ℕ) → AreNoLooserPairs (start_pair_at a place) (start_pair_at b place)

negated-tighter : (a b : Bounds) → AreNoLooserPairs a b → AreNoLooserPairs (negated a) (negated b)
negated-tighter a b h = record { lower = neg_le _ _ h.upper; upper = neg_le _ _ h.lower }

same-pair : (a : Bounds) → AreNoLooserPairs a a
same-pair a = record { lower = le_refl _; upper = le_refl _ }

module _ (score : MatchScore) (a b : StartPairs) (tight : AreNoLooserStarts a b) where
  start-no-looser : (s : MatchScore) → AreNoLooserPairs (start_pair a s) (start_pair b s)
  start-no-looser s = subst (λ (n : ℕ). AreNoLooserPairs (start_pair a s) (start_pair_at b (ladder_place n s))) tight.of_length (tight.pairs (ladder_place a.match_length s))

  win-tighter : (winner : Side) (won : ℕ) → AreNoLooserPairs (value_of_win a score winner won) (value_of_win b score winner won)
  win-tighter winner won = by_need (nat_le (needs score winner) won) where
    next : MatchScore
    next = next_score score.phase (needs score winner - won) (needs score (other_side winner))

    by_side : (side : Bool) → AreNoLooserPairs (cond side (start_pair a next) (negated (start_pair a next))) (cond side (start_pair b next) (negated (start_pair b next)))
    by_side true = start-no-looser next
    by_side false = negated-tighter _ _ (start-no-looser next)

    by_need : (need : Bool) → AreNoLooserPairs (cond need (exactly 1) (cond (stays_near winner (needs score winner - won) (needs score (other_side winner))) (start_pair a next) (negated (start_pair a next)))) (cond need (exactly 1) (cond (stays_near winner (needs score winner - won) (needs score (other_side winner))) (start_pair b next) (negated (start_pair b next))))
    by_need true = same-pair (exactly 1)
    by_need false = by_side (stays_near winner (needs score winner - won) (needs score (other_side winner)))

  double-tighter : (may : Bool) (c d : Double) → c.answers.items ≡ d.answers.items → AreNoLooserPairs c.pass d.pass → AreNoLooserDoubles (cond may (Some c) None) (cond may (Some d) None)
  double-tighter true c d answers pass = record { answers = answers; pass = pass }
  double-tighter false c d answers pass = tt

  -- the same kinds and bound, whose wins and passes are known at least as well
  pub stakes-no-looser : AreNoLooserStakes (terms_of score a) (terms_of score b)
  stakes-no-looser = record { many = kinds-many score a ∙ sym (kinds-many score b); bound = refl; kinds = λ k here. each k (rw kinds-many at here) } where
    each : (k : ℕ) → k < length (match_kinds score) → IsNoLooserKind (kind_at (terms_of score a) k) (kind_at (terms_of score b) k)
    each k here = rw (kind-at score a k here, kind-at score b k here) (record {
      next = refl;
      wins = by_won;
      double = double-tighter (kind_may_double score (get_or (match_kinds score) k (record { mover = Near; cube = 1; owner = None }))) _ _ refl (win-tighter (mover_in score k) (cube_in score k));
    }) where
      by_won : (won : Won) → AreNoLooserPairs (win (match_kind a score (get_or (match_kinds score) k (record { mover = Near; cube = 1; owner = None }))) won) (win (match_kind b score (get_or (match_kinds score) k (record { mover = Near; cube = 1; owner = None }))) won)
      by_won Single = win-tighter (mover_in score k) (1 * cube_in score k)
      by_won Gammon = win-tighter (mover_in score k) (2 * cube_in score k)
      by_won Backgammon = win-tighter (mover_in score k) (3 * cube_in score k)
