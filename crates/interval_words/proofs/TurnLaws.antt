-- All that is used here of what a turn does to words.
use Rattle.std.proofs.Common.{◌≡◌, ◌+◌, ℕ, zero, suc, arith, refl, sym, subst}
use Rattle.cube_actions.specs.Stakes.{Terms, IsValid}
use Rattle.turn_rule.specs.declared.game.Game.{Game}
use Rattle.turn_rule.specs.Turn.{Words, turn, rounds, bound_words}
use Rattle.turn_rule.specs.States.{AreWithin, AreNoLooser}
use Rattle.turn_rule.proofs.Within.{turn-within, rounds-within}
use Rattle.turn_rule.specs.Truth.{AreSound}
use Rattle.turn_rule.proofs.Enclosing.{looser-sound}
use Rattle.turn_rule.proofs.Monotone.{turn-tighter, rounds-tighter}
use Rattle.interval_words.proofs.Ends.{tight-refl, tight-trans}

pub tight-words-trans : (game : Game) (u v w : Words) → AreNoLooser game u v → AreNoLooser game v w → AreNoLooser game u w
tight-words-trans game u v w h j = λ end p k state. tight-trans end _ _ _ (h end p k state) (j end p k state)

module _ (game : Game) (valid : IsValid game.stakes) where
  -- tighter words give a turn at least as tight
  pub turns-tighten : (u v : Words) → AreNoLooser game u v → AreNoLooser game (turn game.stakes u) (turn game.stakes v)
  turns-tighten = turn-tighter game valid

  pub turns-within : (u : Words) → AreWithin game u → AreWithin game (turn game.stakes u)
  turns-within = turn-within game valid

  pub all-rounds-within : (r : ℕ) → AreWithin game (rounds game.stakes r)
  all-rounds-within = rounds-within game valid

  -- words that are no tighter than those after some rounds are sound
  pub reached-sound : (r : ℕ) (u : Words) → AreNoLooser game (rounds game.stakes r) u → AreSound game u
  reached-sound = looser-sound game valid

  -- a later round is at least as tight
  pub rounds-more : (r : ℕ) → AreNoLooser game (rounds game.stakes (suc r)) (rounds game.stakes r)
  rounds-more = rounds-tighter game valid

  pub rounds-later : (r more : ℕ) → AreNoLooser game (rounds game.stakes (r + more)) (rounds game.stakes r)
  rounds-later r zero =
      let same : r + 0 ≡ r = omega arith in
      subst (λ (n : ℕ). AreNoLooser game (rounds game.stakes n) (rounds game.stakes r)) (sym same) (λ end p k state. tight-refl end (rounds game.stakes r end p k))
  rounds-later r (suc more) =
      let next : r + suc more ≡ suc (r + more) = omega arith in
      subst (λ (n : ℕ). AreNoLooser game (rounds game.stakes n) (rounds game.stakes r)) (sym next)
      (tight-words-trans game (rounds game.stakes (suc (r + more))) (rounds game.stakes (r + more)) (rounds game.stakes r) (rounds-more (r + more)) (rounds-later r more))

-- a round is a turn over the round before
pub rounds-turn : (stakes : Terms) (r : ℕ) → rounds stakes (suc r) ≡ turn stakes (rounds stakes r)
unfolding rounds
rounds-turn stakes r = refl

pub rounds-none : (stakes : Terms) → rounds stakes 0 ≡ bound_words stakes
unfolding rounds
rounds-none stakes = refl
