-- What encloses every state after the next turn encloses every state before it, and so rounds enclose every longer game.
use Rattle.std.proofs.Common.{◌≡◌, ◌<◌, ℕ, zero, suc, ℤ, pos, neg_ℤ, ◌*ℤ◌, ◌*◌, ◌^◌, Option, Some, None, IfSome, inl, refl, sym, subst, ap, ◌∙◌, arith}
use Rattle.std.proofs.lemmas.Int.{ints}
use Rattle.std.proofs.Math.Nat.{pow-succ'}
use Rattle.position_rank.specs.Placement.{Placement, swap}
use Rattle.roll_table.specs.Rolls.{Dice, IsRoll}
use Rattle.move_rules.specs.Ends.{legal_ends}
use Rattle.move_rules.specs.Listing.{Among}
use Rattle.move_rules.proofs.Members.{Among-Contains}
use Rattle.move_rules.specs.declared.payoff.Won.{Won}
use Rattle.move_rules.specs.Payoff.{points}
use Rattle.directed_fixed.specs.declared.bounds.End.{End}
use Rattle.directed_fixed.specs.declared.bounds.End.TheVariants.{Lower, Upper}
use Rattle.directed_fixed.specs.Bounds.{other, at}
use Rattle.cube_actions.specs.declared.kind.Double.{Double}
use Rattle.cube_actions.specs.declared.kind.Taken.{Taken}
use Rattle.cube_actions.specs.Stakes.{kind_at, IsValid}
use Rattle.turn_rule.specs.declared.game.Game.{Game}
use Rattle.turn_rule.specs.Turn.{Words, win, if_won, worth, roll_value, or_double, turn, bound_words, rounds}
use Rattle.turn_rule.specs.States.{IsState, AreNoLooser, pair_of}
use Rattle.turn_rule.specs.Exact.{Scoring, Values, left_with, rolled, better_of, before_turn, exact}
use Rattle.turn_rule.specs.Truth.{IsBoundOf, IsBoundAt, Encloses, AreWinsWithin, ArePassesWithin, AreEndsWithin, IsScoring, AreEnclosing, InTheEnd, AreSoundFrom, AreSound, AreConsistent}
use Rattle.turn_rule.specs.Games.{kinds_of}
use Rattle.turn_rule.specs.Looks.{MayFollow, MayFollowTurn}
use Rattle.turn_rule.specs.Following.{AreBoundsOn}
use Rattle.turn_rule.proofs.Follows.{may-follow, answer-follows}
use Rattle.turn_rule.proofs.Within.{answer-kind, follow-turn-state, turn-within, opening-within}
use Rattle.turn_rule.proofs.Monotone.{rounds-tighter}
use Rattle.turn_rule.proofs.Fractions.{bound-at, bound-looser, bound-max, bound-least, bound-sum, bound-neg, bound-times, bound-over, bound-outwards}

once : (x : ℤ) → pos 1 *ℤ x ≡ x
once x = omega (arith, ints)

module _ (game : Game) (scoring : Scoring) (wins : AreWinsWithin game scoring) (turns : ℕ) where
  -- over what values are counted after the turn, and before it
  abbrev after : ℕ
  after = scoring.scale * 36 ^ turns

  abbrev before : ℕ
  before = scoring.scale * 36 ^ suc turns

  times_36 : (n : ℕ) → 36 * (scoring.scale * n) ≡ scoring.scale * (36 * n)
  times_36 n = omega arith

  before_is : 36 * after ≡ before
  before_is = times_36 (36 ^ turns) ∙ ap (λ (n : ℕ). scoring.scale * n) (sym (pow-succ' 36 turns))

  -- at one state, only the words of states that may follow count
  module _ (end : End) (u : Words) (later : Values) (p : Placement) where
    bound-end : (k : ℕ) → k < kinds_of game → AreBoundsOn (MayFollow game.stakes p k) (other end) u later after → (roll : Dice) (q : Placement) → IsRoll roll → Among q (legal_ends p roll) → IsBoundOf end (worth end (kind_at game.stakes k) u q) (left_with game.stakes scoring turns later k q) after
    bound-end k inside bounds roll q right m = by_points (points q) refl where
      by_points : (o : Option Won) → points q ≡ o → IsBoundOf end (if_won o (λ won. at end (win (kind_at game.stakes k) won)) (neg_ℤ (u (other end) (swap q) (kind_at game.stakes k).next))) (if_won o (λ won. pos (36 ^ turns) *ℤ scoring.win k won) (neg_ℤ (later (swap q) (kind_at game.stakes k).next))) after
      by_points None on = bound-neg end _ _ after (bounds (swap q) (kind_at game.stakes k).next (may-follow game.stakes p k roll q right m on))
      by_points (Some won) over = bound-over end (36 ^ turns) _ _ scoring.scale (bound-at end _ _ scoring.scale (wins k won inside))

    pub bound-roll : (k factor : ℕ) → k < kinds_of game → AreBoundsOn (MayFollow game.stakes p k) (other end) u later after → IsBoundOf end (roll_value end game.stakes u p k factor) (pos factor *ℤ rolled game.stakes scoring turns later p k) before
    bound-roll k factor inside bounds =
        subst (IsBoundOf end (roll_value end game.stakes u p k factor) (pos factor *ℤ rolled game.stakes scoring turns later p k)) before_is
        (bound-outwards end _ _ after (bound-times end factor _ _ after (bound-sum end (worth end (kind_at game.stakes k) u) (left_with game.stakes scoring turns later k) p after (bound-end k inside bounds))))

    bound-better : (k : ℕ) (double : Option Double) → ((d : Double) → double ≡ Some d → (taken : Taken) → Among taken d.answers.items → (taken.kind < kinds_of game) × AreBoundsOn (MayFollow game.stakes p taken.kind) (other end) u later after) → IfSome double (λ double. Encloses double.pass (scoring.pass k) scoring.scale) → (a x : ℤ) → IsBoundOf end a x before → IsBoundOf end (or_double end game.stakes u p a double) (better_of game.stakes scoring turns later p k x double) before
    bound-better k None bounds passes a x h = h
    bound-better k (Some double) bounds passes a x h =
        bound-max end _ _ _ _ before h (bound-least Taken end (λ taken. roll_value end game.stakes u p taken.kind taken.factor) (λ taken. pos taken.factor *ℤ rolled game.stakes scoring turns later p taken.kind) _ _ double.answers.items before
        (bound-over end (36 ^ suc turns) _ _ scoring.scale (bound-at end _ _ scoring.scale passes))
        (λ taken m. let inside = bounds double refl taken m in bound-roll taken.kind taken.factor inside.0 inside.1))

    pub bound-turn : IsValid game.stakes → ArePassesWithin game scoring → (k : ℕ) → k < kinds_of game → AreBoundsOn (MayFollowTurn game.stakes p k) (other end) u later after → IsBoundOf end (turn game.stakes u end p k) (before_turn game.stakes scoring turns later p k) before
    unfolding turn
    bound-turn valid passes k inside bounds =
        bound-better k (kind_at game.stakes k).double
        (λ d is taken m. (answer-kind game valid k inside d is taken (Among-Contains taken d.answers.items m), λ q j may. bounds q j (answer-follows game.stakes p k d is taken m q j may)))
        (passes k inside) _ _
        (subst (λ (x : ℤ). IsBoundOf end (roll_value end game.stakes u p k 1) x before) (once (rolled game.stakes scoring turns later p k)) (bound-roll k 1 inside (λ q j may. bounds q j (inl may))))

  pub turn-encloses : IsValid game.stakes → ArePassesWithin game scoring → (u : Words) → AreEnclosing game scoring turns u → AreEnclosing game scoring (suc turns) (turn game.stakes u)
  unfolding exact
  turn-encloses valid passes u encloses p k state = record {
    lower = bound-turn Lower u (exact game.stakes scoring turns) p valid passes k state.kind (λ q j may. (encloses q j (follow-turn-state game valid p k state q j may)).upper);
    upper = bound-turn Upper u (exact game.stakes scoring turns) p valid passes k state.kind (λ q j may. (encloses q j (follow-turn-state game valid p k state q j may)).lower);
  }

module _ (game : Game) (valid : IsValid game.stakes) where
  -- each word of the second words is looser, so what the first enclose they enclose
  pub looser-encloses : (scoring : Scoring) (turns : ℕ) (u v : Words) → AreNoLooser game u v → AreEnclosing game scoring turns u → AreEnclosing game scoring turns v
  looser-encloses scoring turns u v tight encloses p k state = record {
    lower = bound-looser Lower _ _ (exact game.stakes scoring turns p k) _ (tight Lower p k state) (encloses p k state).lower;
    upper = bound-looser Upper _ _ (exact game.stakes scoring turns p k) _ (tight Upper p k state) (encloses p k state).upper;
  }

  pub consistent-enclose : (u : Words) → AreConsistent game u → (scoring : Scoring) → AreWinsWithin game scoring → ArePassesWithin game scoring → AreEndsWithin game u scoring → (turns : ℕ) → AreEnclosing game scoring turns u
  unfolding exact
  consistent-enclose u consistent scoring wins passes ends zero p k state = subst (Encloses (pair_of u p k) (scoring.unfinished p k)) at_the_end (ends p k state) where
    at_the_end : scoring.scale ≡ scoring.scale * 36 ^ 0
    at_the_end = omega arith
  consistent-enclose u consistent scoring wins passes ends (suc turns) p k state =
      looser-encloses scoring (suc turns) (turn game.stakes u) u consistent
      (turn-encloses game scoring wins turns valid passes u (consistent-enclose u consistent scoring wins passes ends turns)) p k state

  pub bound-consistent : AreConsistent game (bound_words game.stakes)
  bound-consistent Lower p k state = (turn-within game valid (bound_words game.stakes) (opening-within game valid) p k state).from
  bound-consistent Upper p k state = (turn-within game valid (bound_words game.stakes) (opening-within game valid) p k state).to

  pub exact-within : (scoring : Scoring) → IsScoring game scoring → (turns : ℕ) → AreEnclosing game scoring turns (bound_words game.stakes)
  exact-within scoring within = consistent-enclose (bound_words game.stakes) bound-consistent scoring within.wins within.passes within.unfinished

  pub rounds-enclose : (r : ℕ) → AreSoundFrom game r (rounds game.stakes r)
  unfolding rounds
  rounds-enclose zero turns h scoring within = exact-within scoring within turns
  rounds-enclose (suc r) zero h scoring within = absurd (omega arith)
  rounds-enclose (suc r) (suc turns) h scoring within = turn-encloses game scoring within.wins turns valid within.passes (rounds game.stakes r) (rounds-enclose r turns (omega arith) scoring within)

  pub looser-enclose : (r : ℕ) (u : Words) → AreNoLooser game (rounds game.stakes r) u → AreSoundFrom game r u
  looser-enclose r u tight turns more scoring within = looser-encloses scoring turns (rounds game.stakes r) u tight (rounds-enclose r turns more scoring within)

  pub looser-sound : (r : ℕ) (u : Words) → AreNoLooser game (rounds game.stakes r) u → AreSound game u
  looser-sound r u tight = (r, looser-enclose r u tight)

  pub rounds-sound : (r : ℕ) → AreSound game (rounds game.stakes r)
  rounds-sound r = (r, rounds-enclose r)

  pub rounds-consistent : (r : ℕ) → AreConsistent game (rounds game.stakes r)
  unfolding rounds
  rounds-consistent r = rounds-tighter game valid r

-- where words are sound, each of them is
pub each-sound : (game : Game) (u : Words) → AreSound game u → (end : End) (p : Placement) (k : ℕ) → IsState game p k → InTheEnd game (λ scoring turns. IsBoundAt end game.stakes scoring turns (u end p k) p k)
each-sound game u sound Lower p k state = (sound.0, λ turns more scoring within. (sound.1 turns more scoring within p k state).lower)
each-sound game u sound Upper p k state = (sound.0, λ turns more scoring within. (sound.1 turns more scoring within p k state).upper)
