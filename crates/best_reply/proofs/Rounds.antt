-- Rounds of both sides: they stay within the bound, tighten, and enclose every longer game.
use Rattle.std.proofs.Common.{◌≡◌, ◌≤◌, ◌*◌, ◌^◌, ℕ, zero, suc, subst, arith}
use Rattle.position_rank.specs.Placement.{Placement}
use Rattle.directed_fixed.specs.declared.bounds.End.TheVariants.{Lower, Upper}
use Rattle.directed_fixed.specs.Bounds.{other}
use Rattle.cube_actions.specs.Stakes.{IsValid}
use Rattle.turn_rule.specs.declared.game.Game.{Game}
use Rattle.turn_rule.specs.Turn.{Words, bound_words, turn}
use Rattle.turn_rule.specs.States.{IsState, AreWithin, AreNoLooser, Agree, pair_of}
use Rattle.turn_rule.specs.Exact.{Scoring, Values, before_turn}
use Rattle.turn_rule.specs.Truth.{Encloses, AreWinsWithin, ArePassesWithin}
use Rattle.turn_rule.proofs.Enclosing.{bound-turn}
use Rattle.turn_rule.proofs.Fractions.{bound-looser}
use Rattle.turn_rule.proofs.Monotone.{turn-tighter}
use Rattle.turn_rule.proofs.Within.{follow-turn-state, opening-within, turn-within}
use Rattle.best_reply.specs.Policies.{Policy, IsLegalPolicy}
use Rattle.best_reply.specs.Replies.{AreScored, Follower, Mover, Replier, Worths, before_turn_by, worths}
use Rattle.best_reply.specs.ReplyPairs.{reply_rounds, turn_by}
use Rattle.best_reply.proofs.TurnsBy.{bound-turn_by, turn_by-agree, turn_by-tighter, turn_by-within}

module _ (policy : Policy) (legal : IsLegalPolicy policy) (game : Game) (valid : IsValid game.stakes) where
  pub turn_by-agrees : (u v : Words) → Agree game u v → Agree game (turn_by policy game.stakes u) (turn_by policy game.stakes v)
  turn_by-agrees u v same end p k state = turn_by-agree policy legal game.stakes p end u v k (λ q j may. same (other end) q j (follow-turn-state game valid p k state q j may))

  turn_by-tightens : (u v : Words) → AreNoLooser game u v → AreNoLooser game (turn_by policy game.stakes u) (turn_by policy game.stakes v)
  turn_by-tightens u v tight end p k state = turn_by-tighter policy legal game.stakes p end u v k (λ q j may. tight (other end) q j (follow-turn-state game valid p k state q j may))

  pub turn_by-stays : (u : Words) → AreWithin game u → AreWithin game (turn_by policy game.stakes u)
  turn_by-stays u words p k state = turn_by-within policy legal game valid u p k state.kind (λ q j may. words q j (follow-turn-state game valid p k state q j may))

  pub rounds-within : (r : ℕ) (mover : Mover) → AreWithin game (reply_rounds policy game.stakes r mover)
  unfolding reply_rounds
  rounds-within zero mover = opening-within game valid
  rounds-within (suc r) Follower = turn_by-stays (reply_rounds policy game.stakes r Replier) (rounds-within r Replier)
  rounds-within (suc r) Replier = turn-within game valid (reply_rounds policy game.stakes r Follower) (rounds-within r Follower)

  -- words within the bound are no looser than what the bound tells
  no-looser : (u : Words) → AreWithin game u → AreNoLooser game u (bound_words game.stakes)
  no-looser u within Lower p k state = (within p k state).from
  no-looser u within Upper p k state = (within p k state).to

  pub rounds-tighter : (r : ℕ) (mover : Mover) → AreNoLooser game (reply_rounds policy game.stakes (suc r) mover) (reply_rounds policy game.stakes r mover)
  unfolding reply_rounds
  rounds-tighter zero Follower = no-looser (turn_by policy game.stakes (bound_words game.stakes)) (turn_by-stays (bound_words game.stakes) (opening-within game valid))
  rounds-tighter zero Replier = no-looser (turn game.stakes (bound_words game.stakes)) (turn-within game valid (bound_words game.stakes) (opening-within game valid))
  rounds-tighter (suc r) Follower = turn_by-tightens (reply_rounds policy game.stakes (suc r) Replier) (reply_rounds policy game.stakes r Replier) (rounds-tighter r Replier)
  rounds-tighter (suc r) Replier = turn-tighter game valid (reply_rounds policy game.stakes (suc r) Follower) (reply_rounds policy game.stakes r Follower) (rounds-tighter r Follower)

  -- ---- enclosing

  -- words enclose values in each state
  abbrev Enclose : ℕ → Words → Values → Type 0
  Enclose over u values = (p : Placement) (k : ℕ) → IsState game p k → Encloses (pair_of u p k) (values p k) over

  module _ (scoring : Scoring) (wins : AreWinsWithin game scoring) (passes : ArePassesWithin game scoring) (turns : ℕ) (u : Words) (later : Values) (encloses : Enclose (scoring.scale * 36 ^ turns) u later) where
    follow-encloses : Enclose (scoring.scale * 36 ^ suc turns) (turn_by policy game.stakes u) (before_turn_by policy game.stakes scoring turns later)
    follow-encloses p k state = record {
      lower = bound-turn_by policy legal game scoring wins turns Lower u later p valid passes k state.kind (λ q j may. (encloses q j (follow-turn-state game valid p k state q j may)).upper);
      upper = bound-turn_by policy legal game scoring wins turns Upper u later p valid passes k state.kind (λ q j may. (encloses q j (follow-turn-state game valid p k state q j may)).lower);
    }

    reply-encloses : Enclose (scoring.scale * 36 ^ suc turns) (turn game.stakes u) (before_turn game.stakes scoring turns later)
    reply-encloses p k state = record {
      lower = bound-turn game scoring wins turns Lower u later p valid passes k state.kind (λ q j may. (encloses q j (follow-turn-state game valid p k state q j may)).upper);
      upper = bound-turn game scoring wins turns Upper u later p valid passes k state.kind (λ q j may. (encloses q j (follow-turn-state game valid p k state q j may)).lower);
    }

  looser-encloses : (over : ℕ) (u v : Words) (values : Values) → AreNoLooser game u v → Enclose over u values → Enclose over v values
  looser-encloses over u v values tight encloses p k state = record {
    lower = bound-looser Lower _ _ (values p k) over (tight Lower p k state) (encloses p k state).lower;
    upper = bound-looser Upper _ _ (values p k) over (tight Upper p k state) (encloses p k state).upper;
  }

  module _ (scoring : Scoring) (ends : Worths) (scored : AreScored game scoring ends) where
    wins : AreWinsWithin game scoring
    wins = (scored Follower).wins

    passes : ArePassesWithin game scoring
    passes = (scored Follower).passes

    -- so many turns before the end
    abbrev worth_in : ℕ → Worths
    worth_in = worths policy game.stakes scoring ends

    at_the_end : scoring.scale ≡ scoring.scale * 36 ^ 0
    at_the_end = omega arith

    bounds-enclose : (turns : ℕ) (mover : Mover) → Enclose (scoring.scale * 36 ^ turns) (bound_words game.stakes) (worth_in turns mover)
    unfolding worths
    bounds-enclose zero mover = λ p k state. subst (Encloses (pair_of (bound_words game.stakes) p k) (ends mover p k)) at_the_end ((scored mover).unfinished p k state)
    bounds-enclose (suc turns) Follower =
        looser-encloses _ (turn_by policy game.stakes (bound_words game.stakes)) (bound_words game.stakes) _ (no-looser (turn_by policy game.stakes (bound_words game.stakes)) (turn_by-stays (bound_words game.stakes) (opening-within game valid)))
        (follow-encloses scoring wins passes turns (bound_words game.stakes) (worth_in turns Replier) (bounds-enclose turns Replier))
    bounds-enclose (suc turns) Replier =
        looser-encloses _ (turn game.stakes (bound_words game.stakes)) (bound_words game.stakes) _ (no-looser (turn game.stakes (bound_words game.stakes)) (turn-within game valid (bound_words game.stakes) (opening-within game valid)))
        (reply-encloses scoring wins passes turns (bound_words game.stakes) (worth_in turns Follower) (bounds-enclose turns Follower))

    pub rounds-enclose : (r turns : ℕ) → r ≤ turns → (mover : Mover) → Enclose (scoring.scale * 36 ^ turns) (reply_rounds policy game.stakes r mover) (worth_in turns mover)
    unfolding reply_rounds worths
    rounds-enclose zero turns h mover = bounds-enclose turns mover
    rounds-enclose (suc r) zero h mover = absurd (omega arith)
    rounds-enclose (suc r) (suc turns) h Follower = follow-encloses scoring wins passes turns (reply_rounds policy game.stakes r Replier) (worth_in turns Replier) (rounds-enclose r turns (omega arith) Replier)
    rounds-enclose (suc r) (suc turns) h Replier = reply-encloses scoring wins passes turns (reply_rounds policy game.stakes r Follower) (worth_in turns Follower) (rounds-enclose r turns (omega arith) Follower)
