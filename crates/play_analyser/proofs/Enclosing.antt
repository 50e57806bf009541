-- What a choice loses over words encloses what it loses exactly.
use Rattle.std.proofs.Common.{◌≡◌, ◌<◌, ℕ, suc, ℤ, pos, neg_ℤ, ◌*ℤ◌, ◌*◌, ◌^◌, List, [], ◌∷◌, map, Bool, true, false, Option, Some, None, IfSome, inl, inr, refl, subst, if◌then◌else◌, arith}
use Rattle.std.specs.Bool.{⊤}
use Rattle.std.proofs.lemmas.Int.{ints}
use Rattle.position_rank.specs.Placement.{Placement, swap}
use Rattle.roll_table.specs.Rolls.{Dice, IsRoll}
use Rattle.move_rules.specs.Ends.{legal_ends}
use Rattle.move_rules.specs.Listing.{Among}
use Rattle.move_rules.proofs.Members.{Among-Contains, Contains-Among}
use Rattle.move_rules.proofs.EndsExact.{legal_ends-complete}
use Rattle.move_rules.specs.declared.payoff.Won.{Won}
use Rattle.move_rules.specs.Payoff.{points}
use Rattle.directed_fixed.specs.declared.bounds.End.{End}
use Rattle.directed_fixed.specs.declared.bounds.End.TheVariants.{Lower, Upper}
use Rattle.directed_fixed.specs.Bounds.{Bounds, other, at, negated}
use Rattle.cube_actions.specs.declared.kind.Double.{Double}
use Rattle.cube_actions.specs.declared.kind.Taken.{Taken}
use Rattle.cube_actions.specs.Stakes.{kind_at}
use Rattle.turn_rule.specs.declared.game.Game.{Game}
use Rattle.turn_rule.specs.Games.{IsGame, kinds_of}
use Rattle.turn_rule.specs.Turn.{Words, win, if_won, worth, roll_value}
use Rattle.turn_rule.specs.States.{IsState}
use Rattle.turn_rule.specs.Exact.{Scoring, exact, left_with, rolled, after_double}
use Rattle.turn_rule.specs.Truth.{IsBoundOf, Encloses, IsScoring, AreEnclosing}
use Rattle.turn_rule.specs.Looks.{MayFollow, roll_pair}
use Rattle.turn_rule.proofs.Follows.{may-follow, answer-follows}
use Rattle.turn_rule.proofs.Within.{answer-kind, follow-state, follow-turn-state}
use Rattle.turn_rule.proofs.Enclosing.{bound-roll}
use Rattle.turn_rule.proofs.Fractions.{bound-at, bound-least, bound-neg, bound-over}
use Rattle.turn_rule.specs.declared.choice.Choice.{Choice}
use Rattle.turn_rule.specs.declared.choice.Choice.TheVariants.{Played, Offered, Answered}
use Rattle.cube_actions.specs.declared.action.Offer.{Offer}
use Rattle.cube_actions.specs.declared.action.Offer.TheVariants.{NoDouble, Double as Doubled}
use Rattle.cube_actions.specs.declared.action.Answer.{Answer}
use Rattle.cube_actions.specs.declared.action.Answer.TheVariants.{Take, Pass, Beaver}
use Rattle.play_analyser.specs.Losses.{Options}
use Rattle.play_analyser.specs.Choices.{IsChoice, IfDouble, HasAnswer, all_but, same_position, answer_options}
use Rattle.play_analyser.specs.Regrets.{play_pair, taken_pair, double_pair, taken_worth, loss_of, regret_of, cube_loss, cube_regret, offer_pairs, offer_worths, answer_pairs, answer_worths, counted_over}
use Rattle.play_analyser.proofs.Ahead.{AllEnclose, OptionsEnclose, loss-encloses, map-encloses}

once : (x : ℤ) → pos 1 *ℤ x ≡ x
once x = omega (arith, ints)

-- what is left of a list without one was in it
pub kept : (end q : Placement) (ends : List Placement) → Among q (all_but end ends) → Among q ends
kept end q [] m = m
kept end q (r ∷ ends) m = by_same (same_position r end) (kept end q ends) m where
  by_same : (same : Bool) → (Among q (all_but end ends) → Among q ends) → Among q (if same then all_but end ends else r ∷ all_but end ends) → Among q (r ∷ ends)
  by_same true later m = inr (later m)
  by_same false later (inl first) = inl first
  by_same false later (inr rest) = inr (later rest)

negated-encloses : (pair : Bounds) (x : ℤ) (over : ℕ) → Encloses pair x over → Encloses (negated pair) (neg_ℤ x) over
negated-encloses pair x over h = record {
  lower = bound-neg Lower pair.upper x over h.upper;
  upper = bound-neg Upper pair.lower x over h.lower;
}

module _ (game : Game) (right : IsGame game) (scoring : Scoring) (within : IsScoring game scoring) (turns : ℕ) (u : Words) (encloses : AreEnclosing game scoring turns u) (p : Placement) (k : ℕ) (state : IsState game p k) where
  abbrev after : ℕ
  after = scoring.scale * 36 ^ turns

  abbrev before : ℕ
  before = scoring.scale * 36 ^ suc turns

  -- a play
  bound-end : (end : End) (roll : Dice) (q : Placement) → IsRoll roll → Among q (legal_ends p roll) → IsBoundOf end (worth end (kind_at game.stakes k) u q) (left_with game.stakes scoring turns (exact game.stakes scoring turns) k q) after
  bound-end end roll q is_roll m = by_points (points q) refl where
    later : (end : End) → points q ≡ None → IsBoundOf (other end) (u (other end) (swap q) (kind_at game.stakes k).next) (exact game.stakes scoring turns (swap q) (kind_at game.stakes k).next) after
    later Lower on = (encloses _ _ (follow-state game right.stakes p k state _ _ (may-follow game.stakes p k roll q is_roll m on))).upper
    later Upper on = (encloses _ _ (follow-state game right.stakes p k state _ _ (may-follow game.stakes p k roll q is_roll m on))).lower

    by_points : (o : Option Won) → points q ≡ o → IsBoundOf end (if_won o (λ won. at end (win (kind_at game.stakes k) won)) (neg_ℤ (u (other end) (swap q) (kind_at game.stakes k).next))) (if_won o (λ won. pos (36 ^ turns) *ℤ scoring.win k won) (neg_ℤ (exact game.stakes scoring turns (swap q) (kind_at game.stakes k).next))) after
    by_points None on = bound-neg end _ _ after (later end on)
    by_points (Some won) over = bound-over end (36 ^ turns) _ _ scoring.scale (bound-at end _ _ scoring.scale (within.wins k won state.kind))

  play-encloses : (roll : Dice) (q : Placement) → IsRoll roll → Among q (legal_ends p roll) → Encloses (play_pair (kind_at game.stakes k) u q) (left_with game.stakes scoring turns (exact game.stakes scoring turns) k q) after
  play-encloses roll q is_roll m = record { lower = bound-end Lower roll q is_roll m; upper = bound-end Upper roll q is_roll m }

  -- rolling in a kind whose following states are states of the game
  roll-encloses : (j factor : ℕ) → j < kinds_of game → ((q : Placement) (l : ℕ) → MayFollow game.stakes p j q l → IsState game q l) → Encloses (roll_pair game.stakes u p j factor) (pos factor *ℤ rolled game.stakes scoring turns (exact game.stakes scoring turns) p j) before
  roll-encloses j factor inside states = record {
    lower = bound-roll game scoring within.wins turns Lower u (exact game.stakes scoring turns) p j factor inside (λ q l may. (encloses q l (states q l may)).upper);
    upper = bound-roll game scoring within.wins turns Upper u (exact game.stakes scoring turns) p j factor inside (λ q l may. (encloses q l (states q l may)).lower);
  }

  rolling-encloses : Encloses (roll_pair game.stakes u p k 1) (rolled game.stakes scoring turns (exact game.stakes scoring turns) p k) before
  rolling-encloses = subst (λ (x : ℤ). Encloses (roll_pair game.stakes u p k 1) x before) (once (rolled game.stakes scoring turns (exact game.stakes scoring turns) p k)) (roll-encloses k 1 state.kind (follow-state game right.stakes p k state))

  module _ (double : Double) (is : (kind_at game.stakes k).double ≡ Some double) where
    taken-encloses : (taken : Taken) → Among taken double.answers.items → Encloses (taken_pair game.stakes u p taken) (taken_worth game.stakes scoring turns p taken) before
    taken-encloses taken m =
        roll-encloses taken.kind taken.factor (answer-kind game right.stakes k state.kind double is taken (Among-Contains taken double.answers.items m))
        (λ q l may. follow-turn-state game right.stakes p k state q l (answer-follows game.stakes p k double is taken m q l may))

    pass-encloses : Encloses double.pass (pos (36 ^ suc turns) *ℤ scoring.pass k) before
    pass-encloses =
        let within_pass = subst (λ (o : Option Double). IfSome o (λ d. Encloses d.pass (scoring.pass k) scoring.scale)) is (within.passes k state.kind) in
        record {
          lower = bound-over Lower (36 ^ suc turns) _ _ scoring.scale within_pass.lower;
          upper = bound-over Upper (36 ^ suc turns) _ _ scoring.scale within_pass.upper;
        }

    double-encloses : Encloses (double_pair game.stakes u p double) (after_double game.stakes scoring turns (exact game.stakes scoring turns) p k double) before
    double-encloses = record {
      lower = bound-least Taken Lower (λ taken. roll_value Lower game.stakes u p taken.kind taken.factor) (taken_worth game.stakes scoring turns p) _ _ double.answers.items before pass-encloses.lower (λ taken m. (taken-encloses taken m).lower);
      upper = bound-least Taken Upper (λ taken. roll_value Upper game.stakes u p taken.kind taken.factor) (taken_worth game.stakes scoring turns p) _ _ double.answers.items before pass-encloses.upper (λ taken m. (taken-encloses taken m).upper);
    }

    offer-encloses : (offer : Offer) → OptionsEnclose before (offer_pairs game.stakes u p k double offer) (offer_worths game.stakes scoring turns p k double offer)
    offer-encloses NoDouble = record { chosen = rolling-encloses; others = (double-encloses, tt) }
    offer-encloses Doubled = record { chosen = double-encloses; others = (rolling-encloses, tt) }

    passing : Encloses (negated double.pass) (neg_ℤ (pos (36 ^ suc turns) *ℤ scoring.pass k)) before
    passing = negated-encloses _ _ before pass-encloses

    taking : (taken : Taken) → Among taken double.answers.items → Encloses (negated (taken_pair game.stakes u p taken)) (neg_ℤ (taken_worth game.stakes scoring turns p taken)) before
    taking taken m = negated-encloses _ _ before (taken-encloses taken m)

    abbrev pairs : List Taken → Answer → Options Bounds
    pairs takes answer = answer_options (negated double.pass) (map (λ (taken : Taken). negated (taken_pair game.stakes u p taken)) takes) answer

    abbrev worths : List Taken → Answer → Options ℤ
    worths takes answer = answer_options (neg_ℤ (pos (36 ^ suc turns) *ℤ scoring.pass k)) (map (λ (taken : Taken). neg_ℤ (taken_worth game.stakes scoring turns p taken)) takes) answer

    all-taken : (takes : List Taken) → ((taken : Taken) → Among taken takes → Among taken double.answers.items) → AllEnclose before (map (λ (taken : Taken). negated (taken_pair game.stakes u p taken)) takes) (map (λ (taken : Taken). neg_ℤ (taken_worth game.stakes scoring turns p taken)) takes)
    all-taken takes among = map-encloses before _ _ takes (λ taken m. taking taken (among taken m))

    answers-enclose : (takes : List Taken) → ((taken : Taken) → Among taken takes → Among taken double.answers.items) → (answer : Answer) → OptionsEnclose before (pairs takes answer) (worths takes answer)
    answers-enclose [] among Take = record { chosen = passing; others = tt }
    answers-enclose [] among Beaver = record { chosen = passing; others = tt }
    answers-enclose [] among Pass = record { chosen = passing; others = tt }
    answers-enclose (take ∷ takes) among Take = record { chosen = taking take (among take (inl refl)); others = (passing, all-taken takes (λ taken m. among taken (inr m))) }
    answers-enclose (take ∷ takes) among Pass = record { chosen = passing; others = all-taken (take ∷ takes) among }
    answers-enclose (take ∷ []) among Beaver = record { chosen = passing; others = all-taken (take ∷ []) among }
    answers-enclose (take ∷ beaver ∷ takes) among Beaver = record { chosen = taking beaver (among beaver (inr (inl refl))); others = (taking take (among take (inl refl)), (passing, tt)) }

  offered : (offer : Offer) (double : Option Double) → (kind_at game.stakes k).double ≡ double → IfDouble double (λ d. ⊤) → Encloses (cube_loss double (λ d. offer_pairs game.stakes u p k d offer)) (cube_regret double (λ d. offer_worths game.stakes scoring turns p k d offer)) before
  offered offer (Some double) is may = loss-encloses before _ _ (offer-encloses double is offer)
  offered offer None is may = absurd may

  answered : (answer : Answer) (double : Option Double) → (kind_at game.stakes k).double ≡ double → IfDouble double (λ d. HasAnswer d answer) → Encloses (cube_loss double (λ d. answer_pairs game.stakes u p d answer)) (cube_regret double (λ d. answer_worths game.stakes scoring turns p k d answer)) before
  answered answer (Some double) is may = loss-encloses before _ _ (answers-enclose double is double.answers.items (λ taken m. m) answer)
  answered answer None is may = absurd may

  pub loss-of-encloses : (choice : Choice) → IsChoice game.stakes p k choice → Encloses (loss_of game.stakes u p k choice) (regret_of game.stakes scoring turns p k choice) (counted_over scoring turns choice)
  loss-of-encloses (Played roll end) is = loss-encloses after _ _ (record {
    chosen = play-encloses roll end is.0 (Contains-Among end (legal_ends p roll) (legal_ends-complete p roll end is.1));
    others = map-encloses after (play_pair (kind_at game.stakes k) u) (left_with game.stakes scoring turns (exact game.stakes scoring turns) k) (all_but end (legal_ends p roll)) (λ q m. play-encloses roll q is.0 (kept end q (legal_ends p roll) m));
  })
  loss-of-encloses (Offered offer) is = offered offer (kind_at game.stakes k).double refl is
  loss-of-encloses (Answered answer) is = answered answer (kind_at game.stakes k).double refl is
