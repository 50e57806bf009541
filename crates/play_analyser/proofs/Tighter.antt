-- Tighter words and tighter stakes give tighter losses.
use Rattle.std.proofs.Common.{◌≡◌, ℕ, ℤ, neg_ℤ, ◌+ℤ◌, ◌≤ℤ◌, List, [], ◌∷◌, map, Option, Some, None, inl, inr, refl, subst, arith}
use Rattle.std.specs.Bool.{⊤}
use Rattle.position_rank.specs.Placement.{Placement, swap}
use Rattle.roll_table.specs.Rolls.{Dice, IsRoll}
use Rattle.move_rules.specs.Ends.{legal_ends}
use Rattle.move_rules.specs.Listing.{Among}
use Rattle.move_rules.proofs.Members.{Contains-Among}
use Rattle.move_rules.proofs.EndsExact.{legal_ends-complete}
use Rattle.move_rules.specs.declared.payoff.Won.{Won}
use Rattle.move_rules.specs.Payoff.{points}
use Rattle.directed_fixed.specs.declared.bounds.End.{End}
use Rattle.directed_fixed.specs.declared.bounds.End.TheVariants.{Lower, Upper}
use Rattle.directed_fixed.specs.Bounds.{Bounds, IsNoLooser, AreNoLooserPairs, other, at, at_zero, negated}
use Rattle.cube_actions.specs.declared.kind.Double.{Double}
use Rattle.cube_actions.specs.declared.kind.Taken.{Taken}
use Rattle.cube_actions.specs.Stakes.{Terms, kind_at}
use Rattle.turn_rule.specs.declared.game.Game.{Game}
use Rattle.turn_rule.specs.Games.{IsGame}
use Rattle.turn_rule.specs.Turn.{Words, win, if_won, worth, roll_value, least, doubled}
use Rattle.turn_rule.specs.States.{IsState, AreNoLooser}
use Rattle.turn_rule.specs.Truth.{AreNoLooserDoubles, IsNoLooserDouble, IsNoLooserKind, AreNoLooserStakes}
use Rattle.turn_rule.specs.Looks.{MayFollow, roll_pair}
use Rattle.turn_rule.proofs.Integers.{le_refl, add_mono}
use Rattle.turn_rule.proofs.Follows.{may-follow, answer-follows}
use Rattle.turn_rule.proofs.Within.{follow-state, follow-turn-state}
use Rattle.turn_rule.proofs.Monotone.{roll-tighter}
use Rattle.turn_rule.proofs.Tightness.{tight-at, tight-neg, tight-max, tight-least}
use Rattle.turn_rule.specs.declared.choice.Choice.{Choice}
use Rattle.turn_rule.specs.declared.choice.Choice.TheVariants.{Played, Offered, Answered}
use Rattle.cube_actions.specs.declared.action.Offer.{Offer}
use Rattle.cube_actions.specs.declared.action.Offer.TheVariants.{NoDouble, Double as Doubled}
use Rattle.cube_actions.specs.declared.action.Answer.{Answer}
use Rattle.cube_actions.specs.declared.action.Answer.TheVariants.{Take, Pass, Beaver}
use Rattle.play_analyser.specs.Losses.{Options, ahead, loss, lower_ends, upper_ends}
use Rattle.play_analyser.specs.Choices.{IsChoice, all_but, answer_options}
use Rattle.play_analyser.specs.Regrets.{play_pair, taken_pair, double_pair, loss_of, cube_loss, offer_pairs, answer_pairs}
use Rattle.play_analyser.proofs.Enclosing.{kept}

-- each pair is at least as tight as its fellow
abbrev pub AllTighter : List Bounds → List Bounds → Type 0
AllTighter [] [] = ⊤
AllTighter [] (d ∷ ds) = ⊥
AllTighter (c ∷ cs) [] = ⊥
AllTighter (c ∷ cs) (d ∷ ds) = AreNoLooserPairs c d × AllTighter cs ds

-- and so are what could be chosen
pub record OptionsTighter (c d : Options Bounds) : Type 0 where
  pub chosen : AreNoLooserPairs c.chosen d.chosen
  pub others : AllTighter c.others d.others

tight-plus : (end : End) (a b c d : ℤ) → IsNoLooser end a c → IsNoLooser end b d → IsNoLooser end (a +ℤ b) (c +ℤ d)
tight-plus Lower a b c d h k = add_mono _ _ _ _ h k
tight-plus Upper a b c d h k = add_mono _ _ _ _ h k

lower-ahead : (cs ds : List Bounds) (a b : ℤ) → AllTighter cs ds → a ≤ℤ b → IsNoLooser Lower (ahead (lower_ends cs) a) (ahead (lower_ends ds) b)
lower-ahead [] [] a b all h = le_refl _
lower-ahead [] (d ∷ ds) a b all h = absurd all
lower-ahead (c ∷ cs) [] a b all h = absurd all
lower-ahead (c ∷ cs) (d ∷ ds) a b all h =
    tight-max Lower (c.lower +ℤ neg_ℤ a) (ahead (lower_ends cs) a) (d.lower +ℤ neg_ℤ b) (ahead (lower_ends ds) b)
    (tight-plus Lower c.lower (neg_ℤ a) d.lower (neg_ℤ b) all.0.lower (tight-neg Lower a b h)) (lower-ahead cs ds a b all.1 h)

upper-ahead : (cs ds : List Bounds) (a b : ℤ) → AllTighter cs ds → b ≤ℤ a → IsNoLooser Upper (ahead (upper_ends cs) a) (ahead (upper_ends ds) b)
upper-ahead [] [] a b all h = le_refl _
upper-ahead [] (d ∷ ds) a b all h = absurd all
upper-ahead (c ∷ cs) [] a b all h = absurd all
upper-ahead (c ∷ cs) (d ∷ ds) a b all h =
    tight-max Upper (c.upper +ℤ neg_ℤ a) (ahead (upper_ends cs) a) (d.upper +ℤ neg_ℤ b) (ahead (upper_ends ds) b)
    (tight-plus Upper c.upper (neg_ℤ a) d.upper (neg_ℤ b) all.0.upper (tight-neg Upper a b h)) (upper-ahead cs ds a b all.1 h)

pub loss-tighter : (c d : Options Bounds) → OptionsTighter c d → AreNoLooserPairs (loss c) (loss d)
loss-tighter c d h = record {
  lower = lower-ahead c.others d.others c.chosen.upper d.chosen.upper h.others h.chosen.upper;
  upper = upper-ahead c.others d.others c.chosen.lower d.chosen.lower h.others h.chosen.lower;
}

pub map-tighter : {X : Type 0} (f g : X → Bounds) (xs : List X) → ((x : X) → Among x xs → AreNoLooserPairs (f x) (g x)) → AllTighter (map f xs) (map g xs)
map-tighter f g [] h = tt
map-tighter f g (x ∷ xs) h = (h x (inl refl), map-tighter f g xs (λ y m. h y (inr m)))

pub negated-tighter : (c d : Bounds) → AreNoLooserPairs c d → AreNoLooserPairs (negated c) (negated d)
negated-tighter c d h = record { lower = tight-neg Lower c.upper d.upper h.upper; upper = tight-neg Upper c.lower d.lower h.lower }

module _ (game : Game) (right : IsGame game) (b : Terms) (stakes : AreNoLooserStakes game.stakes b) (u v : Words) (words : AreNoLooser game u v) (p : Placement) (k : ℕ) (state : IsState game p k) where
  kind-tighter : IsNoLooserKind (kind_at game.stakes k) (kind_at b k)
  kind-tighter = stakes.kinds k (omega (arith, stakes.many, state.kind))

  worth-tighter : (end : End) (roll : Dice) (q : Placement) → IsRoll roll → Among q (legal_ends p roll) → IsNoLooser end (worth end (kind_at game.stakes k) u q) (worth end (kind_at b k) v q)
  worth-tighter end roll q is_roll m = by_points (points q) refl where
    by_points : (o : Option Won) → points q ≡ o → IsNoLooser end (if_won o (λ won. at end (win (kind_at game.stakes k) won)) (neg_ℤ (u (other end) (swap q) (kind_at game.stakes k).next))) (if_won o (λ won. at end (win (kind_at b k) won)) (neg_ℤ (v (other end) (swap q) (kind_at b k).next)))
    by_points None on =
        subst (λ (next : ℕ). IsNoLooser end (neg_ℤ (u (other end) (swap q) (kind_at game.stakes k).next)) (neg_ℤ (v (other end) (swap q) next))) kind-tighter.next
        (tight-neg end _ _ (words (other end) _ _ (follow-state game right.stakes p k state _ _ (may-follow game.stakes p k roll q is_roll m on))))
    by_points (Some won) over = tight-at end _ _ (kind-tighter.wins won)

  play-tighter : (roll : Dice) (q : Placement) → IsRoll roll → Among q (legal_ends p roll) → AreNoLooserPairs (play_pair (kind_at game.stakes k) u q) (play_pair (kind_at b k) v q)
  play-tighter roll q is_roll m = record { lower = worth-tighter Lower roll q is_roll m; upper = worth-tighter Upper roll q is_roll m }

  rolling-tighter : (j factor : ℕ) → ((q : Placement) (l : ℕ) → MayFollow game.stakes p j q l → IsState game q l) → AreNoLooserPairs (roll_pair game.stakes u p j factor) (roll_pair b v p j factor)
  rolling-tighter j factor states = record {
    lower = roll-tighter game.stakes b stakes Lower u v p j factor (λ q l may. words Upper q l (states q l may));
    upper = roll-tighter game.stakes b stakes Upper u v p j factor (λ q l may. words Lower q l (states q l may));
  }

  module _ (c d : Double) (is : (kind_at game.stakes k).double ≡ Some c) (tight : IsNoLooserDouble c d) where
    taken-tighter : (taken : Taken) → Among taken c.answers.items → AreNoLooserPairs (taken_pair game.stakes u p taken) (taken_pair b v p taken)
    taken-tighter taken m = rolling-tighter taken.kind taken.factor (λ q l may. follow-turn-state game right.stakes p k state q l (answer-follows game.stakes p k c is taken m q l may))

    abbrev least_in : End → List Taken → ℤ
    least_in end takes = least (at end d.pass) (map (λ (taken : Taken). roll_value end b v p taken.kind taken.factor) takes)

    double-tighter : AreNoLooserPairs (double_pair game.stakes u p c) (double_pair b v p d)
    double-tighter = record {
      lower = subst (λ (takes : List Taken). IsNoLooser Lower (doubled Lower game.stakes u p c) (least_in Lower takes)) tight.answers (tight-least Taken Lower (λ taken. roll_value Lower game.stakes u p taken.kind taken.factor) (λ taken. roll_value Lower b v p taken.kind taken.factor) _ _ c.answers.items tight.pass.lower (λ taken m. (taken-tighter taken m).lower));
      upper = subst (λ (takes : List Taken). IsNoLooser Upper (doubled Upper game.stakes u p c) (least_in Upper takes)) tight.answers (tight-least Taken Upper (λ taken. roll_value Upper game.stakes u p taken.kind taken.factor) (λ taken. roll_value Upper b v p taken.kind taken.factor) _ _ c.answers.items tight.pass.upper (λ taken m. (taken-tighter taken m).upper));
    }

    offer-tighter : (offer : Offer) → OptionsTighter (offer_pairs game.stakes u p k c offer) (offer_pairs b v p k d offer)
    offer-tighter NoDouble = record { chosen = rolling-tighter k 1 (follow-state game right.stakes p k state); others = (double-tighter, tt) }
    offer-tighter Doubled = record { chosen = double-tighter; others = (rolling-tighter k 1 (follow-state game right.stakes p k state), tt) }

    passing : AreNoLooserPairs (negated c.pass) (negated d.pass)
    passing = negated-tighter _ _ tight.pass

    taking : (taken : Taken) → Among taken c.answers.items → AreNoLooserPairs (negated (taken_pair game.stakes u p taken)) (negated (taken_pair b v p taken))
    taking taken m = negated-tighter _ _ (taken-tighter taken m)

    abbrev firsts : List Taken → Answer → Options Bounds
    firsts takes answer = answer_options (negated c.pass) (map (λ (taken : Taken). negated (taken_pair game.stakes u p taken)) takes) answer

    abbrev seconds : List Taken → Answer → Options Bounds
    seconds takes answer = answer_options (negated d.pass) (map (λ (taken : Taken). negated (taken_pair b v p taken)) takes) answer

    all-taken : (takes : List Taken) → ((taken : Taken) → Among taken takes → Among taken c.answers.items) → AllTighter (map (λ (taken : Taken). negated (taken_pair game.stakes u p taken)) takes) (map (λ (taken : Taken). negated (taken_pair b v p taken)) takes)
    all-taken takes among = map-tighter _ _ takes (λ taken m. taking taken (among taken m))

    answers-tighter : (takes : List Taken) → ((taken : Taken) → Among taken takes → Among taken c.answers.items) → (answer : Answer) → OptionsTighter (firsts takes answer) (seconds takes answer)
    answers-tighter [] among Take = record { chosen = passing; others = tt }
    answers-tighter [] among Beaver = record { chosen = passing; others = tt }
    answers-tighter [] among Pass = record { chosen = passing; others = tt }
    answers-tighter (take ∷ takes) among Take = record { chosen = taking take (among take (inl refl)); others = (passing, all-taken takes (λ taken m. among taken (inr m))) }
    answers-tighter (take ∷ takes) among Pass = record { chosen = passing; others = all-taken (take ∷ takes) among }
    answers-tighter (take ∷ []) among Beaver = record { chosen = passing; others = all-taken (take ∷ []) among }
    answers-tighter (take ∷ beaver ∷ takes) among Beaver = record { chosen = taking beaver (among beaver (inr (inl refl))); others = (taking take (among take (inl refl)), (passing, tt)) }

    answer-tighter : (answer : Answer) → AreNoLooserPairs (loss (answer_pairs game.stakes u p c answer)) (loss (answer_pairs b v p d answer))
    answer-tighter answer =
        subst (λ (takes : List Taken). AreNoLooserPairs (loss (answer_pairs game.stakes u p c answer)) (loss (seconds takes answer))) tight.answers
        (loss-tighter _ _ (answers-tighter c.answers.items (λ taken m. m) answer))

  same_zero : AreNoLooserPairs at_zero at_zero
  same_zero = record { lower = le_refl _; upper = le_refl _ }

  offered : (offer : Offer) (c d : Option Double) → (kind_at game.stakes k).double ≡ c → AreNoLooserDoubles c d → AreNoLooserPairs (cube_loss c (λ double. offer_pairs game.stakes u p k double offer)) (cube_loss d (λ double. offer_pairs b v p k double offer))
  offered offer None None is tight = same_zero
  offered offer None (Some d) is tight = absurd tight
  offered offer (Some c) None is tight = absurd tight
  offered offer (Some c) (Some d) is tight = loss-tighter _ _ (offer-tighter c d is tight offer)

  answered : (answer : Answer) (c d : Option Double) → (kind_at game.stakes k).double ≡ c → AreNoLooserDoubles c d → AreNoLooserPairs (cube_loss c (λ double. answer_pairs game.stakes u p double answer)) (cube_loss d (λ double. answer_pairs b v p double answer))
  answered answer None None is tight = same_zero
  answered answer None (Some d) is tight = absurd tight
  answered answer (Some c) None is tight = absurd tight
  answered answer (Some c) (Some d) is tight = answer-tighter c d is tight answer

  pub loss-of-tighter : (choice : Choice) → IsChoice game.stakes p k choice → AreNoLooserPairs (loss_of game.stakes u p k choice) (loss_of b v p k choice)
  loss-of-tighter (Played roll end) is = loss-tighter _ _ (record {
    chosen = play-tighter roll end is.0 (Contains-Among end (legal_ends p roll) (legal_ends-complete p roll end is.1));
    others = map-tighter (play_pair (kind_at game.stakes k) u) (play_pair (kind_at b k) v) (all_but end (legal_ends p roll)) (λ q m. play-tighter roll q is.0 (kept end q (legal_ends p roll) m));
  })
  loss-of-tighter (Offered offer) is = offered offer (kind_at game.stakes k).double (kind_at b k).double refl kind-tighter.double
  loss-of-tighter (Answered answer) is = answered answer (kind_at game.stakes k).double (kind_at b k).double refl kind-tighter.double
