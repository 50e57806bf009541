-- What an offer and an answer lose over looked up pairs.
use Rattle.std.proofs.Common.{◌≡◌, ◌<◌, ◌≤◌, ◌+◌, ◌++◌, ◌∙◌, ◌^◌, ℕ, zero, suc, ℤ, pos, ◌*ℤ◌, ◌≤ℤ◌, List, [], ◌∷◌, length, map, take, get_or, All, Contains, IfSome, Option, None, Some, IsTrue, ◌⊎◌, inl, inr, ap, refl, subst, sym, arith}
use Rattle.std.specs.Int.{int_min}
use Rattle.std.proofs.lemmas.Int.{ints, clamps}
use Rattle.std.proofs.lemmas.List.{take_more, take_all}
use Rattle.position_rank.specs.Placement.{Placement}
use Rattle.move_rules.specs.Listing.{Among}
use Rattle.move_rules.proofs.Members.{Contains-Among, map-cases}
use Rattle.directed_fixed.specs.declared.bounds.End.TheVariants.{Lower, Upper}
use Rattle.directed_fixed.specs.Bounds.{Bounds, IsWithin, AreNoLooserPairs, other, negated}
use Rattle.cube_actions.specs.declared.kind.Double.{Double}
use Rattle.cube_actions.specs.declared.kind.Taken.{Taken}
use Rattle.cube_actions.specs.Stakes.{Terms, kind_at, no_kind, IsValid, IsRightDouble, IsRightAnswer}
use Rattle.turn_rule.specs.Games.{game_of}
use Rattle.turn_rule.specs.Turn.{Words, least}
use Rattle.turn_rule.specs.States.{IsStateOf}
use Rattle.turn_rule.specs.Looks.{Source, Notes, AreStakesOf, IsPairFor, MayFollowTurn, MayFollowDouble, of_roll, roll_pair}
use Rattle.turn_rule.proofs.Within.{follow-state, at_member}
use Rattle.turn_rule.proofs.Integers.{le_refl}
use Rattle.turn_rule.proofs.Monotone.{roll-tighter, same-stakes}
use Rattle.turn_rule.proofs.Tight.{tight-min}
use Rattle.play_analyser.specs.Losses.{Options, loss, least_pair, lower_ends, upper_ends}
use Rattle.turn_rule.specs.declared.choice.Choice.TheVariants.{Offered, Answered}
use Rattle.cube_actions.specs.declared.action.Offer.{Offer}
use Rattle.cube_actions.specs.declared.action.Offer.TheVariants.{NoDouble, Double as Doubled}
use Rattle.cube_actions.specs.declared.action.Answer.{Answer}
use Rattle.cube_actions.specs.declared.action.Answer.TheVariants.{Take, Pass, Beaver}
use Rattle.play_analyser.specs.Choices.{HasAnswer, IsAmongAnswers, offer_options, answer_options}
use Rattle.play_analyser.specs.Regrets.{taken_pair, double_pair, loss_of, cube_loss, offer_pairs, answer_pairs}
use Rattle.play_analyser.specs.Sought.{ArePairsFor, IsNear, of_answer, of_loss}
use Rattle.play_analyser.proofs.LossLemmas.{both_ends}
use Rattle.play_analyser.proofs.LossPairs.{OptionsWithin, loss-pair, pair-floor, pair-notes, pair-within, pairs-floor, pairs-notes, pairs-within, pairs-right, all-negated-tighter, negated-within}
use Rattle.play_analyser.proofs.PairLists.{Tightens, pairs-length}
use Rattle.play_analyser.proofs.PlayLosses.{all-of, source-positive, source-near}
use Rattle.play_analyser.proofs.Tighter.{AllTighter, OptionsTighter, negated-tighter}

-- ---- near zero

pub negated-near : (pair : Bounds) → IsNear pair → IsNear (negated pair)
negated-near pair h = negated-within (pos (2 ^ 55)) pair h

map-near : (pairs : List Bounds) → All IsNear pairs → All IsNear (map negated pairs)
map-near [] all i d below = absurd (omega arith)
map-near (pair ∷ pairs) all zero d below = negated-near pair (all 0 d (omega arith))
map-near (pair ∷ pairs) all (suc i) d below = map-near pairs (λ j e h. all (suc j) e (omega arith)) i d (omega arith)

pub all-negated-near : (pairs theirs : List Bounds) → theirs ≡ map negated pairs → All IsNear pairs → All IsNear theirs
all-negated-near pairs theirs is all = subst (All IsNear) (sym is) (map-near pairs all)

pub near-at : (pairs : List Bounds) (i : ℕ) (pair : Bounds) → All IsNear pairs → i < length pairs → pair ≡ get_or pairs i pair → IsNear pair
near-at pairs i pair all here is = subst IsNear (sym is) (all i pair here)

pub two-near : (one other : Bounds) → IsNear one → IsNear other → All IsNear (one ∷ other ∷ [])
two-near one other h k = all-of IsNear (one ∷ other ∷ []) (λ pair m. elim m [ inl is ↦ subst IsNear (sym is) h | inr more ↦ elim more [ inl is ↦ subst IsNear (sym is) k | inr none ↦ absurd none ] ])

-- ---- the least

least-append : (v w : ℤ) (vs : List ℤ) → least v (vs ++ w ∷ []) ≡ int_min (least v vs) w
least-append v w [] = refl
least-append v w (x ∷ vs) = least-append (int_min v x) w vs

module _ (f : Bounds → ℤ) where
  map-append : (pairs : List Bounds) (pair : Bounds) → map f (pairs ++ pair ∷ []) ≡ map f pairs ++ f pair ∷ []
  map-append [] pair = refl
  map-append (first ∷ pairs) pair = ap (λ (vs : List ℤ). f first ∷ vs) (map-append pairs pair)

  least-more : (v : ℤ) (pairs : List Bounds) (i : ℕ) (pair : Bounds) → i < length pairs → pair ≡ get_or pairs i pair → least v (map f (take (i + 1) pairs)) ≡ int_min (least v (map f (take i pairs))) (f pair)
  least-more v pairs i pair here is =
      ap (λ (xs : List Bounds). least v (map f xs)) (take_more pairs i pair here ∙ ap (λ (x : Bounds). take i pairs ++ x ∷ []) (sym is))
      ∙ (ap (least v) (map-append (take i pairs) pair) ∙ least-append v (f pair) (map f (take i pairs)))

pub least-next : (pass : Bounds) (taken : List Bounds) (i : ℕ) (pair so_far now : Bounds) → i < length taken → pair ≡ get_or taken i pair → so_far ≡ least_pair pass (take i taken)
    → now.lower ≡ int_min so_far.lower pair.lower → now.upper ≡ int_min so_far.upper pair.upper → now ≡ least_pair pass (take (i + 1) taken)
least-next pass taken i pair so_far now here is before low high =
    both_ends now _ _
    (low ∙ (ap (λ (b : Bounds). int_min b.lower pair.lower) before ∙ sym (least-more (λ (b : Bounds). b.lower) pass.lower taken i pair here is)))
    (high ∙ (ap (λ (b : Bounds). int_min b.upper pair.upper) before ∙ sym (least-more (λ (b : Bounds). b.upper) pass.upper taken i pair here is)))

pub least-all : (pass : Bounds) (taken : List Bounds) (i : ℕ) (now : Bounds) → length taken ≤ i → now ≡ least_pair pass (take i taken) → now ≡ least_pair pass taken
least-all pass taken i now past is = is ∙ ap (least_pair pass) (take_all i taken past)

-- ---- answers

module _ (s : Source) (stakes : Terms) (valid : IsValid stakes) (fits : AreStakesOf s stakes) (p : Placement) (states : (k : ℕ) → k < s.kinds → IsStateOf s.checkers s.kinds p k) where
  pub roll-tightens : (k factor : ℕ) → k < s.kinds → Tightens s (of_roll stakes p k factor)
  roll-tightens k factor inside end u v tight =
      roll-tighter stakes stakes (same-stakes stakes) end u v p k factor
      (λ q j may. tight (other end) q j (subst (λ (n : ℕ). IsStateOf s.checkers n q j) (sym fits.kinds)
      (follow-state (game_of s.checkers stakes) valid p k (subst (λ (n : ℕ). IsStateOf s.checkers n p k) fits.kinds (states k inside)) q j may)))

  pub answer-tightens : (double : Double) → IsRightDouble stakes double → (taken : Taken) → Among taken double.answers.items → Tightens s (of_answer stakes p taken)
  answer-tightens double right taken m =
      roll-tightens taken.kind taken.factor (subst (λ (n : ℕ). taken.kind < n) (sym fits.kinds) (at_member (IsRightAnswer stakes) double.answers.items right.answers taken m).kind)

-- ---- tighter pairs give tighter options

least-lower : (cs ds : List Bounds) (a b : ℤ) → AllTighter cs ds → b ≤ℤ a → least b (lower_ends ds) ≤ℤ least a (lower_ends cs)
least-lower [] [] a b all h = h
least-lower [] (d ∷ ds) a b all h = absurd all
least-lower (c ∷ cs) [] a b all h = absurd all
least-lower (c ∷ cs) (d ∷ ds) a b all h = least-lower cs ds (int_min a c.lower) (int_min b d.lower) all.1 (tight-min Lower a c.lower b d.lower h all.0.lower)

least-upper : (cs ds : List Bounds) (a b : ℤ) → AllTighter cs ds → a ≤ℤ b → least a (upper_ends cs) ≤ℤ least b (upper_ends ds)
least-upper [] [] a b all h = h
least-upper [] (d ∷ ds) a b all h = absurd all
least-upper (c ∷ cs) [] a b all h = absurd all
least-upper (c ∷ cs) (d ∷ ds) a b all h = least-upper cs ds (int_min a c.upper) (int_min b d.upper) all.1 (tight-min Upper a c.upper b d.upper h all.0.upper)

pub least-tighter : (a b : Bounds) (cs ds : List Bounds) → AreNoLooserPairs a b → AllTighter cs ds → AreNoLooserPairs (least_pair a cs) (least_pair b ds)
least-tighter a b cs ds h all = record { lower = least-lower cs ds a.lower b.lower all h.lower; upper = least-upper cs ds a.upper b.upper all h.upper }

pub offers-tighter : (a b c d : Bounds) (offer : Offer) → AreNoLooserPairs a c → AreNoLooserPairs b d → OptionsTighter (offer_options a b offer) (offer_options c d offer)
offers-tighter a b c d NoDouble h k = record { chosen = h; others = (k, tt) }
offers-tighter a b c d Doubled h k = record { chosen = k; others = (h, tt) }

pub answers-tighter : (a b : Bounds) (cs ds : List Bounds) (answer : Answer) → AreNoLooserPairs a b → AllTighter cs ds → OptionsTighter (answer_options a cs answer) (answer_options b ds answer)
answers-tighter a b [] [] Take h all = record { chosen = h; others = tt }
answers-tighter a b [] [] Beaver h all = record { chosen = h; others = tt }
answers-tighter a b [] [] Pass h all = record { chosen = h; others = tt }
answers-tighter a b [] (d ∷ ds) answer h all = absurd all
answers-tighter a b (c ∷ cs) [] answer h all = absurd all
answers-tighter a b (c ∷ cs) (d ∷ ds) Take h all = record { chosen = all.0; others = (h, all.1) }
answers-tighter a b (c ∷ cs) (d ∷ ds) Pass h all = record { chosen = h; others = all }
answers-tighter a b (c ∷ []) (d ∷ []) Beaver h all = record { chosen = h; others = all }
answers-tighter a b (c ∷ []) (d ∷ e ∷ ds) Beaver h all = absurd all.1
answers-tighter a b (c ∷ e ∷ cs) (d ∷ []) Beaver h all = absurd all.1
answers-tighter a b (c ∷ e ∷ cs) (d ∷ f ∷ ds) Beaver h all = record { chosen = all.1.0; others = (all.0, (h, tt)) }

-- ---- and how far from zero they lie

smaller-within : (bound : ℤ) (a b : Bounds) → IsWithin bound a → IsWithin bound b → IsWithin bound (record { lower = int_min a.lower b.lower; upper = int_min a.upper b.upper })
smaller-within bound a b h k = record {
  from = omega (arith, ints, clamps, h.from, k.from);
  in_order = omega (arith, ints, clamps, h.in_order, k.in_order);
  to = omega (arith, ints, clamps, h.to, k.to);
}

pub least-within : (bound : ℤ) (pass : Bounds) (taken : List Bounds) → IsWithin bound pass → ((pair : Bounds) → Among pair taken → IsWithin bound pair) → IsWithin bound (least_pair pass taken)
least-within bound pass [] h all = h
least-within bound pass (pair ∷ taken) h all = least-within bound (record { lower = int_min pass.lower pair.lower; upper = int_min pass.upper pair.upper }) taken (smaller-within bound pass pair h (all pair (inl refl))) (λ q m. all q (inr m))

one-within : (bound : ℤ) (one : Bounds) → IsWithin bound one → (pair : Bounds) → Among pair (one ∷ []) → IsWithin bound pair
one-within bound one h pair (inl is) = subst (IsWithin bound) (sym is) h
one-within bound one h pair (inr none) = absurd none

more-within : (bound : ℤ) (one : Bounds) (rest : List Bounds) → IsWithin bound one → ((pair : Bounds) → Among pair rest → IsWithin bound pair) → (pair : Bounds) → Among pair (one ∷ rest) → IsWithin bound pair
more-within bound one rest h all pair (inl is) = subst (IsWithin bound) (sym is) h
more-within bound one rest h all pair (inr m) = all pair m

pub offers-within : (bound : ℤ) (a b : Bounds) (offer : Offer) → IsWithin bound a → IsWithin bound b → OptionsWithin bound (offer_options a b offer)
offers-within bound a b NoDouble h k = record { chosen = h; others = one-within bound b k }
offers-within bound a b Doubled h k = record { chosen = k; others = one-within bound a h }

pub answers-within : (bound : ℤ) (a : Bounds) (cs : List Bounds) (answer : Answer) → IsWithin bound a → ((pair : Bounds) → Among pair cs → IsWithin bound pair) → OptionsWithin bound (answer_options a cs answer)
answers-within bound a [] Take h all = record { chosen = h; others = all }
answers-within bound a [] Beaver h all = record { chosen = h; others = all }
answers-within bound a [] Pass h all = record { chosen = h; others = all }
answers-within bound a (c ∷ cs) Take h all = record { chosen = all c (inl refl); others = more-within bound a cs h (λ pair m. all pair (inr m)) }
answers-within bound a (c ∷ cs) Pass h all = record { chosen = h; others = all }
answers-within bound a (c ∷ []) Beaver h all = record { chosen = h; others = all }
answers-within bound a (c ∷ d ∷ cs) Beaver h all = record { chosen = all d (inr (inl refl)); others = more-within bound c (a ∷ []) (all c (inl refl)) (one-within bound a h) }

all-negated-within : (bound : ℤ) (pairs : List Bounds) → ((pair : Bounds) → Among pair pairs → IsWithin bound pair) → (pair : Bounds) → Among pair (map negated pairs) → IsWithin bound pair
all-negated-within bound pairs all pair m =
    let from = map-cases negated pair pairs m in
    subst (IsWithin bound) (sym from.2) (negated-within bound from.0 (all from.0 from.1))

-- ---- the same over words

least-same : (f : Bounds → ℤ) (g : Taken → Bounds) (v : ℤ) (answers : List Taken) → least v (map f (map g answers)) ≡ least v (map (λ (taken : Taken). f (g taken)) answers)
least-same f g v [] = refl
least-same f g v (taken ∷ answers) = least-same f g (int_min v (f (g taken))) answers

negated-same : (g : Taken → Bounds) (answers : List Taken) → map negated (map g answers) ≡ map (λ (taken : Taken). negated (g taken)) answers
negated-same g [] = refl
negated-same g (taken ∷ answers) = ap (λ (pairs : List Bounds). negated (g taken) ∷ pairs) (negated-same g answers)

-- the answers over words
abbrev pub taken_over : Terms → Placement → Double → Words → List Bounds
taken_over stakes p double u = map (λ (taken : Taken). taken_pair stakes u p taken) double.answers.items

abbrev pub answers_over : Terms → Placement → Double → Answer → Words → Options Bounds
answers_over stakes p double answer u = answer_options (negated double.pass) (map negated (taken_over stakes p double u)) answer

abbrev pub offers_over : Terms → Placement → ℕ → Double → Offer → Words → Options Bounds
offers_over stakes p k double offer u = offer_options (roll_pair stakes u p k 1) (least_pair double.pass (taken_over stakes p double u)) offer

pub same-pair : (pair : Bounds) → AreNoLooserPairs pair pair
same-pair pair = record { lower = le_refl _; upper = le_refl _ }

module _ (stakes : Terms) (p : Placement) (k : ℕ) (double : Double) (is : (kind_at stakes k).double ≡ Some double) where
  doubled-same : (u : Words) → least_pair double.pass (taken_over stakes p double u) ≡ double_pair stakes u p double
  doubled-same u =
      both_ends (least_pair double.pass (taken_over stakes p double u)) _ _
      (least-same (λ (pair : Bounds). pair.lower) (λ (taken : Taken). taken_pair stakes u p taken) double.pass.lower double.answers.items)
      (least-same (λ (pair : Bounds). pair.upper) (λ (taken : Taken). taken_pair stakes u p taken) double.pass.upper double.answers.items)

  pub answers-same : (answer : Answer) (u : Words) → loss (answers_over stakes p double answer u) ≡ loss_of stakes u p k (Answered answer)
  answers-same answer u =
      ap (λ (pairs : List Bounds). loss (answer_options (negated double.pass) pairs answer)) (negated-same (λ (taken : Taken). taken_pair stakes u p taken) double.answers.items)
      ∙ ap (λ (o : Option Double). cube_loss o (λ (d : Double). answer_pairs stakes u p d answer)) (sym is)

  pub offers-same : (offer : Offer) (u : Words) → loss (offers_over stakes p k double offer u) ≡ loss_of stakes u p k (Offered offer)
  offers-same offer u =
      ap (λ (doubling : Bounds). loss (offer_options (roll_pair stakes u p k 1) doubling offer)) (doubled-same u)
      ∙ ap (λ (o : Option Double). cube_loss o (λ (d : Double). offer_pairs stakes u p k d offer)) (sym is)

same_some : {X : Type 0} (o : Option X) (x y : X) → o ≡ Some x → o ≡ Some y → x ≡ y
same_some o x y h k = cc

wider : (bound : ℤ) (pair : Bounds) → pos 0 ≤ℤ bound → IsWithin bound pair → IsWithin (pos 4 *ℤ bound) pair
wider bound pair z h = let low = h.from in let high = h.to in record { from = omega (arith, ints); in_order = h.in_order; to = omega (arith, ints) }

factor-limit : (factor : ℕ) (bound : ℤ) → pos 0 ≤ℤ bound → (factor ≡ 1) ⊎ (factor ≡ 2) ⊎ (factor ≡ 4) → (pos factor *ℤ bound) ≤ℤ (pos 4 *ℤ bound)
factor-limit factor bound z (inl is) = rw is (omega (arith, ints))
factor-limit factor bound z (inr (inl is)) = rw is (omega (arith, ints))
factor-limit factor bound z (inr (inr is)) = rw is (omega (arith, ints))

module _ (s : Source) (stakes : Terms) (valid : IsValid stakes) (fits : AreStakesOf s stakes) (p : Placement) (k : ℕ) (state : IsStateOf s.checkers s.kinds p k) (double : Double) (is : (kind_at stakes k).double ≡ Some double) where
  inside : k < length stakes.kinds
  inside = subst (λ (n : ℕ). k < n) fits.kinds state.kind

  pub right-double : IsRightDouble stakes double
  right-double = subst (λ (d : Option Double). IfSome d (IsRightDouble stakes)) is (valid.kinds k no_kind inside).double

  pub each-state : (j : ℕ) → j < s.kinds → IsStateOf s.checkers s.kinds p j
  each-state j below = record { position = state.position; many = state.many; live = state.live; kind = below }

  positive : pos 0 ≤ℤ s.bound
  positive = source-positive s stakes valid fits p k state

  answer-limit : (taken : Taken) → Among taken double.answers.items → (pos taken.factor *ℤ s.bound) ≤ℤ (pos 4 *ℤ s.bound)
  answer-limit taken m = factor-limit taken.factor s.bound positive (at_member (IsRightAnswer stakes) double.answers.items right-double.answers taken m).factor

  pub pass-within : IsWithin (pos 4 *ℤ s.bound) double.pass
  pass-within = wider s.bound double.pass positive (subst (λ (b : ℤ). IsWithin b double.pass) (sym fits.bound) right-double.pass)

  module _ (w : Notes) (found : List Bounds) (are : ArePairsFor (of_answer stakes p) double.answers.items s w found) where
    pub taken-within : (pair : Bounds) → Among pair found → IsWithin (pos 4 *ℤ s.bound) pair
    taken-within = pairs-within s (of_answer stakes p) w (pos 4 *ℤ s.bound) double.answers.items answer-limit found are

    pub taken-near : All IsNear found
    taken-near = all-of IsNear found (λ pair m. source-near s stakes valid fits p k state pair (taken-within pair m))

    pub doubled-within : IsWithin (pos 4 *ℤ s.bound) (least_pair double.pass found)
    doubled-within = least-within (pos 4 *ℤ s.bound) double.pass found pass-within taken-within

    doubled-right : IsTrue w.told → (q : Placement) (j : ℕ) → MayFollowDouble stakes p k q j → s.damage q j ≡ None
    doubled-right told q j may =
        pairs-right s (of_answer stakes p) w told double.answers.items found are may.taken
        (Contains-Among may.taken double.answers.items (subst (λ (d : Double). Contains d.answers.items may.taken) (same_some _ _ _ may.right is) may.answer)) q j may.after

    floor-taken : IsTrue w.told → AllTighter found (taken_over stakes p double s.floor)
    floor-taken told = pairs-floor s (of_answer stakes p) w told double.answers.items found are

    notes-taken : IsTrue w.told → AllTighter (taken_over stakes p double w.words) found
    notes-taken told = pairs-notes s (of_answer stakes p) w told double.answers.items found are

    module _ (rolling : Bounds) (roll : IsPairFor (of_roll stakes p k 1) s w rolling) where
      pub rolling-within : IsWithin (pos 4 *ℤ s.bound) rolling
      rolling-within = pair-within s (of_roll stakes p k 1) w rolling (pos 4 *ℤ s.bound) (factor-limit 1 s.bound positive (inl refl)) roll

      turn-right : IsTrue w.told → (q : Placement) (j : ℕ) → MayFollowTurn stakes p k q j → s.damage q j ≡ None
      turn-right told q j (inl after) = roll.right told q j after
      turn-right told q j (inr after) = doubled-right told q j after

      pub answer-loss : (answer : Answer) → IsPairFor (of_loss stakes p k (Answered answer)) s w (loss (answer_options (negated double.pass) (map negated found) answer))
      answer-loss answer =
          loss-pair s w (MayFollowTurn stakes p k) (answers_over stakes p double answer) (λ u. loss_of stakes u p k (Answered answer)) (answers-same stakes p k double is answer) positive (answer_options (negated double.pass) (map negated found) answer)
          (answers-within (pos 4 *ℤ s.bound) (negated double.pass) (map negated found) answer (negated-within (pos 4 *ℤ s.bound) double.pass pass-within) (all-negated-within (pos 4 *ℤ s.bound) found taken-within))
          (λ told. answers-tighter (negated double.pass) (negated double.pass) (map negated found) (map negated (taken_over stakes p double s.floor)) answer (negated-tighter double.pass double.pass (same-pair double.pass)) (all-negated-tighter found (taken_over stakes p double s.floor) (floor-taken told)))
          (λ told. answers-tighter (negated double.pass) (negated double.pass) (map negated (taken_over stakes p double w.words)) (map negated found) answer (negated-tighter double.pass double.pass (same-pair double.pass)) (all-negated-tighter (taken_over stakes p double w.words) found (notes-taken told)))
          turn-right

      pub offer-loss : (offer : Offer) → IsPairFor (of_loss stakes p k (Offered offer)) s w (loss (offer_options rolling (least_pair double.pass found) offer))
      offer-loss offer =
          loss-pair s w (MayFollowTurn stakes p k) (offers_over stakes p k double offer) (λ u. loss_of stakes u p k (Offered offer)) (offers-same stakes p k double is offer) positive (offer_options rolling (least_pair double.pass found) offer)
          (offers-within (pos 4 *ℤ s.bound) rolling (least_pair double.pass found) offer rolling-within doubled-within)
          (λ told. offers-tighter rolling (least_pair double.pass found) _ _ offer (pair-floor s (of_roll stakes p k 1) w rolling roll told) (least-tighter double.pass double.pass found (taken_over stakes p double s.floor) (same-pair double.pass) (floor-taken told)))
          (λ told. offers-tighter _ _ rolling (least_pair double.pass found) offer (pair-notes s (of_roll stakes p k 1) w rolling roll told) (least-tighter double.pass double.pass (taken_over stakes p double w.words) found (same-pair double.pass) (notes-taken told)))
          turn-right

-- ---- counts

length-negated : (pairs : List Bounds) → length (map negated pairs) ≡ length pairs
length-negated [] = refl
length-negated (pair ∷ pairs) = ap suc (length-negated pairs)

-- where there is a beaver there are two other answers
pub two-answers : (pairs theirs : List Bounds) (answer : Answer) → answer ≡ Beaver → IsAmongAnswers (length pairs) answer → theirs ≡ map negated pairs → 2 ≤ length theirs
two-answers pairs theirs answer beaver among is =
    let many : length theirs ≡ length pairs = ap (λ (xs : List Bounds). length xs) is ∙ length-negated pairs in
    let two : 2 ≤ length pairs = subst (IsAmongAnswers (length pairs)) beaver among in
    omega (arith, many, two)

-- as many pairs as answers
pub answer-count : (s : Source) (stakes : Terms) (p : Placement) (w : Notes) (double : Double) (found : List Bounds) (answer : Answer) → ArePairsFor (of_answer stakes p) double.answers.items s w found → HasAnswer double answer → IsAmongAnswers (length found) answer
answer-count s stakes p w double found Take are has = let many = pairs-length s (of_answer stakes p) double.answers.items w found are in omega (arith, many, has)
answer-count s stakes p w double found Pass are has = tt
answer-count s stakes p w double found Beaver are has = let many = pairs-length s (of_answer stakes p) double.answers.items w found are in omega (arith, many, has)

pub least-near : (pass : Bounds) (taken : List Bounds) → IsNear pass → All IsNear taken → IsNear (least_pair pass taken)
least-near pass taken h all = least-within (pos (2 ^ 55)) pass taken h (at_member IsNear taken all)
