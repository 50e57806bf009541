-- What is advised from words that enclose every state loses at most its bound.
use Rattle.std.proofs.Common.{◌≡◌, ◌≢◌, ◌<◌, ◌↔◌, ◌∙◌, ℕ, ℤ, List, [], ◌∷◌, length, map, AllPairs, Contains, Option, None, Some, suc, inl, inr, ap, refl, subst, sym, arith}
use Rattle.std.specs.Bool.{⊤}
use Rattle.position_rank.specs.Placement.{Placement}
use Rattle.roll_table.specs.Rolls.{Dice, IsRoll}
use Rattle.move_rules.specs.Listing.{Among}
use Rattle.move_rules.specs.Sequences.{IsLegalEnd}
use Rattle.move_rules.proofs.Members.{Among-Contains, Contains-Among, map-cases}
use Rattle.directed_fixed.specs.declared.bounds.End.TheVariants.{Lower, Upper}
use Rattle.directed_fixed.specs.Bounds.{Bounds, AreNoLooserPairs, negated}
use Rattle.cube_actions.specs.declared.kind.Double.{Double}
use Rattle.cube_actions.specs.declared.kind.Kind.{Kind}
use Rattle.cube_actions.specs.declared.kind.Taken.{Taken}
use Rattle.cube_actions.specs.Stakes.{kind_at}
use Rattle.turn_rule.specs.declared.game.Game.{Game}
use Rattle.turn_rule.specs.Turn.{Words}
use Rattle.turn_rule.specs.States.{IsState}
use Rattle.turn_rule.specs.Exact.{Scoring}
use Rattle.turn_rule.specs.Truth.{Encloses}
use Rattle.turn_rule.specs.Looks.{roll_pair}
use Rattle.turn_rule.proofs.Fractions.{bound-looser}
use Rattle.turn_rule.specs.declared.choice.Choice.{Choice}
use Rattle.turn_rule.specs.declared.choice.Choice.TheVariants.{Played, Offered, Answered}
use Rattle.cube_actions.specs.declared.action.Answer.{Answer}
use Rattle.cube_actions.specs.declared.action.Answer.TheVariants.{Take, Pass, Beaver}
use Rattle.play_analyser.specs.declared.advice.CubeAction.{CubeAction}
use Rattle.play_analyser.specs.declared.ranking.PlayRow.{PlayRow}
use Rattle.play_analyser.specs.Losses.{Options, loss, least_pair}
use Rattle.play_analyser.specs.Choices.{IsChoice, IfDouble, HasAnswer, offer_options, answer_options}
use Rattle.play_analyser.specs.Regrets.{play_pair, taken_pair, loss_of, regret_of, counted_over}
use Rattle.play_analyser.specs.Advice.{IsAction, IsActionBy, IsAdviceOn, IsBestAnswer, taken_of}
use Rattle.play_analyser.specs.Advised.{ActionLosesAtMost, AreTrueWords, FirstLosesAtMost, LosesAtMost}
use Rattle.play_analyser.specs.Rankings.{LeaveDifferent, first_loss, pairs_of}
use Rattle.play_analyser.proofs.CubeLosses.{answers-same, answers-tighter, answers_over, least-tighter, offers-same, offers-tighter, offers_over, same-pair, taken_over}
use Rattle.play_analyser.proofs.Enclosing.{loss-of-encloses}
use Rattle.play_analyser.proofs.LossPairs.{all-negated-tighter}
use Rattle.play_analyser.proofs.PlayLosses.{AreOthers, plays_over, same-loss}
use Rattle.play_analyser.proofs.RowLemmas.{of_pairs}
use Rattle.play_analyser.proofs.Tighter.{AllTighter, OptionsTighter, loss-tighter}

abbrev row_end : PlayRow → Placement
row_end row = row.entry.end

-- the rows after the first are the other plays
other-rows : (p : Placement) (roll : Dice) (row : PlayRow) (rows : List PlayRow) → ((q : Placement) → Contains (map row_end (row ∷ rows)) q ↔ IsLegalEnd p roll q) → AllPairs LeaveDifferent (row ∷ rows) → AreOthers p roll row.entry.end (map row_end rows)
other-rows p roll row rows ends distinct = record {
  legal = λ q m. (
      let from = map-cases row_end q rows m in
      ((ends q).0 (Among-Contains q (map row_end (row ∷ rows)) (inr m)), λ same. of_pairs LeaveDifferent row rows distinct from.0 from.1 (sym (sym from.2 ∙ same))));
  all = λ q legal apart. after_first q apart (Contains-Among q (map row_end (row ∷ rows)) ((ends q).1 legal));
} where
  after_first : (q : Placement) → q ≢ row.entry.end → Among q (map row_end (row ∷ rows)) → Among q (map row_end rows)
  after_first q apart (inl same) = absurd (apart same)
  after_first q apart (inr m) = m

best-has : (double : Double) (pass : Bounds) (taken : List Bounds) (answer : Answer) → length taken ≡ length double.answers.items → IsBestAnswer pass taken answer → HasAnswer double answer
best-has double pass [] answer many best = absurd best
best-has double pass (take ∷ taken) Pass many best = tt
best-has double pass (take ∷ taken) Take many best = omega (arith, many)
best-has double pass (take ∷ []) Beaver many best = absurd best
best-has double pass (take ∷ beaver ∷ taken) Beaver many best = omega (arith, many)

-- no pair of a row is tighter than what its play gives over words
rows-tighter : (kind : Kind) (u : Words) (rows : List PlayRow) → ((row : PlayRow) → Among row rows → AreNoLooserPairs (play_pair kind u row.entry.end) row.pair) → AllTighter (map (play_pair kind u) (map row_end rows)) (pairs_of rows)
rows-tighter kind u [] each = tt
rows-tighter kind u (row ∷ rows) each = (each row (inl refl), rows-tighter kind u rows (λ r m. each r (inr m)))

all-same-tighter : (pairs : List Bounds) → AllTighter pairs pairs
all-same-tighter [] = tt
all-same-tighter (pair ∷ pairs) = (same-pair pair, all-same-tighter pairs)

tighter-length : (cs ds : List Bounds) → AllTighter cs ds → length ds ≡ length cs
tighter-length [] [] all = refl
tighter-length [] (d ∷ ds) all = absurd all
tighter-length (c ∷ cs) [] all = absurd all
tighter-length (c ∷ cs) (d ∷ ds) all = ap suc (tighter-length cs ds all.1)

length-map : (f : Taken → Bounds) (xs : List Taken) → length (map f xs) ≡ length xs
length-map f [] = refl
length-map f (x ∷ xs) = ap suc (length-map f xs)

module _ (game : Game) (scoring : Scoring) (turns : ℕ) (u : Words) (true_words : AreTrueWords game scoring turns u) (p : Placement) (k : ℕ) (state : IsState game p k) where
  -- a loss that is no tighter than that over the words
  pub looser-encloses : (choice : Choice) → IsChoice game.stakes p k choice → (pair : Bounds) → AreNoLooserPairs (loss_of game.stakes u p k choice) pair → Encloses pair (regret_of game.stakes scoring turns p k choice) (counted_over scoring turns choice)
  looser-encloses choice is pair tight =
      let over_words = loss-of-encloses game true_words.right scoring true_words.within turns u true_words.words p k state choice is in
      record {
        lower = bound-looser Lower (loss_of game.stakes u p k choice).lower pair.lower (regret_of game.stakes scoring turns p k choice) (counted_over scoring turns choice) tight.lower over_words.lower;
        upper = bound-looser Upper (loss_of game.stakes u p k choice).upper pair.upper (regret_of game.stakes scoring turns p k choice) (counted_over scoring turns choice) tight.upper over_words.upper;
      }

  -- the loss among options that are no tighter than those over the words
  options-enclose : (choice : Choice) → IsChoice game.stakes p k choice → (over options : Options Bounds) → loss over ≡ loss_of game.stakes u p k choice → OptionsTighter over options → Encloses (loss options) (regret_of game.stakes scoring turns p k choice) (counted_over scoring turns choice)
  options-enclose choice is over options same tight = looser-encloses choice is (loss options) (subst (λ (b : Bounds). AreNoLooserPairs b (loss options)) same (loss-tighter over options tight))

  pub first-loses : (roll : Dice) → IsRoll roll → (rows : List PlayRow) (bound : ℤ) → 0 < length rows → ((q : Placement) → Contains (map row_end rows) q ↔ IsLegalEnd p roll q) → AllPairs LeaveDifferent rows
      → ((row : PlayRow) → Among row rows → AreNoLooserPairs (play_pair (kind_at game.stakes k) u row.entry.end) row.pair) → bound ≡ (first_loss rows).upper → FirstLosesAtMost game scoring turns p k roll rows bound
  first-loses roll is_roll [] bound some ends distinct each is = absurd (omega arith)
  first-loses roll is_roll (row ∷ rows) bound some ends distinct each is =
      let kind = kind_at game.stakes k in
      let end = row.entry.end in
      let others = map row_end rows in
      let legal = (ends end).0 (Among-Contains end (map row_end (row ∷ rows)) (inl refl)) in
      let encloses = options-enclose (Played roll end) (is_roll, legal) (plays_over game.stakes k end others u) (record { chosen = row.pair; others = pairs_of rows })
      (same-loss game.stakes p k roll end others (other-rows p roll row rows ends distinct) u)
      (record { chosen = each row (inl refl); others = rows-tighter kind u rows (λ r m. each r (inr m)) }) in
      subst (λ (b : ℤ). LosesAtMost game scoring turns p k (Played roll end) b) (sym is) encloses.upper

  module _ (rolling : Bounds) (roll : AreNoLooserPairs (roll_pair game.stakes u p k 1) rolling) (action : CubeAction) where
    for-double : (double : Double) → (kind_at game.stakes k).double ≡ Some double → AllTighter (taken_over game.stakes p double u) (taken_of action) → action.pass ≡ double.pass → IsAction rolling action → ActionLosesAtMost game scoring turns p k (Some action)
    for-double double some tight pass advised =
        let taken = taken_of action in
        let many : length taken ≡ length double.answers.items = tighter-length (taken_over game.stakes p double u) taken tight ∙ length-map (λ (t : Taken). taken_pair game.stakes u p t) double.answers.items in
        let has = best-has double action.pass taken action.answer many advised.answer in
        let may_offer = subst (λ (o : Option Double). IfDouble o (λ d. ⊤)) (sym some) tt in
        let may_answer = subst (λ (o : Option Double). IfDouble o (λ d. HasAnswer d action.answer)) (sym some) has in
        let offer = options-enclose (Offered action.offer) may_offer (offers_over game.stakes p k double action.offer u) (offer_options rolling (least_pair double.pass taken) action.offer) (offers-same game.stakes p k double some action.offer u)
        (offers-tighter _ _ rolling (least_pair double.pass taken) action.offer roll (least-tighter double.pass double.pass (taken_over game.stakes p double u) taken (same-pair double.pass) tight)) in
        let answer = options-enclose (Answered action.answer) may_answer (answers_over game.stakes p double action.answer u) (answer_options (negated double.pass) (map negated taken) action.answer) (answers-same game.stakes p k double some action.answer u)
        (answers-tighter (negated double.pass) (negated double.pass) (map negated (taken_over game.stakes p double u)) (map negated taken) action.answer (same-pair (negated double.pass)) (all-negated-tighter (taken_over game.stakes p double u) taken tight)) in
        let offer_bound : action.offer_bound ≡ (loss (offer_options rolling (least_pair double.pass taken) action.offer)).upper =
        advised.offer_bound ∙ ap (λ (b : Bounds). (loss (offer_options rolling (least_pair b taken) action.offer)).upper) pass in
        let answer_bound : action.answer_bound ≡ (loss (answer_options (negated double.pass) (map negated taken) action.answer)).upper =
        advised.answer_bound ∙ ap (λ (b : Bounds). (loss (answer_options (negated b) (map negated taken) action.answer)).upper) pass in (
          subst (λ (b : ℤ). LosesAtMost game scoring turns p k (Offered action.offer) b) (sym offer_bound) offer.upper,
          subst (λ (b : ℤ). LosesAtMost game scoring turns p k (Answered action.answer) b) (sym answer_bound) answer.upper,
        )

    by-double : (taken_are : List Taken → List Bounds → Type 0) → ((double : Double) → taken_are double.answers.items (taken_of action) → AllTighter (taken_over game.stakes p double u) (taken_of action)) → (o : Option Double) → (kind_at game.stakes k).double ≡ o → IsAdviceOn o (Some action) (λ d a. IsActionBy taken_are rolling d a) → ActionLosesAtMost game scoring turns p k (Some action)
    by-double taken_are tight None none is = absurd is
    by-double taken_are tight (Some double) some is = for-double double some (tight double is.taken) is.pass is.advised

  pub action-loses : (taken_are : List Taken → List Bounds → Type 0) → ((double : Double) (pairs : List Bounds) → taken_are double.answers.items pairs → AllTighter (taken_over game.stakes p double u) pairs) → (rolling : Bounds) → AreNoLooserPairs (roll_pair game.stakes u p k 1) rolling → (action : Option CubeAction) → IsAdviceOn (kind_at game.stakes k).double action (λ d a. IsActionBy taken_are rolling d a) → ActionLosesAtMost game scoring turns p k action
  action-loses taken_are tight rolling roll None is = tt
  action-loses taken_are tight rolling roll (Some action) is = by-double rolling roll action taken_are (λ double h. tight double (taken_of action) h) (kind_at game.stakes k).double refl is

pub over-tighter : (a b : Bounds) → b ≡ a → AreNoLooserPairs a b
over-tighter a b is = subst (AreNoLooserPairs a) (sym is) (same-pair a)

pub all-over-tighter : (pairs same : List Bounds) → same ≡ pairs → AllTighter pairs same
all-over-tighter pairs same is = subst (AllTighter pairs) (sym is) (all-same-tighter pairs)
