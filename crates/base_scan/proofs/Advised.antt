-- The numbers of what is advised.
use Rattle.std.proofs.Common.{◌≡◌, ℕ, Bool, IsTrue, true, false, ◌&&◌, int_lt, int_le, List, [], ◌∷◌, map, Option, Some, None, Result, Ok, Err, IsOkAnd, refl, sym, ap, subst, ◌∙◌, if◌then◌else◌, arith}
use Rattle.std.proofs.lemmas.Bool.{false≢true}
use Rattle.std.proofs.lemmas.Int.{ints}
use Rattle.position_rank.specs.Placement.{Placement}
use Rattle.directed_fixed.specs.Bounds.{Bounds}
use Rattle.cube_actions.specs.declared.kind.Double.{Double as DoubleOf}
use Rattle.cube_actions.specs.declared.kind.Taken.{Taken}
use Rattle.hyper_outside.specs.declared.outside.LookStop.{LookStop}
use Rattle.hyper_outside.specs.declared.outside.LookStop.TheVariants.{ReadFault, BadPage, NoMemory}
use Rattle.cube_actions.specs.declared.action.Offer.{Offer}
use Rattle.cube_actions.specs.declared.action.Offer.TheVariants.{NoDouble, Double}
use Rattle.cube_actions.specs.declared.action.Answer.{Answer}
use Rattle.cube_actions.specs.declared.action.Answer.TheVariants.{Take, Pass, Beaver}
use Rattle.play_analyser.specs.declared.advice.CubeAction.{CubeAction}
use Rattle.play_analyser.specs.declared.advice.CubeAdvice.{CubeAdvice}
use Rattle.turn_rule.specs.Turn.{Words}
use Rattle.turn_rule.specs.Looks.{all_told, Damage, Looked, MayFollowTurn, MayStop, Notes, Source}
use Rattle.turn_rule.proofs.Found.{look}
use Rattle.turn_rule.specs.Following.{AgreeOn}
use Rattle.directed_fixed.specs.declared.bounds.End.{End}
use Rattle.cube_actions.specs.Stakes.{Terms, kind_at}
use Rattle.play_analyser.specs.Advice.{IsActionBy, IsAdviceOn, IsBestAnswer, IsBestOffer, IsCubeAdvice, IsCubeAdviceOver, doubling_of, taken_of}
use Rattle.play_analyser.specs.Losses.{least_pair}
use Rattle.play_analyser.specs.Regrets.{taken_pair}
use Rattle.interval_words.specs.WordLists.{WordList, source_of, words_in_list}
use Rattle.base_scan.specs.declared.condition.Field.TheVariants.{Answered, Offered}
use Rattle.base_scan.specs.Meets.{action_in, answer_number, answer_told, best_answer, best_offer, number_of, number_of_double, offer_number, offer_told, rolling, taken}

offer-one : (r d : Bounds) (o : Offer) → IsBestOffer r d o → o ≡ best_offer r d
offer-one r d Double best = let less : int_lt r.lower d.lower ≡ true = grind (arith, ints) in rw less refl
offer-one r d NoDouble best = let not : int_lt r.lower d.lower ≡ false = grind (arith, ints) in rw not refl

answer-one : (pass : Bounds) (took : List Bounds) (a : Answer) → IsBestAnswer pass took a → a ≡ best_answer pass took
answer-one pass [] a best = absurd best
answer-one pass (take ∷ []) Take best = let least : int_le take.upper pass.upper ≡ true = grind (arith, ints) in rw least refl
answer-one pass (take ∷ []) Beaver best = absurd best
answer-one pass (take ∷ []) Pass best = let not : int_le take.upper pass.upper ≡ false = grind (arith, ints) in rw not refl
answer-one pass (take ∷ beaver ∷ more) Take best =
    let first : int_le take.upper beaver.upper ≡ true = (let h = best.0 in grind (arith, ints)) in
    let second : int_le take.upper pass.upper ≡ true = (let h = best.1 in grind (arith, ints)) in
    rw (first, second) refl
answer-one pass (take ∷ beaver ∷ more) Beaver best =
    let first : int_le take.upper beaver.upper ≡ false = (let h = best.0 in grind (arith, ints)) in
    let second : int_le beaver.upper pass.upper ≡ true = (let h = best.1 in grind (arith, ints)) in
    rw (first, second) refl
answer-one pass (take ∷ beaver ∷ more) Pass best =
    let first : int_le take.upper pass.upper ≡ false = (let h = best.0 in grind (arith, ints)) in
    let second : int_le beaver.upper pass.upper ≡ false = (let h = best.1 in grind (arith, ints)) in
    last (int_le take.upper beaver.upper) (int_le take.upper pass.upper) (int_le beaver.upper pass.upper) first second where
      last : (a b d : Bool) → b ≡ false → d ≡ false → Pass ≡ (if a && b then Take else (if d then Beaver else Pass))
      last true b d e f = rw (e, f) refl
      last false b d e f = rw f refl

module _ (words : WordList) (p : Placement) (k : ℕ) where
  abbrev Are : List Taken → List Bounds → Type 0
  Are answers pairs = pairs ≡ map (λ (answer : Taken). taken_pair words.game.stakes (words_in_list words) p answer) answers

  offer-on : (no_double rolls : Bounds) → no_double ≡ rolls → (double : Option DoubleOf) (action : Option CubeAction)
      → IsAdviceOn double action (λ double action. IsActionBy Are no_double double action)
      → offer_told action ≡ number_of_double double (λ double. offer_number (best_offer rolls (least_pair double.pass (taken words p double))))
  offer-on no_double rolls same None None on = refl
  offer-on no_double rolls same None (Some action) on = absurd on
  offer-on no_double rolls same (Some double) None on = absurd on
  offer-on no_double rolls same (Some double) (Some action) on =
      ap offer_number (offer-one no_double (doubling_of action) action.offer on.advised.offer
      ∙ (ap (λ (r : Bounds). best_offer r (least_pair action.pass (taken_of action))) same
      ∙ (ap (λ (b : Bounds). best_offer rolls (least_pair b (taken_of action))) on.pass
      ∙ ap (λ (bs : List Bounds). best_offer rolls (least_pair double.pass bs)) on.taken)))

  answer-on : (no_double : Bounds) (double : Option DoubleOf) (action : Option CubeAction) → IsAdviceOn double action (λ double action. IsActionBy Are no_double double action)
      → answer_told action ≡ number_of_double double (λ double. answer_number (best_answer double.pass (taken words p double)))
  answer-on no_double None None on = refl
  answer-on no_double None (Some action) on = absurd on
  answer-on no_double (Some double) None on = absurd on
  answer-on no_double (Some double) (Some action) on =
      ap answer_number (answer-one action.pass (taken_of action) action.answer on.advised.answer
      ∙ (ap (λ (b : Bounds). best_answer b (taken_of action)) on.pass ∙ ap (λ (bs : List Bounds). best_answer double.pass bs) on.taken))

  pub offer-is : (r : Result CubeAdvice LookStop) → IsOkAnd r (IsCubeAdviceOver words.game.stakes (words_in_list words) p k) → offer_told (action_in r) ≡ number_of words p k Offered
  offer-is (Ok advice) is = offer-on advice.no_double (rolling words p k) is.no_double (kind_at words.game.stakes k).double advice.action is.action
  offer-is (Err stop) is = absurd is

  pub answer-is : (r : Result CubeAdvice LookStop) → IsOkAnd r (IsCubeAdviceOver words.game.stakes (words_in_list words) p k) → answer_told (action_in r) ≡ number_of words p k Answered
  answer-is (Ok advice) is = answer-on advice.no_double (kind_at words.game.stakes k).double advice.action is.action
  answer-is (Err stop) is = absurd is

  -- advice that was looked up in the words
  pub advised : ((source : Source) (u : Notes) (stakes : Terms) (p : Placement) (k : ℕ) (advice : CubeAdvice)
      → IsTrue u.told → ((end : End) → AgreeOn (MayFollowTurn stakes p k) end source.floor u.words) → IsCubeAdvice stakes p k source u advice → IsCubeAdviceOver stakes u.words p k advice)
      → (source : Source) (stakes : Terms) (new : WordList) → source ≡ source_of words → stakes ≡ words.game.stakes → source_of new ≡ source
      → (before now : ℕ) (old : Notes) (meant : Damage → Type 0) (r : Result CubeAdvice LookStop)
      → Looked (look source old (all_told (words_in_list new)) before now) meant (IsCubeAdvice stakes p k source (all_told (words_in_list new))) r
      → IsOkAnd r (IsCubeAdviceOver words.game.stakes (words_in_list words) p k)
  advised law source stakes new at same there before now old meant (Err stop) looked = absurd (false≢true (sym (stops stop looked.stop) ∙ ap (λ (s : Source). s.sure) at)) where
    stops : (stop : LookStop) → MayStop source (all_told (words_in_list new)) before now meant stop → source.sure ≡ false
    stops ReadFault may = may.0
    stops (BadPage fault place) may = may.0
    stops NoMemory may = may
  advised law source stakes new at same there before now old meant (Ok advice) looked =
      let u = words_in_list new in
      let notes : u ≡ words_in_list words = ap (λ (s : Source). s.floor) (there ∙ at) in
      let over = law source (all_told u) stakes p k advice refl (λ end q j _. ap (λ (s : Source). s.floor end q j) (sym there)) looked.answer in
      subst (λ (t : Terms). IsCubeAdviceOver t (words_in_list words) p k advice) same (subst (λ (v : Words). IsCubeAdviceOver stakes v p k advice) notes over)
