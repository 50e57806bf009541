-- What is weighed by a ranking or by advice.
use Rattle.std.proofs.Common.{◌≡◌, ◌<◌, ℕ, List, [], ◌∷◌, All, Any, length, map, Bool, true, false, Option, None, Some, pos, ◌*ℤ◌, refl, if◌then◌else◌, subst, sym}
use Rattle.std.proofs.lemmas.List.Elements.{All-head, All-tail}
use Rattle.position_rank.specs.Placement.{Placement}
use Rattle.roll_table.specs.Rolls.{Dice, IsRoll}
use Rattle.move_rules.specs.Listing.{Among}
use Rattle.play_text.specs.Notation.{CanFollow}
use Rattle.move_rules.specs.Order.{IsFirst}
use Rattle.move_rules.specs.Sequences.{IsLegalEnd}
use Rattle.move_rules.proofs.Members.{Among-Contains, Among-map, Contains-Among, map-cases}
use Rattle.directed_fixed.specs.Bounds.{Bounds, IsWithin, negated}
use Rattle.cube_actions.specs.declared.kind.Double.{Double}
use Rattle.cube_actions.specs.Stakes.{Terms, kind_at, IsValid}
use Rattle.turn_rule.specs.States.{IsStateOf}
use Rattle.turn_rule.specs.Looks.{Source, Notes, AreLater, AreStakesOf, IsPairFor, of_roll}
use Rattle.turn_rule.specs.Found.{of_play}
use Rattle.turn_rule.specs.declared.choice.Choice.{Choice}
use Rattle.turn_rule.specs.declared.choice.Choice.TheVariants.{Played, Offered, Answered}
use Rattle.cube_actions.specs.declared.action.Answer.{Answer}
use Rattle.cube_actions.specs.declared.action.Offer.{Offer}
use Rattle.play_analyser.specs.declared.advice.CubeAction.{CubeAction}
use Rattle.play_analyser.specs.declared.advice.CubeAdvice.{CubeAdvice}
use Rattle.play_analyser.specs.declared.best.Advised.{Advised}
use Rattle.play_analyser.specs.declared.best.Advised.TheVariants as advised
use Rattle.play_analyser.specs.declared.best.Best.{Best}
use Rattle.play_analyser.specs.declared.ranking.PlayRow.{PlayRow}
use Rattle.play_analyser.specs.declared.ranking.Ranking.{Ranking}
use Rattle.play_analyser.specs.Advice.{IsActionBy, IsAdviceOn, IsCubeAdvice, doubling_of, taken_of}
use Rattle.play_analyser.specs.Bests.{CanBeMade, IsBest, IsFirstRow, IsPlay}
use Rattle.play_analyser.specs.Choices.{HasAnswer, IfDouble, IsAmongAnswers, IsChoice, all_but, answer_options, offer_options, same_position}
use Rattle.play_analyser.specs.Losses.{least_pair, loss}
use Rattle.play_analyser.specs.Rankings.{IsRanking, other_pairs}
use Rattle.play_analyser.specs.Sought.{ArePairsFor, IsNear, of_answer, of_loss}
use Rattle.play_analyser.proofs.CubeLosses.{answer-count, answer-loss, answer-tightens, doubled-within, offer-loss, right-double, roll-tightens, taken-near}
use Rattle.play_analyser.proofs.OtherPlays.{others-exactly}
use Rattle.play_analyser.proofs.PairLists.{pair-later, pairs-later, play-tightens}
use Rattle.play_analyser.proofs.PlayLosses.{AreOthers, all-of, near-play, near-plays, play-loss, source-leaves, source-near}
use Rattle.play_analyser.proofs.RowLemmas.{member}

any-of : {X : Type 0} (P : X → Type 0) (xs : List X) (x : X) → Among x xs → P x → Any P xs
any-of P xs x m here = let at = Among-Contains x xs m in (at.0, x, at.1, at.2, here)

abbrev row_end : PlayRow → Placement
row_end row = row.entry.end

-- the play of the first row can be made
pub first-made : (p : Placement) (roll : Dice) → IsRoll roll → (rows : List PlayRow) → All (λ (row : PlayRow). IsFirst p roll row.entry.play.items row.entry.end) rows → (best : Best) → IsFirstRow rows best → CanBeMade p best.advised
first-made p roll right [] all best is = absurd is
first-made p roll right (row ∷ rows) all best is = by_advised best.advised is.0 where
  by_advised : (a : Advised) → IsPlay a row.entry.play.items → CanBeMade p a
  by_advised (advised.Play moves) same = subst (CanFollow p) (sym same) (record { roll = roll; valid = right; end = row.entry.end; sequence = (All-head (λ (r : PlayRow). IsFirst p roll r.entry.play.items r.entry.end) row rows all).legal.sequence })
  by_advised (advised.Offer offer) same = absurd same
  by_advised (advised.Answer answer) same = absurd same

module _ (s : Source) (stakes : Terms) (valid : IsValid stakes) (fits : AreStakesOf s stakes) (p : Placement) (k : ℕ) (state : IsStateOf s.checkers s.kinds p k) where
  -- ---- plays

  module _ (roll : Dice) (is_roll : IsRoll roll) (w : Notes) (ranking : Ranking) (is : IsRanking stakes p k roll s w ranking) where
    abbrev rows : List PlayRow
    rows = ranking.rows.items

    pub leaves : (end : Placement) → IsLegalEnd p roll end → Any (λ (row : PlayRow). row.entry.end ≡ end) rows
    leaves end legal =
        let from = map-cases row_end end rows (Contains-Among end (map row_end rows) ((is.ends end).1 legal)) in
        any-of (λ (row : PlayRow). row.entry.end ≡ end) rows from.0 from.1 (sym from.2)

    module _ (end : Placement) where
      others-from : (rs : List PlayRow) → All (λ (row : PlayRow). IsPairFor (of_play (kind_at stakes k) row.entry.end) s w row.pair) rs → ArePairsFor (of_play (kind_at stakes k)) (all_but end (map row_end rs)) s w (other_pairs end rs)
      others-from [] all = tt
      others-from (row ∷ rs) all = by_same (same_position row.entry.end end) (others-from rs (All-tail (λ (r : PlayRow). IsPairFor (of_play (kind_at stakes k) r.entry.end) s w r.pair) row rs all)) where
        by_same : (same : Bool) → ArePairsFor (of_play (kind_at stakes k)) (all_but end (map row_end rs)) s w (other_pairs end rs)
            → ArePairsFor (of_play (kind_at stakes k)) (if same then all_but end (map row_end rs) else row.entry.end ∷ all_but end (map row_end rs)) s w (if same then other_pairs end rs else row.pair ∷ other_pairs end rs)
        by_same true rest = rest
        by_same false rest = (All-head (λ (r : PlayRow). IsPairFor (of_play (kind_at stakes k) r.entry.end) s w r.pair) row rs all, rest)

      pub others-near : All IsNear (other_pairs end rows)
      others-near = near-plays s stakes valid fits p k state (all_but end (map row_end rows)) w (other_pairs end rows) (others-from rows is.pairs)

      are-others : AreOthers p roll end (all_but end (map row_end rows))
      are-others =
          let exactly = others-exactly end p roll (map row_end rows) (all_but end (map row_end rows)) is.ends refl in
          record {
            legal = λ q m. (exactly q).0 (Among-Contains q (all_but end (map row_end rows)) m);
            all = λ q legal apart. Contains-Among q (all_but end (map row_end rows)) ((exactly q).1 (legal, apart));
          }

      module _ (chosen : Bounds) (found : Any (λ (row : PlayRow). (row.entry.end ≡ end) × (row.pair ≡ chosen)) rows) where
        chosen-pair : IsPairFor (of_play (kind_at stakes k) end) s w chosen
        chosen-pair =
            let row = found.1 in
            let own = subst (λ (r : PlayRow). IsPairFor (of_play (kind_at stakes k) r.entry.end) s w r.pair) found.3 (is.pairs found.0 row found.2) in
            subst (λ (q : Placement). IsPairFor (of_play (kind_at stakes k) q) s w chosen) found.4.0 (subst (IsPairFor (of_play (kind_at stakes k) row.entry.end) s w) found.4.1 own)

        pub chosen-near : IsNear chosen
        chosen-near = near-play s stakes valid fits p k state end w chosen chosen-pair

        pub play-weighed : IsPairFor (of_loss stakes p k (Played roll end)) s w (loss (record { chosen = chosen; others = other_pairs end rows }))
        play-weighed = play-loss s stakes valid fits p k state roll end (all_but end (map row_end rows)) are-others w chosen (other_pairs end rows) chosen-pair (others-from rows is.pairs)

  -- ---- the cube

  module _ (w : Notes) (rolling : Bounds) (roll : IsPairFor (of_roll stakes p k 1) s w rolling) (action : CubeAction) where
    abbrev pub Advises : Double → CubeAction → Type 0
    Advises double a = IsActionBy (λ answers pairs. ArePairsFor (of_answer stakes p) answers s w pairs) rolling double a

    advised-double : (o : Option Double) → (kind_at stakes k).double ≡ o → IsAdviceOn o (Some action) Advises → (double : Double) × ((kind_at stakes k).double ≡ Some double) × Advises double action
    advised-double None is on = absurd on
    advised-double (Some double) is on = (double, is, on)

    module _ (on : IsAdviceOn (kind_at stakes k).double (Some action) Advises) where
      abbrev taken : List Bounds
      taken = taken_of action

      pub all-taken-near : All IsNear taken
      all-taken-near = let (double, is, by) = advised-double (kind_at stakes k).double refl on in taken-near s stakes valid fits p k state double is w taken by.taken

      pub doubling-near : IsNear (doubling_of action)
      doubling-near =
          let (double, is, by) = advised-double (kind_at stakes k).double refl on in
          source-near s stakes valid fits p k state (doubling_of action)
          (subst (λ (pass : Bounds). IsWithin (pos 4 *ℤ s.bound) (least_pair pass taken)) (sym by.pass) (doubled-within s stakes valid fits p k state double is w taken by.taken))

      pub answers-many : (answer : Answer) → IfDouble (kind_at stakes k).double (λ double. HasAnswer double answer) → IsAmongAnswers (length taken) answer
      answers-many answer may =
          let (double, is, by) = advised-double (kind_at stakes k).double refl on in
          answer-count s stakes p w double taken answer by.taken (subst (λ (o : Option Double). IfDouble o (λ d. HasAnswer d answer)) is may)

      pub offer-weighed : (offer : Offer) → IsPairFor (of_loss stakes p k (Offered offer)) s w (loss (offer_options rolling (doubling_of action) offer))
      offer-weighed offer =
          let (double, is, by) = advised-double (kind_at stakes k).double refl on in
          subst (λ (pass : Bounds). IsPairFor (of_loss stakes p k (Offered offer)) s w (loss (offer_options rolling (least_pair pass taken) offer))) (sym by.pass)
          (offer-loss s stakes valid fits p k state double is w taken by.taken rolling roll offer)

      pub answer-weighed : (answer : Answer) → IsPairFor (of_loss stakes p k (Answered answer)) s w (loss (answer_options (negated action.pass) (map negated taken) answer))
      answer-weighed answer =
          let (double, is, by) = advised-double (kind_at stakes k).double refl on in
          subst (λ (pass : Bounds). IsPairFor (of_loss stakes p k (Answered answer)) s w (loss (answer_options (negated pass) (map negated taken) answer))) (sym by.pass)
          (answer-loss s stakes valid fits p k state double is w taken by.taken rolling roll answer)

  -- ---- by later notes

  module _ (u v : Notes) (tighter : AreLater s u v) where
    states : (j : ℕ) → j < s.kinds → IsStateOf s.checkers s.kinds p j
    states j below = record { position = state.position; many = state.many; live = state.live; kind = below }

    ranking-later : (roll : Dice) → IsRoll roll → (ranking : Ranking) → IsRanking stakes p k roll s u ranking → IsRanking stakes p k roll s v ranking
    ranking-later roll is_roll ranking is = record { some = is.some; ends = is.ends; distinct = is.distinct; first = is.first; pairs = pairs; in_order = is.in_order; bound = is.bound } where
      pairs : All (λ (row : PlayRow). IsPairFor (of_play (kind_at stakes k) row.entry.end) s v row.pair) ranking.rows.items
      pairs = all-of (λ (row : PlayRow). IsPairFor (of_play (kind_at stakes k) row.entry.end) s v row.pair) ranking.rows.items
          (λ row m.
          let end = row.entry.end in
          let legal = (is.ends end).0 (Among-Contains end (map row_end ranking.rows.items) (Among-map row_end row ranking.rows.items m)) in
          pair-later s (of_play (kind_at stakes k) end) (play-tightens s (kind_at stakes k) end (source-leaves s stakes valid fits p k state roll is_roll end legal)) u v tighter row.pair
          (member (λ (r : PlayRow). IsPairFor (of_play (kind_at stakes k) r.entry.end) s u r.pair) ranking.rows.items is.pairs row m))

    advice-later : (advice : CubeAdvice) → IsCubeAdvice stakes p k s u advice → IsCubeAdvice stakes p k s v advice
    advice-later advice is = record {
      no_double = pair-later s (of_roll stakes p k 1) (roll-tightens s stakes valid fits p states k 1 state.kind) u v tighter advice.no_double is.no_double;
      action = by_both (kind_at stakes k).double refl advice.action is.action;
    } where
      by_both : (o : Option Double) → (kind_at stakes k).double ≡ o → (action : Option CubeAction) → IsAdviceOn o action (λ d a. IsActionBy (λ answers pairs. ArePairsFor (of_answer stakes p) answers s u pairs) advice.no_double d a) → IsAdviceOn o action (λ d a. IsActionBy (λ answers pairs. ArePairsFor (of_answer stakes p) answers s v pairs) advice.no_double d a)
      by_both None none None on = tt
      by_both None none (Some action) on = absurd on
      by_both (Some double) some None on = absurd on
      by_both (Some double) some (Some action) on = record {
        taken = pairs-later s (of_answer stakes p) double.answers.items (λ taken m. answer-tightens s stakes valid fits p states double (right-double s stakes valid fits p k state double some) taken m) u v tighter (taken_of action) on.taken;
        pass = on.pass;
        advised = on.advised;
      }

    pub best-later : (choice : Choice) → IsChoice stakes p k choice → (best : Best) → IsBest stakes p k choice s u best → IsBest stakes p k choice s v best
    best-later (Played roll end) can best (ranking, ranked, first) = (ranking, ranking-later roll can.0 ranking ranked, first)
    best-later (Offered offer) can best (advice, advises, told) = (advice, advice-later advice advises, told)
    best-later (Answered answer) can best (advice, advises, told) = (advice, advice-later advice advises, told)
