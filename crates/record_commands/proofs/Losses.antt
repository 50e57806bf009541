-- What a decision loses, over words that agree on the states that may follow.
use Rattle.std.proofs.Common.{◌≡◌, ◌∙◌, ◌≤ℤ◌, ◌*ℤ◌, ℕ, ℤ, pos, neg_ℤ, false, IsTrue, None, inl, refl, sym, arith}
use Rattle.std.specs.Int.{int_max, int_min}
use Rattle.std.proofs.lemmas.Int.{ints, clamps}
use Rattle.position_rank.specs.Placement.{Placement}
use Rattle.directed_fixed.specs.declared.bounds.End.{End}
use Rattle.directed_fixed.specs.declared.bounds.End.TheVariants.{Lower, Upper}
use Rattle.directed_fixed.specs.Bounds.{Bounds, AreNoLooserPairs, IsNoLooser, IsWithin, at}
use Rattle.cube_actions.specs.Stakes.{Terms}
use Rattle.turn_rule.specs.declared.choice.Choice.{Choice}
use Rattle.turn_rule.specs.declared.choice.Choice.TheVariants.{Played, Offered, Answered}
use Rattle.turn_rule.specs.declared.game.Game.{Game}
use Rattle.turn_rule.specs.Following.{AgreeOn}
use Rattle.turn_rule.specs.Games.{IsGame}
use Rattle.turn_rule.specs.Looks.{all_told, IsBetweenWords, IsPairFor, Notes, Source}
use Rattle.turn_rule.specs.States.{AreNoLooser, IsState}
use Rattle.turn_rule.specs.Turn.{Words}
use Rattle.turn_rule.proofs.Monotone.{same-stakes}
use Rattle.turn_rule.proofs.Tight.{each-end, tight-refl}
use Rattle.turn_rule.proofs.Within.{follow-turn-state}
use Rattle.play_analyser.specs.Choices.{IsChoice}
use Rattle.play_analyser.specs.Regrets.{loss_of}
use Rattle.play_analyser.specs.Sought.{MayFollowChoice, of_loss}
use Rattle.play_analyser.proofs.Tighter.{loss-of-tighter}

-- words as loose as two others
abbrev hull : Words → Words → Words
hull u v Lower p k = int_min (u Lower p k) (v Lower p k)
hull u v Upper p k = int_max (u Upper p k) (v Upper p k)

hull-left : (u v : Words) (end : End) (p : Placement) (k : ℕ) → IsNoLooser end (u end p k) (hull u v end p k)
hull-left u v Lower p k = omega (arith, ints, clamps)
hull-left u v Upper p k = omega (arith, ints, clamps)

hull-right : (u v : Words) (end : End) (p : Placement) (k : ℕ) → IsNoLooser end (v end p k) (hull u v end p k)
hull-right u v Lower p k = omega (arith, ints, clamps)
hull-right u v Upper p k = omega (arith, ints, clamps)

hull-same : (u v : Words) (end : End) (p : Placement) (k : ℕ) → u end p k ≡ v end p k → hull u v end p k ≡ u end p k
hull-same u v Lower p k same = omega (arith, ints, clamps)
hull-same u v Upper p k same = omega (arith, ints, clamps)

-- a source of these words
abbrev told_source : Words → ℤ → Source
told_source floor bound = record { checkers = 0; kinds = 0; bound = bound; sure = false; floor = floor; damage = λ _ _. None }

-- how far a pair lies from 0 at most
abbrev reach : Bounds → ℤ
reach pair = int_max (neg_ℤ pair.lower) pair.upper

near : (bound : ℤ) (pair : Bounds) → pos 0 ≤ℤ bound → neg_ℤ bound ≤ℤ pair.lower → pair.lower ≤ℤ pair.upper → pair.upper ≤ℤ bound → IsWithin (pos 8 *ℤ bound) pair
near bound pair some from in_order to = record { from = omega (arith, ints); in_order = in_order; to = omega (arith, ints) }

some-reach : (lower upper : ℤ) → lower ≤ℤ upper → pos 0 ≤ℤ int_max (neg_ℤ lower) upper
some-reach lower upper in_order = omega (arith, ints, clamps)

within-reach : (pair : Bounds) → pair.lower ≤ℤ pair.upper → IsWithin (pos 8 *ℤ reach pair) pair
within-reach pair in_order = near (reach pair) pair (some-reach pair.lower pair.upper in_order) (omega (arith, ints, clamps)) in_order (omega (arith, ints, clamps))

-- the law on one list of words
abbrev pub LossLaw : Type 0
LossLaw =
    (source : Source) (u : Notes) (stakes : Terms) (p : Placement) (k : ℕ) (choice : Choice) (pair : Bounds) → IsTrue u.told → IsChoice stakes p k choice
    → ((end : End) → AgreeOn (MayFollowChoice stakes p k choice) end source.floor u.words) → IsPairFor (of_loss stakes p k choice) source u pair → pair ≡ loss_of stakes u.words p k choice

module _ (law : LossLaw) (game : Game) (right : IsGame game) (p : Placement) (k : ℕ) (state : IsState game p k) (choice : Choice) (can : IsChoice game.stakes p k choice) where
  -- words as loose as others, which agree with them where it counts, give the same loss
  looser-same : (wide u : Words) → AreNoLooser game u wide → ((end : End) → AgreeOn (MayFollowChoice game.stakes p k choice) end wide u)
      → (loss_of game.stakes wide p k choice).lower ≤ℤ (loss_of game.stakes wide p k choice).upper → loss_of game.stakes wide p k choice ≡ loss_of game.stakes u p k choice
  looser-same wide u tight agree in_order =
      let pair = loss_of game.stakes wide p k choice in
      let tighter : AreNoLooserPairs (loss_of game.stakes u p k choice) pair = loss-of-tighter game right game.stakes (same-stakes game.stakes) u wide tight p k state choice can in
      law (told_source wide (reach pair)) (all_told u) game.stakes p k choice pair refl can agree (record {
        within = within-reach pair in_order;
        ends = λ _. each-end (λ end. IsBetweenWords end wide u (λ w. at end (loss_of game.stakes w p k choice)) (at end pair))
            (record { no_looser = tight-refl Lower pair.lower; no_tighter = tighter.lower })
            (record { no_looser = tight-refl Upper pair.upper; no_tighter = tighter.upper });
        right = λ _ q j may. refl;
      })

  -- words that agree on the states that may follow give the same loss, where one of the two is in order
  pub same-loss : (u v : Words) → ((end : End) → AgreeOn (MayFollowChoice game.stakes p k choice) end u v)
      → (loss_of game.stakes u p k choice).lower ≤ℤ (loss_of game.stakes u p k choice).upper → loss_of game.stakes u p k choice ≡ loss_of game.stakes v p k choice
  same-loss u v agree in_order =
      let wide = hull u v in
      let tight : AreNoLooserPairs (loss_of game.stakes u p k choice) (loss_of game.stakes wide p k choice) =
      loss-of-tighter game right game.stakes (same-stakes game.stakes) u wide (λ end q j is. hull-left u v end q j) p k state choice can in
      let ordered : (loss_of game.stakes wide p k choice).lower ≤ℤ (loss_of game.stakes wide p k choice).upper = omega (arith, ints, tight.lower, tight.upper, in_order) in
      let left = λ (end : End) (q : Placement) (j : ℕ) (may : MayFollowChoice game.stakes p k choice q j). hull-same u v end q j (agree end q j may) in
      sym (looser-same wide u (λ end q j is. hull-left u v end q j) left ordered)
      ∙ looser-same wide v (λ end q j is. hull-right u v end q j) (λ end q j may. left end q j may ∙ agree end q j may) ordered

-- the states that may follow are the game's
module _ (game : Game) (right : IsGame game) (p : Placement) (k : ℕ) (state : IsState game p k) (choice : Choice) (can : IsChoice game.stakes p k choice) where
  pub choice-state : (q : Placement) (j : ℕ) → MayFollowChoice game.stakes p k choice q j → IsState game q j
  choice-state = by_choice choice can where
    by_choice : (c : Choice) → IsChoice game.stakes p k c → (q : Placement) (j : ℕ) → MayFollowChoice game.stakes p k c q j → IsState game q j
    by_choice (Played roll end) is q j may = follow-turn-state game right.stakes p k state q j (inl (record { roll = roll; right = is.0; end = may.end; legal = may.legal; left = may.left }))
    by_choice (Offered offer) is q j may = follow-turn-state game right.stakes p k state q j may
    by_choice (Answered answer) is q j may = follow-turn-state game right.stakes p k state q j may
