-- The outcomes of the advised plays, one after the other, and their sums.
use Rattle.std.proofs.Common.{◌≡◌, ◌<◌, ◌≤◌, ◌+◌, ◌*◌, ◌^◌, ◌∙◌, ◌++◌, ◌∷◌, [], ℕ, suc, pos, neg_ℤ, ◌+ℤ◌, ◌*ℤ◌, List, length, get_or, Option, Some, None, inl, inr, ap, sym, subst, length-append, arith}
use Rattle.std.proofs.lemmas.Bool.{cases_lt}
use Rattle.std.proofs.lemmas.Nat.{mul-add-lt}
use Rattle.std.proofs.lemmas.List.{get_or_append_left, get_or_default}
use Rattle.std.proofs.Math.Seq.{get_or-append_seam}
use Rattle.position_rank.specs.Placement.{Placement, swap}
use Rattle.position_rank.specs.LiveRanks.{live_positions, live_rank_of}
use Rattle.position_rank.specs.Ranks.{layouts}
use Rattle.position_rank.proofs.LiveLaws.{live-same, live_below-le, square-size}
use Rattle.roll_table.specs.Rolls.{Dice, all_rolls}
use Rattle.move_rules.specs.Sequences.{IsLegalEnd}
use Rattle.move_rules.specs.declared.payoff.Won.{Won}
use Rattle.move_rules.specs.Payoff.{points}
use Rattle.directed_fixed.specs.Bounds.{Bounds, IsWithin, negated}
use Rattle.cube_actions.specs.declared.kind.Kind.{Kind}
use Rattle.cube_actions.specs.Stakes.{kind_at, nothing}
use Rattle.turn_rule.specs.Games.{IsGame, kinds_of}
use Rattle.turn_rule.specs.Turn.{Words, if_won, win}
use Rattle.turn_rule.specs.declared.game.Game.{Game}
use Rattle.directed_fixed.specs.declared.bounds.End.TheVariants.{Lower, Upper}
use Rattle.turn_rule.specs.States.{IsState}
use Rattle.turn_rule.proofs.Greatest.{length-all_rolls}
use Rattle.column_turns.proofs.Places.{places-same}
use Rattle.interval_words.specs.Numbers.{state_of, states_in}
use Rattle.interval_words.specs.WordLists.{WordList, words_in_list}
use Rattle.interval_words.proofs.EachNumber.{each-number}
use Rattle.play_analyser.specs.Regrets.{play_pair}
use Rattle.best_reply.specs.declared.outcome.Outcome.{Outcome}
use Rattle.best_reply.specs.Outcomes.{AreAdvised, IsAdvisedTo, IsOutcomeOf, outcome_place, rank_in, win_of_number, won_in}
use Rattle.best_reply.specs.Tables.{IsRightBank, IsSmallSum, LeavesPair, StatePairs, follow_sum, policy_of, words_by}
use Rattle.best_reply.proofs.Lefts.{bank-inside, goes-on, place-is}
use Rattle.best_reply.proofs.Lines.{legal-advised}
use Rattle.best_reply.proofs.Listed.{legal-state, legal-within, small-pair}
use Rattle.best_reply.proofs.RollSums.{AreSums, IsRollAt, all-at, all-followed, followed, more-sums, small-sums}

-- ---- one outcome

pub rank-number : (rank : ℕ) → win_of_number (3 + rank) ≡ None
rank-number rank = let is : 3 + rank ≡ suc (suc (suc rank)) = omega arith in ap win_of_number is

pub pair-won : (kind : Kind) (u : Words) (end : Placement) (outcome : Outcome) (won : Won) (pair : Bounds) → IsOutcomeOf end outcome → won_in outcome ≡ Some won → pair ≡ win kind won → pair ≡ play_pair kind u end
pair-won kind u end outcome won pair is over here =
    here ∙ sym (ap (λ (o : Option Won). record {
      lower = if_won o (λ won. (win kind won).lower) (neg_ℤ (u Upper (swap end) kind.next));
      upper = if_won o (λ won. (win kind won).upper) (neg_ℤ (u Lower (swap end) kind.next));
    }) (sym is.won ∙ over))

pub pair-goes_on : (kind : Kind) (bank : StatePairs) (end : Placement) (outcome : Outcome) (rank : ℕ) (pair : Bounds) → IsOutcomeOf end outcome → won_in outcome ≡ None → rank ≡ rank_in outcome → pair ≡ negated (get_or bank.pairs (rank * bank.kinds + kind.next) nothing)
    → pair ≡ play_pair kind (words_by bank) end
pair-goes_on kind bank end outcome rank pair is on at here =
    let over : points end ≡ None = sym is.won ∙ on in
    here ∙ (ap (λ (i : ℕ). negated (get_or bank.pairs i nothing)) (place-is bank.kinds rank kind.next (swap end) (at ∙ is.rank over)) ∙ sym (goes-on kind (words_by bank) end over))

outcome-inside : (bank : StatePairs) (next : ℕ) (end : Placement) (outcome : Outcome) → IsOutcomeOf end outcome → LeavesPair bank next end → won_in outcome ≡ None → rank_in outcome * bank.kinds + next < length bank.pairs
outcome-inside bank next end outcome is leaves on =
    let over : points end ≡ None = sym is.won ∙ on in
    subst (λ (n : ℕ). n * bank.kinds + next < length bank.pairs) (sym (is.rank over)) (leaves over)

-- ---- outcomes that grow by one

-- some position has a live rank
pub record IsAt (game : Game) (rank k : ℕ) : Type 0 where
  pub position : Placement
  pub state : IsState game position k
  pub ranked : live_rank_of position ≡ rank

pub some-at : (game : Game) → IsGame game → (rank k : ℕ) → rank < live_positions game.checkers → k < kinds_of game → IsAt game rank k
unfolding states_in state_of
some-at game is rank k below kind =
    let kinds = kinds_of game in
    let some : 0 < kinds = omega (arith, kind) in
    let numbered = each-number game.checkers kinds (rank * kinds + k) is.low is.high some (omega (arith, mul-add-lt rank kinds k (live_positions game.checkers) below kind)) in
    let same = places-same kinds rank (live_rank_of numbered.position) k numbered.kind kind numbered.is.kind numbered.number in
    record { position = numbered.position; state = subst (λ (n : ℕ). IsState game numbered.position n) (sym same.1) numbered.is; ranked = sym same.0 }

pub live-few : (game : Game) → IsGame game → live_positions game.checkers ≤ 10732176
live-few game is = omega (arith, live_below-le game.checkers (layouts game.checkers * layouts game.checkers), square-size game.checkers is.low is.high)

module _ (words : WordList) where
  pub none-advised : AreAdvised words []
  none-advised p k i roll none state inside found below = absurd (omega (arith, below))

  -- one outcome more
  pub advised-more : (outcomes new : List Outcome) (q : Placement) (n j : ℕ) (one : Dice × ℕ) (outcome : Outcome) → AreAdvised words outcomes → IsState words.game q n → j < length all_rolls → one ≡ get_or all_rolls j one
      → length outcomes ≡ outcome_place (kinds_of words.game) q n j → IsOutcomeOf (policy_of words q n one.0) outcome → new ≡ outcomes ++ outcome ∷ [] → AreAdvised words new
  unfolding state_of
  advised-more outcomes new q n j one outcome before at here is many right made p k i roll none state inside found below =
      let kinds = kinds_of words.game in
      let place = (live_rank_of p * kinds + k) * 21 + i in
      let long : length new ≡ length outcomes + 1 = ap length made ∙ length-append outcomes (outcome ∷ []) in
      let reads : (m : ℕ) → get_or new m none ≡ get_or (outcomes ++ outcome ∷ []) m none = λ m. ap (λ (xs : List Outcome). get_or xs m none) made in
      elim (cases_lt place (length outcomes)) [
        | inl earlier ↦ subst (IsOutcomeOf (policy_of words p k roll.0)) (sym (reads place ∙ get_or_append_left outcomes (outcome ∷ []) none place earlier)) (before p k i roll none state inside found earlier)
        | inr from ↦ (
            let last : place ≡ length outcomes = omega (arith, from, below, long) in
            let few_i : i < 21 = omega (arith, inside, length-all_rolls) in
            let few_j : j < 21 = omega (arith, here, length-all_rolls) in
            let first = places-same 21 (live_rank_of p * kinds + k) (live_rank_of q * kinds + n) i j few_i few_j (last ∙ many) in
            let second = places-same kinds (live_rank_of p) (live_rank_of q) k n state.kind at.kind first.0 in
            let same : q ≡ p = live-same q p at.position state.position at.live state.live (at.many ∙ sym state.many) (sym second.0) in
            let rolls : one ≡ roll = is ∙ (ap (λ (m : ℕ). get_or all_rolls m one) (sym first.1) ∙ (get_or_default all_rolls i one roll inside ∙ sym found)) in
            let stands : get_or new place none ≡ outcome = reads place ∙ (ap (λ (m : ℕ). get_or (outcomes ++ outcome ∷ []) m none) last ∙ get_or-append_seam outcomes outcome [] none) in
            subst (IsOutcomeOf (policy_of words p k roll.0)) (sym stands)
            (subst (λ (r : Dice × ℕ). IsOutcomeOf (policy_of words p k r.0) outcome) rolls
            (subst (λ (m : ℕ). IsOutcomeOf (policy_of words p m one.0) outcome) (sym second.1)
            (subst (λ (r : Placement). IsOutcomeOf (policy_of words r n one.0) outcome) same right))))
      ]

-- ---- the sums of a position with a live rank

module _ (words : WordList) (bank : StatePairs) (rank number : ℕ) where
  -- they are so over the first few rolls
  abbrev pub AreSumsAt : ℕ → Bounds → Type 0
  AreSumsAt i sum =
      (p : Placement) → IsState words.game p number → live_rank_of p ≡ rank
      → AreSums (followed words.game.stakes (words_by bank) p number (policy_of words)) i sum

  module _ (game : IsGame words.game) (below : rank < live_positions words.game.checkers) (kind : number < kinds_of words.game) where
    pub sums-small : (i : ℕ) (sum : Bounds) → i ≤ length all_rolls → AreSumsAt i sum → IsSmallSum sum
    sums-small i sum few are =
        let at = some-at words.game game rank number below kind in
        small-sums (followed words.game.stakes (words_by bank) at.position number (policy_of words)) i sum (omega (arith, few, length-all_rolls)) (are at.position at.state at.ranked)

    pub sums-all : (i : ℕ) (sum : Bounds) → length all_rolls ≤ i → AreSumsAt i sum → (p : Placement) → IsState words.game p number → live_rank_of p ≡ rank → sum ≡ follow_sum (policy_of words) words.game.stakes (words_by bank) p number
    sums-all i sum past are p state ranked = all-followed words.game.stakes (words_by bank) p number (policy_of words) i sum past (are p state ranked)

    module _ (right : IsRightBank words.game bank) (outcomes : List Outcome) (advice : IsAdvisedTo words (live_positions words.game.checkers) outcomes) (i : ℕ) (here : i < length all_rolls) where
      pub outcome-room : (rank * kinds_of words.game + number) * 21 + i < length outcomes
      outcome-room =
          let state : rank * kinds_of words.game + number < live_positions words.game.checkers * kinds_of words.game = omega (arith, mul-add-lt rank (kinds_of words.game) number (live_positions words.game.checkers) below kind) in
          omega (arith, mul-add-lt (rank * kinds_of words.game + number) 21 i (live_positions words.game.checkers * kinds_of words.game) state (omega (arith, here, length-all_rolls)), advice.many)

      module _ (roll : Dice × ℕ) (is : roll ≡ get_or all_rolls i roll) (outcome : Outcome) (read : outcome ≡ get_or outcomes ((rank * kinds_of words.game + number) * 21 + i) outcome) where
        of-state : (p : Placement) → IsState words.game p number → live_rank_of p ≡ rank → IsOutcomeOf (policy_of words p number roll.0) outcome
        unfolding state_of
        of-state p state ranked =
            let place : outcome_place (kinds_of words.game) p number i ≡ (rank * kinds_of words.game + number) * 21 + i = ap (λ (n : ℕ). (n * kinds_of words.game + number) * 21 + i) ranked in
            let there = advice.advised p number i roll outcome state here is (subst (λ (n : ℕ). n < length outcomes) (sym place) outcome-room) in
            subst (IsOutcomeOf (policy_of words p number roll.0)) (ap (λ (n : ℕ). get_or outcomes n outcome) place ∙ sym read) there

        rolled : IsRollAt i roll
        rolled = all-at i roll here is

        pub step-inside : won_in outcome ≡ None → rank_in outcome * bank.kinds + (kind_at words.game.stakes number).next < length bank.pairs
        step-inside =
            let at = some-at words.game game rank number below kind in
            let end = policy_of words at.position number roll.0 in
            let legal : IsLegalEnd at.position roll.0 end = legal-advised words.game.stakes (words_in_list words) at.position number roll.0 in
            let next = (kind_at words.game.stakes number).next in
            outcome-inside bank next end outcome (of-state at.position at.state at.ranked)
            (bank-inside words.game bank right.full next end (legal-state words.game game.stakes at.position number at.state roll.0 rolled.right end legal))

        module _ (pair : Bounds) (gives : (end : Placement) → IsOutcomeOf end outcome → pair ≡ play_pair (kind_at words.game.stakes number) (words_by bank) end) where
          pub step-small : IsWithin (pos (2 ^ 36)) pair
          step-small =
              let at = some-at words.game game rank number below kind in
              let end = policy_of words at.position number roll.0 in
              let legal : IsLegalEnd at.position roll.0 end = legal-advised words.game.stakes (words_in_list words) at.position number roll.0 in
              subst (IsWithin (pos (2 ^ 36))) (sym (gives end (of-state at.position at.state at.ranked)))
              (small-pair words.game game.stakes at.position number at.state roll.0 rolled.right _ (legal-within words.game game.stakes at.position number at.state roll.0 rolled.right (words_by bank) right.within end legal))

          pub step-sums : (sum new : Bounds) → AreSumsAt i sum → new.lower ≡ sum.lower +ℤ pos roll.1 *ℤ pair.lower → new.upper ≡ sum.upper +ℤ pos roll.1 *ℤ pair.upper → AreSumsAt (i + 1) new
          step-sums sum new before lower upper p state ranked =
              more-sums (followed words.game.stakes (words_by bank) p number (policy_of words)) i roll sum pair new rolled (before p state ranked)
              (gives (policy_of words p number roll.0) (of-state p state ranked)) step-small lower upper
