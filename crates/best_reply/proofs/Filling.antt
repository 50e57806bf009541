-- Pairs that are put position by position, and both sides' rounds.
use Rattle.std.proofs.Common.{◌≡◌, ◌≢◌, ◌<◌, ◌≤◌, ◌+◌, ◌*◌, ◌∙◌, ℕ, zero, suc, ℤ, List, length, replicate, get_or, set, sum, inl, inr, refl, ap, sym, subst, length-set, get_or-set_same, get_or-set_other, arith}
use Rattle.std.proofs.lemmas.Bool.{cases_eq, cases_lt}
use Rattle.std.proofs.lemmas.List.{length-replicate}
use Rattle.std.proofs.Math.Nat.{mul-le-mul_right}
use Rattle.position_rank.specs.Placement.{Placement, IsPosition, IsLive}
use Rattle.position_rank.specs.LiveRanks.{live_positions, live_rank_of}
use Rattle.position_rank.proofs.LiveLaws.{live-rank-in, live-same}
use Rattle.directed_fixed.specs.declared.bounds.End.{End}
use Rattle.directed_fixed.specs.declared.bounds.End.TheVariants.{Lower, Upper}
use Rattle.directed_fixed.specs.Bounds.{Bounds, at}
use Rattle.cube_actions.specs.Stakes.{nothing, IsValid}
use Rattle.turn_rule.specs.declared.game.Game.{Game}
use Rattle.column_turns.proofs.Places.{places-same}
use Rattle.turn_rule.specs.Games.{IsGame, kinds_of}
use Rattle.turn_rule.specs.Turn.{Words, bound_pair, bound_words}
use Rattle.turn_rule.specs.States.{Agree, AreWithin, IsState, pair_of}
use Rattle.turn_rule.proofs.Agreement.{turn-agree}
use Rattle.turn_rule.proofs.Within.{opening-within, turn-within}
use Rattle.interval_words.specs.Numbers.{state_of, states_in}
use Rattle.interval_words.specs.WordLists.{WordList, states_of, words_in_list}
use Rattle.interval_words.proofs.Places.{state-in}
use Rattle.best_reply.specs.declared.sweep.Banks.{Banks}
use Rattle.best_reply.specs.Policies.{IsLegalPolicy}
use Rattle.best_reply.specs.Replies.{Follower, Replier}
use Rattle.best_reply.specs.ReplyPairs.{reply_rounds, turn_by}
use Rattle.best_reply.specs.Sides.{AreBanksOf, AreRightBanks, AreSwept, AreReplyRounds, IsReplyTurned, both_words, turned_words}
use Rattle.best_reply.specs.Tables.{IsBankOf, IsFilledTo, ArePairsPut, IsRightBank, StatePairs, follow_sum, policy_of, sums_in, turn_from, words_by}
use Rattle.best_reply.proofs.Doubled.{from-same, turn-followed}
use Rattle.best_reply.proofs.Lines.{legal-advised}
use Rattle.best_reply.proofs.Rounds.{turn_by-agrees, turn_by-stays}

-- ---- the kinds of one position

-- the first so many kinds have got these pairs
pub record IsPutTo (rank : ℕ) (pair : ℕ → Bounds) (old : StatePairs) (n : ℕ) (new : StatePairs) : Type 0 where
  pub kinds : new.kinds ≡ old.kinds
  pub many : length new.pairs ≡ length old.pairs
  pub put : (k : ℕ) → k < n → get_or new.pairs (rank * old.kinds + k) nothing ≡ pair k
  pub rest : (other k : ℕ) → other ≢ rank → k < old.kinds → get_or new.pairs (other * old.kinds + k) nothing ≡ get_or old.pairs (other * old.kinds + k) nothing

pub put-none : (rank : ℕ) (pair : ℕ → Bounds) (old : StatePairs) → IsPutTo rank pair old 0 old
put-none rank pair old = record { kinds = refl; many = refl; put = λ k below. absurd (omega arith); rest = λ other k apart below. refl }

-- one kind more
pub put-more : (rank : ℕ) (pair : ℕ → Bounds) (old : StatePairs) (n : ℕ) (mid new : StatePairs) (value : Bounds) → IsPutTo rank pair old n mid → n < old.kinds → rank * mid.kinds + n < length mid.pairs → value ≡ pair n
    → new ≡ record mid { pairs = set mid.pairs (rank * mid.kinds + n) value } → IsPutTo rank pair old (n + 1) new
put-more rank pair old n mid new value so_far kind inside is made =
    let here : rank * mid.kinds + n ≡ rank * old.kinds + n = ap (λ (k : ℕ). rank * k + n) so_far.kinds in
    let pairs : new.pairs ≡ set mid.pairs (rank * old.kinds + n) value = ap (λ (b : StatePairs). b.pairs) made ∙ ap (λ (i : ℕ). set mid.pairs i value) here in
    let room : rank * old.kinds + n < length mid.pairs = subst (λ (i : ℕ). i < length mid.pairs) here inside in
    let at : (place : ℕ) → get_or new.pairs place nothing ≡ get_or (set mid.pairs (rank * old.kinds + n) value) place nothing = λ place. ap (λ (ps : List Bounds). get_or ps place nothing) pairs in
    record {
      kinds = ap (λ (b : StatePairs). b.kinds) made ∙ so_far.kinds;
      many = ap length pairs ∙ (length-set mid.pairs (rank * old.kinds + n) value ∙ so_far.many);
      put = λ k below. elim (cases_lt k n) [
        | inl earlier ↦ at (rank * old.kinds + k) ∙ (get_or-set_other mid.pairs (rank * old.kinds + n) (rank * old.kinds + k) value nothing (λ e. absurd (omega (arith, e, earlier))) ∙ so_far.put k earlier)
        | inr from ↦ (
            let last : k ≡ n = omega (arith, from, below) in
            at (rank * old.kinds + k) ∙ (ap (λ (i : ℕ). get_or (set mid.pairs (rank * old.kinds + n) value) (rank * old.kinds + i) nothing) last
            ∙ (get_or-set_same mid.pairs (rank * old.kinds + n) value nothing room ∙ (is ∙ ap pair (sym last)))))
      ];
      rest = λ other k apart below.
          at (other * old.kinds + k)
          ∙ (get_or-set_other mid.pairs (rank * old.kinds + n) (other * old.kinds + k) value nothing (λ e. apart (places-same old.kinds other rank k n below kind e).0) ∙ so_far.rest other k apart below);
    }

pub put-all : (rank : ℕ) (pair : ℕ → Bounds) (old : StatePairs) (n : ℕ) (new : StatePairs) → old.kinds ≤ n → IsPutTo rank pair old n new → ArePairsPut rank pair old new
put-all rank pair old n new past so_far = record { kinds = so_far.kinds; many = so_far.many; put = λ k below. so_far.put k (omega (arith, past, below)); rest = so_far.rest }

-- there is a place for each kind of each live rank
pub bank-place : (game : Game) (bank : StatePairs) (rank : ℕ) → IsBankOf game bank → rank < live_positions game.checkers → (k : ℕ) → k < bank.kinds → rank * bank.kinds + k < length bank.pairs
unfolding states_in
bank-place game bank rank full inside k kind =
    let room : (rank + 1) * bank.kinds ≤ live_positions game.checkers * bank.kinds = mul-le-mul_right bank.kinds (omega arith) in
    let all : length bank.pairs ≡ live_positions game.checkers * bank.kinds = full.many ∙ ap (λ (n : ℕ). live_positions game.checkers * n) (sym full.kinds) in
    omega (arith, room, all, kind)

-- ---- one position more

module _ (game : Game) (target : Words) (rank : ℕ) (q : Placement) (position : IsPosition q) (live : IsLive q) (many : sum q.mover ≡ game.checkers) (is : live_rank_of q ≡ rank) where
  pub state-at : (k : ℕ) → k < kinds_of game → IsState game q k
  state-at k inside = record { position = position; many = many; live = live; kind = inside }

  -- once this position has got the words, all that had them still have them
  module _ (pair : ℕ → Bounds) (old new : StatePairs) (turned : (k : ℕ) → k < kinds_of game → pair k ≡ pair_of target q k) (full : IsBankOf game old) (put : ArePairsPut rank pair old new) where
    pub put-full : IsBankOf game new
    put-full = record { kinds = put.kinds ∙ full.kinds; many = put.many ∙ full.many }

    old-kinds : (n k : ℕ) → get_or new.pairs (n * new.kinds + k) nothing ≡ get_or new.pairs (n * old.kinds + k) nothing
    old-kinds n k = ap (λ (kinds : ℕ). get_or new.pairs (n * kinds + k) nothing) put.kinds

    pub put-here : (k : ℕ) → k < kinds_of game → pair_of (words_by new) q k ≡ pair_of target q k
    unfolding state_of
    put-here k inside =
        let kind : k < old.kinds = omega (arith, inside, full.kinds) in
        old-kinds (live_rank_of q) k ∙ (ap (λ (n : ℕ). get_or new.pairs (n * old.kinds + k) nothing) is ∙ (put.put k kind ∙ turned k inside))

    pub put-keeps : (p : Placement) (k : ℕ) → IsState game p k → pair_of (words_by old) p k ≡ pair_of target p k → pair_of (words_by new) p k ≡ pair_of target p k
    unfolding state_of
    put-keeps p k state had = elim (cases_eq (live_rank_of p) rank) [
      | inl last ↦ (
          let same : q ≡ p = live-same q p position state.position live state.live (many ∙ sym state.many) (is ∙ sym last) in
          subst (λ (r : Placement). pair_of (words_by new) r k ≡ pair_of target r k) same (put-here k state.kind))
      | inr apart ↦ (
          let kind : k < old.kinds = omega (arith, state.kind, full.kinds) in
          old-kinds (live_rank_of p) k ∙ (put.rest (live_rank_of p) k apart kind ∙ had))
    ]

  pub fill-step : (pair : ℕ → Bounds) (old new : StatePairs) → ((k : ℕ) → k < kinds_of game → pair k ≡ pair_of target q k) → IsFilledTo game target rank old → ArePairsPut rank pair old new → IsFilledTo game target (rank + 1) new
  fill-step pair old new turned filled put = record {
    full = put-full pair old new turned filled.full put;
    so_far = λ p k state below. elim (cases_lt (live_rank_of p) rank) [
      | inl less ↦ put-keeps pair old new turned filled.full put p k state (filled.so_far p k state less)
      | inr more ↦ (
          let last : live_rank_of p ≡ rank = omega (arith, below, more) in
          let same : q ≡ p = live-same q p position state.position live state.live (many ∙ sym state.many) (is ∙ sym last) in
          subst (λ (r : Placement). pair_of (words_by new) r k ≡ pair_of target r k) same (put-here pair old new turned filled.full put k state.kind))
    ];
  }

  -- what the sums of all kinds give is the turn
  module _ (valid : IsValid game.stakes) (sums : List Bounds) where
    pub followed-turn : (policy : _) (u : Words) → ((k : ℕ) → k < kinds_of game → sums_in sums k ≡ follow_sum policy game.stakes u q k) → (k : ℕ) → k < kinds_of game → turn_from game.stakes (sums_in sums) k ≡ pair_of (turn_by policy game.stakes u) q k
    followed-turn policy u same k inside = from-same game.stakes valid (sums_in sums) (follow_sum policy game.stakes u q) same k inside ∙ turn-followed game.stakes u q policy k

-- ---- every position

at-ends : (u v : Words) (p : Placement) (k : ℕ) → pair_of u p k ≡ pair_of v p k → (end : End) → u end p k ≡ v end p k
at-ends u v p k same Lower = ap (λ (b : Bounds). b.lower) same
at-ends u v p k same Upper = ap (λ (b : Bounds). b.upper) same

all-filled : (game : Game) (target : Words) (bank : StatePairs) → IsFilledTo game target (live_positions game.checkers) bank → Agree game (words_by bank) target
all-filled game target bank filled end p k state =
    at-ends (words_by bank) target p k (filled.so_far p k state (subst (λ (n : ℕ). live_rank_of p < live_positions n) state.many (live-rank-in p state.position state.live))) end

agree-within : (game : Game) (u v : Words) → Agree game u v → AreWithin game v → AreWithin game u
agree-within game u v same within p k state =
    let w = within p k state in
    record { from = rw (same Lower p k state) w.from; in_order = rw (same Lower p k state, same Upper p k state) w.in_order; to = rw (same Upper p k state) w.to }

module _ (words : WordList) (game_is : IsGame words.game) where
  abbrev game : Game
  game = words.game

  legal : IsLegalPolicy (policy_of words)
  legal p k roll = legal-advised game.stakes (words_in_list words) p k roll

  -- once each has been swept
  pub all-swept : (old new : Banks) → AreSwept words old new → IsReplyTurned (record { words = words; both = old }) (record { words = words; both = new })
  all-swept old new swept Follower = all-filled game (turned_words words (both_words old) Follower) new.follow swept.follow
  all-swept old new swept Replier = all-filled game (turned_words words (both_words old) Replier) new.reply swept.reply

  pub swept-right : (old new : Banks) → AreRightBanks game old → AreSwept words old new → AreRightBanks game new
  swept-right old new right swept =
      let same = all-swept old new swept in
      record {
        follow = record { full = swept.follow.full; within = agree-within game (words_by new.follow) (turned_words words (both_words old) Follower) (same Follower) (turn_by-stays (policy_of words) legal game game_is.stakes (words_by old.reply) right.reply.within) };
        reply = record { full = swept.reply.full; within = agree-within game (words_by new.reply) (turned_words words (both_words old) Replier) (same Replier) (turn-within game game_is.stakes (words_by old.follow) right.follow.within) };
      }

  agree-trans : (u v w : Words) → Agree game u v → Agree game v w → Agree game u w
  agree-trans u v w h k end p j state = h end p j state ∙ k end p j state

  -- one round more
  pub round-more : (old new : Banks) (r : ℕ) → AreSwept words old new → AreReplyRounds (record { words = words; both = old }) r → AreReplyRounds (record { words = words; both = new }) (suc r)
  unfolding reply_rounds
  round-more old new r swept has Follower =
      agree-trans (words_by new.follow) (turned_words words (both_words old) Follower) (reply_rounds (policy_of words) game.stakes (suc r) Follower) (all-swept old new swept Follower)
      (turn_by-agrees (policy_of words) legal game game_is.stakes (words_by old.reply) (reply_rounds (policy_of words) game.stakes r Replier) (has Replier))
  round-more old new r swept has Replier =
      agree-trans (words_by new.reply) (turned_words words (both_words old) Replier) (reply_rounds (policy_of words) game.stakes (suc r) Replier) (all-swept old new swept Replier)
      (turn-agree game game_is.stakes (words_by old.follow) (reply_rounds (policy_of words) game.stakes r Follower) (has Follower))

  -- ---- before the first round

  all_same : (n i : ℕ) (pair : Bounds) → i < n → get_or (replicate n pair) i nothing ≡ pair
  all_same zero i pair h = absurd (omega arith)
  all_same (suc n) zero pair h = refl
  all_same (suc n) (suc i) pair h = all_same n i pair (omega arith)

  -- a pair of which only the bound is known, for each state
  module _ (bank : StatePairs) (kinds states : ℕ) (pair : Bounds) (made : bank ≡ record { kinds = kinds; pairs = replicate states pair }) (kinds_is : kinds ≡ kinds_of game) (states_is : states ≡ states_of game) (pair_is : pair ≡ bound_pair game.stakes) where
    pub opening-full : IsBankOf game bank
    opening-full = record {
      kinds = ap (λ (b : StatePairs). b.kinds) made ∙ kinds_is;
      many = ap (λ (b : StatePairs). length b.pairs) made ∙ (length-replicate states pair ∙ states_is);
    }

    by_end : (end : End) (p : Placement) (k : ℕ) → at end (bound_pair game.stakes) ≡ bound_words game.stakes end p k
    by_end Lower p k = refl
    by_end Upper p k = refl

    pub opening-agrees : Agree game (words_by bank) (bound_words game.stakes)
    opening-agrees end p k state =
        let inside : state_of kinds p k < states = subst (λ (n : ℕ). state_of kinds p k < n) (sym states_is) (subst (λ (n : ℕ). state_of n p k < states_of game) (sym kinds_is) (state-in game.checkers (kinds_of game) p k state)) in
        ap (λ (b : StatePairs). words_by b end p k) made ∙ (ap (at end) (all_same states (state_of kinds p k) pair inside ∙ pair_is) ∙ by_end end p k)

    pub opening-right : IsRightBank game bank
    opening-right = record { full = opening-full; within = agree-within game (words_by bank) (bound_words game.stakes) opening-agrees (opening-within game game_is.stakes) }

  pub opening-rounds : (both : Banks) → Agree game (words_by both.follow) (bound_words game.stakes) → Agree game (words_by both.reply) (bound_words game.stakes) → AreReplyRounds (record { words = words; both = both }) 0
  unfolding reply_rounds
  opening-rounds both follow reply Follower = follow
  opening-rounds both follow reply Replier = reply

  -- so they are right
  pub opening-ready : (both : Banks) → AreBanksOf game both → AreReplyRounds (record { words = words; both = both }) 0 → AreRightBanks game both
  unfolding reply_rounds
  opening-ready both full has = record {
    follow = record { full = full.follow; within = agree-within game (words_by both.follow) (bound_words game.stakes) (has Follower) (opening-within game game_is.stakes) };
    reply = record { full = full.reply; within = agree-within game (words_by both.reply) (bound_words game.stakes) (has Replier) (opening-within game game_is.stakes) };
  }

-- where there is a state, there is a position
pub some-position : (game : Game) (states : ℕ) → states ≡ states_of game → 0 < states → 0 < live_positions game.checkers
unfolding states_in
some-position game states is some = elim (cases_lt 0 (live_positions game.checkers)) [
  | inl there ↦ there
  | inr none ↦ (
      let zeroth : live_positions game.checkers ≡ 0 = omega arith in
      absurd (omega (arith, some, is, ap (λ (n : ℕ). n * kinds_of game) zeroth)))
]

-- the pair of a state, by the live rank of its position
pub looked-up : (bank : StatePairs) (p : Placement) (k rank : ℕ) (pair : Bounds) → rank ≡ live_rank_of p → pair ≡ get_or bank.pairs (rank * bank.kinds + k) nothing → pair ≡ pair_of (words_by bank) p k
unfolding state_of
looked-up bank p k rank pair is found = found ∙ ap (λ (r : ℕ). get_or bank.pairs (r * bank.kinds + k) nothing) is

pub same-pair : (u v : Words) (p : Placement) (k : ℕ) (pair : Bounds) → pair ≡ pair_of u p k → ((end : End) → u end p k ≡ v end p k) → pair ≡ pair_of v p k
same-pair u v p k pair is same =
    is ∙ (ap (λ (z : ℤ). record { lower = z; upper = u Upper p k }) (same Lower) ∙ ap (λ (z : ℤ). record { lower = v Lower p k; upper = z }) (same Upper))
