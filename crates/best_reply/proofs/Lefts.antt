-- What the plays of a roll leave, and which of them is advised.
use Rattle.std.proofs.Common.{◌≡◌, ◌<◌, ◌≤◌, ◌+◌, ◌*◌, ◌^◌, ◌∙◌, ℕ, zero, suc, ℤ, neg_ℤ, List, [], ◌∷◌, length, get_or, All, Option, None, inl, inr, refl, ap, sym, subst, arith}
use Rattle.std.proofs.lemmas.Bool.{cases_lt, cases_order}
use Rattle.std.proofs.lemmas.Nat.{mul-add-lt}
use Rattle.std.proofs.lemmas.List.{get_or-map, get_or_default, length-map}
use Rattle.position_rank.specs.Placement.{Placement, swap}
use Rattle.position_rank.specs.LiveRanks.{live_rank_of}
use Rattle.move_rules.specs.declared.play.Entry.{Entry}
use Rattle.move_rules.specs.declared.play.Move.{Move}
use Rattle.move_rules.specs.Order.{PlayComesBefore, IsFirst, plays_of}
use Rattle.move_rules.specs.Sequences.{IsLegal, IsLegalEnd}
use Rattle.move_rules.specs.declared.payoff.Won.{Won}
use Rattle.move_rules.specs.Payoff.{points}
use Rattle.directed_fixed.specs.declared.bounds.End.TheVariants.{Lower, Upper}
use Rattle.directed_fixed.specs.Bounds.{Bounds, negated}
use Rattle.cube_actions.specs.declared.kind.Kind.{Kind}
use Rattle.cube_actions.specs.Stakes.{Terms, kind_at}
use Rattle.turn_rule.specs.declared.game.Game.{Game}
use Rattle.turn_rule.specs.Games.{kinds_of}
use Rattle.turn_rule.specs.Turn.{Words, if_won, win}
use Rattle.turn_rule.specs.States.{IsState}
use Rattle.interval_words.specs.Numbers.{state_of}
use Rattle.interval_words.specs.WordLists.{WordList, pair_at, states_of, words_in_list}
use Rattle.interval_words.proofs.Places.{state-in}
use Rattle.play_analyser.specs.Rankings.{IsBetter}
use Rattle.play_analyser.specs.Regrets.{play_pair}
use Rattle.best_reply.specs.declared.left.Left.{Left}
use Rattle.best_reply.specs.Advised.{IsAdvised}
use Rattle.best_reply.proofs.Lines.{before-trans, better-then, better-trans, never-better}
use Rattle.best_reply.specs.Tables.{AreEndsOfPlays, IsBankOf, IsFirstBest, LeavesPair, LeavesStateOfGame, RollAt, StatePairs, ends_in}

-- ---- one play

both_ends : (pair : Bounds) (low high : ℤ) → pair.lower ≡ low → pair.upper ≡ high → pair ≡ record { lower = low; upper = high }
both_ends pair low high h k =
    let with_lower : ℤ → Bounds = λ z. record { lower = z; upper = pair.upper } in
    let with_upper : ℤ → Bounds = λ z. record { lower = low; upper = z } in
    ap with_lower h ∙ ap with_upper k

-- a play that doesn't end the game gives what the other side hasn't
pub goes-on : (kind : Kind) (u : Words) (q : Placement) → points q ≡ None → play_pair kind u q ≡ negated (record { lower = u Lower (swap q) kind.next; upper = u Upper (swap q) kind.next })
goes-on kind u q on =
    ap (λ (o : Option Won). record {
      lower = if_won o (λ won. (win kind won).lower) (neg_ℤ (u Upper (swap q) kind.next));
      upper = if_won o (λ won. (win kind won).upper) (neg_ℤ (u Lower (swap q) kind.next));
    }) on

pub place-is : (kinds rank next : ℕ) (p : Placement) → rank ≡ live_rank_of p → rank * kinds + next ≡ state_of kinds p next
unfolding state_of
place-is kinds rank next p is = ap (λ (n : ℕ). n * kinds + next) is

pub left-over : (kind : Kind) (words : WordList) (left : Left) (pair : Bounds) (kinds : ℕ) → kinds ≡ kinds_of words.game → points left.end ≡ None → left.rank ≡ live_rank_of (swap left.end) → pair ≡ negated (pair_at words.list (left.rank * kinds + kind.next)) → pair ≡ play_pair kind (words_in_list words) left.end
left-over kind words left pair kinds all on rank is =
    is ∙ (ap (λ (i : ℕ). negated (pair_at words.list i)) (ap (λ (n : ℕ). left.rank * n + kind.next) all ∙ place-is (kinds_of words.game) left.rank kind.next (swap left.end) rank) ∙ sym (goes-on kind (words_in_list words) left.end on))

pub over-inside : (kind : Kind) (words : WordList) (left : Left) (kinds : ℕ) → kinds ≡ kinds_of words.game → left.rank ≡ live_rank_of (swap left.end) → IsState words.game (swap left.end) kind.next → left.rank * kinds + kind.next < states_of words.game
over-inside kind words left kinds all rank state =
    subst (λ (i : ℕ). i < states_of words.game) (sym (ap (λ (n : ℕ). left.rank * n + kind.next) all ∙ place-is (kinds_of words.game) left.rank kind.next (swap left.end) rank))
    (state-in words.game.checkers (kinds_of words.game) (swap left.end) kind.next state)

pub small-place : (rank kinds next : ℕ) → rank < 2 ^ 24 → kinds ≤ 14 → next < kinds → rank * kinds + next < 2 ^ 36
small-place rank kinds next small few inside = omega (arith, mul-add-lt rank kinds next (2 ^ 24) small inside)

pub bank-inside : (game : Game) (bank : StatePairs) → IsBankOf game bank → (next : ℕ) (end : Placement) → LeavesStateOfGame game next end → LeavesPair bank next end
bank-inside game bank full next end leaves on =
    subst (λ (n : ℕ). live_rank_of (swap end) * bank.kinds + next < n) (sym full.many)
    (subst (λ (n : ℕ). n < states_of game) (sym (ap (λ (k : ℕ). live_rank_of (swap end) * k + next) full.kinds ∙ place-is (kinds_of game) (live_rank_of (swap end)) next (swap end) refl))
    (state-in game.checkers (kinds_of game) (swap end) next (leaves on)))

-- ---- some plays

pub of-ends : (P : Placement → Type 0) (lefts : List Left) → All P (ends_in lefts) → (i : ℕ) (none : Left) → i < length lefts → P (get_or lefts i none).end
of-ends P lefts all i none inside =
    subst P (get_or-map (λ (left : Left). left.end) lefts i none none.end inside) (all i none.end (omega (arith, inside, length-map lefts (λ (left : Left). left.end))))

-- an item of the list
pub item-end : (P : Placement → Type 0) (lefts : List Left) → All P (ends_in lefts) → (i : ℕ) (left : Left) → i < length lefts → left ≡ get_or lefts i left → P left.end
item-end P lefts all i left inside is = subst (λ (l : Left). P l.end) (sym is) (of-ends P lefts all i left inside)

-- ---- the first of the best

-- of the first so many plays
pub record IsBestTo (pair : Placement → Bounds) (lefts : List Left) (n place : ℕ) (most : Bounds) : Type 0 where
  pub inside : place < n
  pub all : n ≤ length lefts
  pub most_is : (none : Left) → most ≡ pair (get_or lefts place none).end
  pub before : (i : ℕ) (none : Left) → i < place → IsBetter most (pair (get_or lefts i none).end)
  pub none : (i : ℕ) (none : Left) → i < n → IsBetter (pair (get_or lefts i none).end) most → ⊥

module _ (pair : Placement → Bounds) (lefts : List Left) where
  at-any : (i : ℕ) (left none : Left) → i < length lefts → left ≡ get_or lefts i left → pair (get_or lefts i none).end ≡ pair left.end
  at-any i left none inside is = ap (λ (l : Left). pair l.end) (get_or_default lefts i none left inside ∙ sym is)

  pub best-of_first : (left : Left) (most : Bounds) → 0 < length lefts → left ≡ get_or lefts 0 left → most ≡ pair left.end → IsBestTo pair lefts 1 0 most
  best-of_first left most some is here = record {
    inside = omega arith;
    all = omega (arith, some);
    most_is = λ none. here ∙ sym (at-any 0 left none some is);
    before = λ i none below. absurd (omega arith);
    none = λ i none below better.
        let zeroth : i ≡ 0 = omega arith in
        never-better most (subst (λ (b : Bounds). IsBetter b most) (ap (λ (k : ℕ). pair (get_or lefts k none).end) zeroth ∙ (at-any 0 left none some is ∙ sym here)) better);
  }

  module _ (n place : ℕ) (most : Bounds) (best : IsBestTo pair lefts n place most) (left : Left) (found : Bounds) (inside : n < length lefts) (is : left ≡ get_or lefts n left) (here : found ≡ pair left.end) where
    this : (i : ℕ) (none : Left) → n ≤ i → i < n + 1 → pair (get_or lefts i none).end ≡ found
    this i none low high =
        let last : i ≡ n = omega arith in
        ap (λ (k : ℕ). pair (get_or lefts k none).end) last ∙ (at-any n left none inside is ∙ sym here)

    pub best-stays : (IsBetter found most → ⊥) → IsBestTo pair lefts (n + 1) place most
    best-stays worse = record {
      inside = omega (arith, best.inside);
      all = omega (arith, inside);
      most_is = best.most_is;
      before = best.before;
      none = λ i none below better. elim (cases_lt i n) [
        | inl earlier ↦ best.none i none earlier better
        | inr last ↦ worse (subst (λ (b : Bounds). IsBetter b most) (this i none last below) better)
      ];
    }

    pub best-changes : IsBetter found most → IsBestTo pair lefts (n + 1) n found
    best-changes ahead = record {
      inside = omega arith;
      all = omega (arith, inside);
      most_is = λ none. sym (this n none (omega arith) (omega arith));
      before = λ i none below. better-then found most (pair (get_or lefts i none).end) ahead (best.none i none below);
      none = λ i none below better. elim (cases_lt i n) [
        | inl earlier ↦ best.none i none earlier (better-trans (pair (get_or lefts i none).end) found most better ahead)
        | inr last ↦ never-better found (subst (λ (b : Bounds). IsBetter b found) (this i none last below) better)
      ];
    }

  pub best-of_all : (n place : ℕ) (most : Bounds) → length lefts ≤ n → IsBestTo pair lefts n place most → IsFirstBest pair lefts place
  best-of_all n place most past best = record {
    inside = omega (arith, best.inside, best.all);
    before = λ i none below. subst (λ (b : Bounds). IsBetter b (pair (get_or lefts i none).end)) (best.most_is none) (best.before i none below);
    none = λ i none below better. best.none i none (omega (arith, past, below)) (subst (IsBetter (pair (get_or lefts i none).end)) (sym (best.most_is none)) better);
  }

-- ---- the advised play

nth : {X : Type 0} (xs : List X) (i : ℕ) → i < length xs → (x : X) × ((none : X) → get_or xs i none ≡ x)
nth [] i h = absurd (omega arith)
nth (x ∷ xs) zero h = (x, λ none. refl)
nth (x ∷ xs) (suc i) h = nth xs i (omega arith)

module _ (stakes : Terms) (u : Words) (at : RollAt) (k : ℕ) (lefts : List Left) (right : AreEndsOfPlays at (ends_in lefts)) (place : ℕ) (first : IsFirstBest (play_pair (kind_at stakes k) u) lefts place) (left : Left) (here : left ≡ get_or lefts place left) where
  abbrev p : Placement
  p = at.position

  abbrev pair : Placement → Bounds
  pair = play_pair (kind_at stakes k) u

  many : length right.entries ≡ length lefts
  many = sym (length-map right.entries (λ (e : Entry). e.end)) ∙ (ap length right.is ∙ length-map lefts (λ (l : Left). l.end))

  record IsEntry (i : ℕ) (entry : Entry) : Type 0 where
    pub is : (none : Entry) → get_or right.entries i none ≡ entry
    pub end : (none : Left) → entry.end ≡ (get_or lefts i none).end
    pub leads : IsFirst p at.roll entry.play.items entry.end

  entry-at : (i : ℕ) → i < length lefts → (entry : Entry) × IsEntry i entry
  entry-at i inside =
      let there : i < length right.entries = omega (arith, inside, many) in
      let e = nth right.entries i there in (
        e.0,
        record {
          is = e.1;
          end = λ none.
              ap (λ (x : Entry). x.end) (sym (e.1 e.0))
              ∙ (sym (get_or-map (λ (x : Entry). x.end) right.entries i e.0 none.end there)
              ∙ (ap (λ (qs : List Placement). get_or qs i none.end) right.is ∙ get_or-map (λ (l : Left). l.end) lefts i none none.end inside));
          leads = subst (λ (x : Entry). IsFirst p at.roll x.play.items x.end) (e.1 e.0) (right.first i e.0 there);
        },
      )

  in-order : (i j : ℕ) (a b : Entry) → IsEntry i a → IsEntry j b → i < j → j < length lefts → PlayComesBefore a.play.items b.play.items
  in-order i j a b is_a is_b less inside =
      let there : j < length right.entries = omega (arith, inside, many) in
      let plays = λ (x : Entry). x.play.items in
      let before = right.in_order i j [] less (omega (arith, there, length-map right.entries plays)) in
      subst (λ (x : List Move). PlayComesBefore x b.play.items) (get_or-map plays right.entries i a [] (omega (arith, less, there)) ∙ ap plays (is_a.is a))
      (subst (PlayComesBefore (get_or (plays_of right.entries) i [])) (get_or-map plays right.entries j b [] there ∙ ap plays (is_b.is b)) before)

  -- a legal end stands in the list
  found-at : (q : Placement) → IsLegalEnd p at.roll q → (i : ℕ) × (i < length lefts) × ((get_or lefts i left).end ≡ q)
  found-at q legal =
      let there = (right.legal q).1 legal in
      let inside : there.0 < length lefts = omega (arith, there.1, length-map lefts (λ (l : Left). l.end)) in
      (there.0, inside, sym (get_or-map (λ (l : Left). l.end) lefts there.0 left q inside) ∙ there.2)

  mine : (entry : Entry) × IsEntry place entry
  mine = entry-at place first.inside

  my_end : mine.0.end ≡ left.end
  my_end = mine.1.end left ∙ ap (λ (l : Left). l.end) (sym here)

  at-place : (get_or lefts place left).end ≡ left.end
  at-place = ap (λ (l : Left). l.end) (sym here)

  never-earlier : (q : Placement) (others : List Move) → IsLegal p at.roll others q → pair q ≡ pair left.end → PlayComesBefore others mine.0.play.items → ⊥
  never-earlier q others legal same earlier =
      let there = found-at q (others, legal) in
      let j = there.0 in
      let entry = entry-at j there.1 in
      let leads : q ≡ entry.0.end = sym there.2 ∙ sym (entry.1.end left) in
      let legal_here : IsLegal p at.roll others entry.0.end = subst (IsLegal p at.roll others) leads legal in
      elim (cases_order j place) [
        | inl equal ↦ entry.1.leads.first others legal_here
            (subst (PlayComesBefore others) (ap (λ (e : Entry). e.play.items) (sym (mine.1.is mine.0) ∙ (ap (λ (i : ℕ). get_or right.entries i mine.0) (sym equal) ∙ entry.1.is mine.0))) earlier)
        | inr apart ↦ elim apart [
          | inl less ↦ never-better (pair q) (subst (λ (b : Bounds). IsBetter b (pair q)) (sym same)
              (subst (λ (r : Placement). IsBetter (pair left.end) (pair r)) there.2 (subst (λ (r : Placement). IsBetter (pair r) (pair (get_or lefts j left).end)) at-place (first.before j left less))))
          | inr more ↦ entry.1.leads.first others legal_here (before-trans others mine.0.play.items entry.0.play.items earlier (in-order place j mine.0 entry.0 mine.1 entry.1 more there.1))
        ]
      ]

  pub first-advised : IsAdvised stakes u p k at.roll left.end
  first-advised = record {
    moves = mine.0.play.items;
    legal = subst (IsLegal p at.roll mine.0.play.items) my_end mine.1.leads.legal;
    best = λ q legal better.
        let there = found-at q legal in
        first.none there.0 left there.1 (subst (λ (r : Placement). IsBetter (pair r) (pair (get_or lefts place left).end)) (sym there.2) (subst (λ (r : Placement). IsBetter (pair q) (pair r)) (sym at-place) better));
    first = never-earlier;
  }
