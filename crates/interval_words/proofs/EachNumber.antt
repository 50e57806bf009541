-- Each number below the number of states is that of a state.
use Rattle.std.proofs.Common.{◌≡◌, ◌<◌, ◌≤◌, ◌+◌, ◌-◌, ◌*◌, ◌/◌, ◌%◌, ℕ, zero, suc, Bool, true, false, List, [], ◌∷◌, All, length, sum, arith, refl, sym, ap, ◌∙◌, inl, inr, add-one}
use Rattle.std.proofs.lemmas.Bool.{cases_lt, false≢true}
use Rattle.std.proofs.Math.Nat.{div-lt_iff_lt-mul}
use Rattle.std.proofs.lemmas.Nat.{div-add-mod'}
use Rattle.position_rank.specs.Placement.{Placement, IsLayout, IsPosition, IsLive}
use Rattle.position_rank.specs.Packed.{counts_of}
use Rattle.position_rank.proofs.PlaceCounts.{length-counts_of, sum-counts_of}
use Rattle.position_rank.specs.Ranks.{choose, layouts, rank_of, square_rank_of}
use Rattle.position_rank.specs.LiveRanks.{is_live, live_below, live_positions, live_rank_of}
use Rattle.position_rank.proofs.Choose.{choose-two-more, choose-three-more}
use Rattle.position_rank.proofs.RankLaws.{layouts-one, rank-of_one, rank-of_two, rank-of_three}
use Rattle.position_rank.proofs.LiveLaws.{live_below-none, live-counts, dead-counts, live-from, from-live}
use Rattle.turn_rule.specs.States.{IsStateOf}
use Rattle.interval_words.specs.Numbers.{state_of, states_in}

-- where a number lies between the values of a function
between : (f : ℕ → ℕ) (r n : ℕ) → f 0 ≤ r → r < f n → (h : ℕ) × (h < n) × (f h ≤ r) × (r < f (suc h))
between f r zero from to = absurd (omega arith)
between f r (suc n) from to = elim (cases_lt r (f n)) [
  | inl less ↦ (let lower = between f r n from less in (lower.0, omega (arith, lower.1), lower.2, lower.3))
  | inr more ↦ (n, omega arith, more, to)
]

-- a layout with a rank
record Ranked (checkers rank : ℕ) : Type 0 where
  counts : List ℕ
  valid : IsLayout counts
  many : sum counts ≡ checkers
  ranked : rank_of counts ≡ rank

layout-of : (places : List ℕ) → All (λ place. place ≤ 25) places → 1 ≤ length places → length places ≤ 3 → IsLayout (counts_of places)
layout-of places all some few =
    let many = sum-counts_of places all in
    record { places = length-counts_of places; at_least_one = omega (arith, many); at_most_three = omega (arith, many) }

all-one : (a : ℕ) → a ≤ 25 → All (λ place. place ≤ 25) (a ∷ [])
all-one a h zero d i = h
all-one a h (suc k) d i = absurd (omega (arith, i))

all-two : (a b : ℕ) → a ≤ 25 → b ≤ 25 → All (λ place. place ≤ 25) (a ∷ b ∷ [])
all-two a b h j zero d i = h
all-two a b h j (suc k) d i = all-one b j k d (omega arith)

all-three : (a b c : ℕ) → a ≤ 25 → b ≤ 25 → c ≤ 25 → All (λ place. place ≤ 25) (a ∷ b ∷ c ∷ [])
all-three a b c h j l zero d i = h
all-three a b c h j l (suc k) d i = all-two b c j l k d (omega arith)

ranked-one : (r : ℕ) → r < layouts 1 → Ranked 1 r
ranked-one r below =
    let small : r ≤ 25 = omega (arith, layouts-one) in
    record { counts = counts_of (r ∷ []); valid = layout-of (r ∷ []) (all-one r small) (omega arith) (omega arith); many = sum-counts_of (r ∷ []) (all-one r small); ranked = rank-of_one r small }

two-none : choose 1 2 ≡ 0
unfolding choose
two-none = refl

three-none : choose 2 3 ≡ 0
unfolding choose
three-none = refl

-- what two checkers make of a number below the ways up to a place
two-parts : (r n : ℕ) → r < choose (n + 1) 2 → (m : ℕ) × (h : ℕ) × (m ≤ h) × (h < n) × (m + choose (h + 1) 2 ≡ r)
two-parts r n below =
    let top = between (λ h. choose (h + 1) 2) r n (omega (arith, two-none)) below in
    let h = top.0 in
    let same : choose (suc h + 1) 2 ≡ choose (h + 2) 2 = ap (λ k. choose k 2) (let e : suc h + 1 ≡ h + 2 = omega arith in e) in
    (r - choose (h + 1) 2, h, omega (arith, top.3, same, choose-two-more h), top.1, omega (arith, top.2))

ranked-two : (r : ℕ) → r < layouts 2 → Ranked 2 r
ranked-two r below =
    let parts = two-parts r 26 below in
    let m = parts.0 in
    let h = parts.1 in
    let high : h ≤ 25 = omega (arith, parts.3) in
    let low : m ≤ 25 = omega (arith, parts.2, parts.3) in
    record {
      counts = counts_of (m ∷ h ∷ []);
      valid = layout-of (m ∷ h ∷ []) (all-two m h low high) (omega arith) (omega arith);
      many = sum-counts_of (m ∷ h ∷ []) (all-two m h low high);
      ranked = rank-of_two m h parts.2 high ∙ parts.4;
    }

put_together : (a b c r : ℕ) → a + b ≡ r - c → c ≤ r → a + b + c ≡ r
put_together a b c r h j = omega arith

-- three checkers on these places
made-three : (l m h r : ℕ) → l ≤ m → m ≤ h → h ≤ 25 → l + choose (m + 1) 2 + choose (h + 2) 3 ≡ r → Ranked 3 r
made-three l m h r low middle high is =
    let all = all-three l m h (omega arith) (omega arith) high in
    record {
      counts = counts_of (l ∷ m ∷ h ∷ []);
      valid = layout-of (l ∷ m ∷ h ∷ []) all (omega arith) (omega arith);
      many = sum-counts_of (l ∷ m ∷ h ∷ []) all;
      ranked = rank-of_three l m h low middle high ∙ is;
    }

ranked-three : (r : ℕ) → r < layouts 3 → Ranked 3 r
ranked-three r below =
    let top = between (λ h. choose (h + 2) 3) r 26 (omega (arith, three-none)) below in
    let h = top.0 in
    let high : h ≤ 25 = omega (arith, top.1) in
    let next : choose (suc h + 2) 3 ≡ choose (h + 3) 3 = ap (λ k. choose k 3) (let e : suc h + 2 ≡ h + 3 = omega arith in e) in
    let same : choose (h + 1 + 1) 2 ≡ choose (h + 2) 2 = ap (λ k. choose k 2) (let e : h + 1 + 1 ≡ h + 2 = omega arith in e) in
    let rest : r - choose (h + 2) 3 < choose (h + 1 + 1) 2 = omega (arith, top.2, top.3, next, same, choose-three-more h) in
    let parts = two-parts (r - choose (h + 2) 3) (h + 1) rest in
    let l = parts.0 in
    let m = parts.1 in
    made-three l m h r parts.2 (omega (arith, parts.3)) high (put_together l (choose (m + 1) 2) (choose (h + 2) 3) r parts.4 top.2)

each-layout : (checkers rank : ℕ) → 1 ≤ checkers → checkers ≤ 3 → rank < layouts checkers → Ranked checkers rank
each-layout zero rank low high below = absurd (omega arith)
each-layout (suc zero) rank low high below = ranked-one rank below
each-layout (suc (suc zero)) rank low high below = ranked-two rank below
each-layout (suc (suc (suc zero))) rank low high below = ranked-three rank below
each-layout (suc (suc (suc (suc n)))) rank low high below = absurd (omega arith)

-- a position at a square
record Squared (checkers square : ℕ) : Type 0 where
  position : Placement
  valid : IsPosition position
  many : sum position.mover ≡ checkers
  ranked : square_rank_of position ≡ square

each-square : (checkers square : ℕ) → 1 ≤ checkers → checkers ≤ 3 → square < layouts checkers * layouts checkers → Squared checkers square
each-square checkers square low high below = elim (cases_lt 0 (layouts checkers)) [
  | inl positive ↦ (
      let n = layouts checkers in
      let row : square / n < n = (div-lt_iff_lt-mul {k = n} {x = square} {y = n} positive).1 below in
      let column : square % n < n = omega arith in
      let mover = each-layout checkers (square / n) low high row in
      let other = each-layout checkers (square % n) low high column in
      let whole : square / n * n + square % n ≡ square = div-add-mod' square n in
      record {
        position = record { mover = mover.counts; other = other.counts };
        valid = record { mover = mover.valid; other = other.valid; same = mover.many ∙ sym other.many };
        many = mover.many;
        ranked = rw (mover.ranked, other.ranked, mover.many) whole;
      })
  | inr none ↦ (let zero_layouts : layouts checkers ≡ 0 = omega arith in let no : layouts checkers * layouts checkers ≡ 0 = ap (λ n. n * n) zero_layouts in absurd (omega (arith, no)))
]

-- a live position with a live rank
record Live (checkers rank : ℕ) : Type 0 where
  position : Placement
  valid : IsPosition position
  live : IsLive position
  many : sum position.mover ≡ checkers
  ranked : live_rank_of position ≡ rank

each-live : (checkers rank : ℕ) → 1 ≤ checkers → checkers ≤ 3 → (size : ℕ) → size ≤ layouts checkers * layouts checkers → rank < live_below checkers size → Live checkers rank
each-live checkers rank low high zero within below = absurd (omega (arith, live_below-none checkers))
each-live checkers rank low high (suc size) within below =
    let here = each-square checkers size low high (omega arith) in
    by_test here (each-live checkers rank low high size (omega arith)) (is_live here.position) refl where
      by_test : (here : Squared checkers size) → (rank < live_below checkers size → Live checkers rank) → (b : Bool) → is_live here.position ≡ b → Live checkers rank
      by_test here earlier true right =
          let live = live-from here.position right in
          let more : live_below checkers (suc size) ≡ live_below checkers size + 1 = ap (live_below checkers) (sym (add-one size)) ∙ live-counts checkers size here.position here.valid here.many here.ranked live in
          elim (cases_lt rank (live_below checkers size)) [
            | inl before ↦ earlier before
            | inr last ↦ (
                let own : live_rank_of here.position ≡ live_below checkers size = ap (λ n. live_below n (square_rank_of here.position)) here.many ∙ ap (live_below checkers) here.ranked in
                let same : live_below checkers size ≡ rank = omega arith in
                record { position = here.position; valid = here.valid; live = live; many = here.many; ranked = own ∙ same })
          ]
      by_test here earlier false never =
          let less : live_below checkers (suc size) ≡ live_below checkers size = ap (live_below checkers) (sym (add-one size)) ∙ dead-counts checkers size here.position here.valid here.many here.ranked (λ live. false≢true (sym never ∙ from-live here.position live)) in
          earlier (omega (arith, less))

-- a state with a number
pub record Numbered (checkers kinds state : ℕ) : Type 0 where
  pub position : Placement
  pub kind : ℕ
  pub is : IsStateOf checkers kinds position kind
  pub number : state ≡ state_of kinds position kind

pub each-number : (checkers kinds state : ℕ) → 1 ≤ checkers → checkers ≤ 3 → 0 < kinds → state < states_in checkers kinds → Numbered checkers kinds state
unfolding states_in state_of
each-number checkers kinds state low high some below =
    let rank_below : state / kinds < live_positions checkers = (div-lt_iff_lt-mul {k = kinds} {x = state} {y = live_positions checkers} some).1 below in
    let live = each-live checkers (state / kinds) low high (layouts checkers * layouts checkers) (omega arith) rank_below in
    let whole : state / kinds * kinds + state % kinds ≡ state = div-add-mod' state kinds in
    record {
      position = live.position;
      kind = state % kinds;
      is = record { position = live.valid; many = live.many; live = live.live; kind = omega arith };
      number = sym (rw live.ranked whole);
    }
