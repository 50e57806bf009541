-- A table in which each race is found after those that may follow it.
use Rattle.std.proofs.Common.{◌≡◌, ◌≤◌, ◌<◌, ◌+◌, ◌-◌, ℕ, zero, suc, List, [], ◌∷◌, length, set, get_or, sum, Option, Some, None, inl, inr, refl, ap, sym, subst, ◌∙◌, length-set, get_or-set_same, get_or-set_other, arith}
use Rattle.std.proofs.lemmas.Bool.{cases_lt, cases_eq}
use Rattle.std.proofs.lemmas.List.{get_or_default, length-map}
use Rattle.std.proofs.lemmas.List.Elements.{All-set}
use Rattle.position_rank.specs.Placement.{Placement, swap}
use Rattle.position_rank.specs.Ranks.{rank_of, square_rank_of}
use Rattle.position_rank.proofs.RankLaws.{layouts-same, positions-same, rank-below}
use Rattle.roll_table.specs.Rolls.{Dice, IsRoll, all_rolls}
use Rattle.move_rules.specs.Ends.{legal_ends}
use Rattle.move_rules.specs.Listing.{Among}
use Rattle.move_rules.specs.Sequences.{IsLegalEnd}
use Rattle.move_rules.proofs.StayLive.{legal_end-stays}
use Rattle.move_rules.specs.declared.payoff.Won.{Won}
use Rattle.move_rules.specs.Payoff.{points}
use Rattle.directed_fixed.specs.declared.bounds.End.{End}
use Rattle.directed_fixed.specs.declared.bounds.End.TheVariants.{Lower, Upper}
use Rattle.directed_fixed.specs.Bounds.{at, other}
use Rattle.cube_actions.specs.Money.{cubeless}
use Rattle.turn_rule.specs.Games.{game_of}
use Rattle.turn_rule.specs.Looks.{MayFollowTurn}
use Rattle.turn_rule.specs.Turn.{rounds, turn}
use Rattle.turn_rule.proofs.Agreement.{turn-agree-at}
use Rattle.turn_rule.proofs.Cubeless.{cubeless-valid}
use Rattle.turn_rule.proofs.Greatest.{all_rolls-right}
use Rattle.turn_rule.proofs.Squares.{square-below}
use Rattle.turn_rule.proofs.Within.{follow-turn-state, rounds-within}
use Rattle.race_table.specs.declared.free_plays.FreeSide.{FreeSide}
use Rattle.race_table.specs.declared.order.CountedRace.{CountedRace}
use Rattle.race_table.specs.declared.race.Race.{Race}
use Rattle.race_table.specs.FreePlays.{AreFreeRolls, AreFreeSides}
use Rattle.race_table.specs.Orders.{AreRacesByPips, IsCounted, positions_of}
use Rattle.race_table.specs.Races.{IsRace, IsRaceOf, pips}
use Rattle.race_table.specs.RacePairs.{race_pair}
use Rattle.race_table.specs.Tables.{HoldsRaces, IsSmallRace, IsRaceTable, found, race_at, turn_of, turns_in, unknown_race, race_bounds}
use Rattle.race_table.specs.TurnsLeft.{if_goes_on, left_after, most_over, turns_left}
use Rattle.race_table.proofs.Bests.{race-is}
use Rattle.race_table.proofs.Left.{left-few, left-is, left-some, legal-of, over-agree}
use Rattle.race_table.proofs.Lines.{legal-nearer, legal-race}
use Rattle.race_table.proofs.RacePairs.{follows, rounds-same, state}

-- ---- a race by its turn

-- what a legal play leaves is a nearer race of as many checkers
left-race : (checkers : ℕ) (p : Placement) → IsRaceOf checkers p → (roll : Dice) (end : Placement) → IsRoll roll → IsLegalEnd p roll end → points end ≡ None → IsRaceOf checkers (swap end)
left-race checkers p race roll end right legal on =
    let stays = legal_end-stays p roll end right race.race.position race.race.live legal in
    record { race = legal-race roll right p race.race end legal on; many = sym stays.0.same ∙ (stays.1 ∙ race.many) }

module _ (checkers : ℕ) (races : List Race) (p : Placement) (race : IsRaceOf checkers p) (known : (q : Placement) → IsRaceOf checkers q → pips q < pips p → race_at races q ≡ found q) where
  left-known : (roll : Dice) (end : Placement) → IsRoll roll → IsLegalEnd p roll end → points end ≡ None → race_at races (swap end) ≡ found (swap end)
  left-known roll end right legal on = known (swap end) (left-race checkers p race roll end right legal on) (omega (arith, legal-nearer roll right p race.race end legal))

  same-left : (roll : Dice) (end : Placement) → IsRoll roll → Among end (legal_ends p roll) → left_after (turns_in races) end ≡ left_after turns_left end
  same-left roll end right m = by_points (points end) refl where
    by_points : (o : Option Won) → points end ≡ o → if_goes_on o (turns_in races (swap end)) ≡ if_goes_on o (turns_left (swap end))
    by_points None on = ap (λ (r : Race). r.turns) (left-known roll end right (legal-of p roll end m) on)
    by_points (Some won) over = refl

  found-turns : 1 + most_over all_rolls (left_after (turns_in races)) p ≡ turns_left p
  found-turns = ap (λ (n : ℕ). 1 + n) (over-agree (left_after (turns_in races)) (left_after turns_left) p same-left all_rolls all_rolls-right) ∙ sym (left-is p race.race)

  at_end : (q : Placement) (end : End) → at end (race_pair q) ≡ rounds cubeless (turns_left q) end q 0
  at_end q Lower = refl
  at_end q Upper = refl

  follow-nearer : (q : Placement) (j : ℕ) → MayFollowTurn cubeless p 0 q j → pips q < pips p
  follow-nearer q j (inl may) = subst (λ (x : Placement). pips x < pips p) (sym may.left.sides) (omega (arith, legal-nearer may.roll may.right p race.race may.end may.legal))
  follow-nearer q j (inr may) = absurd (let none = may.right in cc)

  follow-race : (q : Placement) (j : ℕ) → MayFollowTurn cubeless p 0 q j → IsRaceOf checkers q
  follow-race q j may = record {
    race = (follows p race.race q j may).race;
    many = (follow-turn-state (game_of checkers cubeless) cubeless-valid p 0 (record { position = race.race.position; many = race.many; live = race.race.live; kind = omega arith }) q j may).many;
  }

  follow-word : (n : ℕ) → turns_left p ≡ suc n → (q : Placement) (j : ℕ) → MayFollowTurn cubeless p 0 q j → (end : End) → race_bounds races end q j ≡ rounds cubeless n end q j
  follow-word n is q j may end =
      let f = follows p race.race q j may in
      let here = known q (follow-race q j may) (follow-nearer q j may) in
      subst (λ (k : ℕ). race_bounds races end q k ≡ rounds cubeless n end q k) (sym f.kind)
      (ap (λ (r : Race). at end r.pair) here ∙ (at_end q end ∙ rounds-same (turns_left q) n q f.race (omega arith) (omega (arith, f.fewer, is)) end))

  found-word : (end : End) → turn cubeless (race_bounds races) end p 0 ≡ rounds cubeless (turns_left p) end p 0
  unfolding rounds
  found-word end =
      let n = turns_left p - 1 in
      let is : turns_left p ≡ suc n = omega (arith, left-some p race.race) in
      turn-agree-at cubeless (race_bounds races) (rounds cubeless n) end p 0 (λ q j may. follow-word n is q j may (other end)) ∙ ap (λ (r : ℕ). rounds cubeless r end p 0) (sym is)

  pub turn-found : turn_of races p ≡ found p
  turn-found = race-is _ _ _ _ _ _ (found-word Lower) (found-word Upper) found-turns

-- ---- the table

-- the races of the first few of a list have been found
pub record IsFilled (checkers : ℕ) (order : List CountedRace) (n : ℕ) (races : List Race) : Type 0 where
  pub table : IsRaceTable checkers races
  pub each : (i : ℕ) (none : CountedRace) → i < n → i < length order → race_at races (get_or order i none).position ≡ found (get_or order i none).position

found-small : (p : Placement) → IsRace p → turns_left p ≤ 150 → IsSmallRace (found p)
found-small p race few = record { within = rounds-within (game_of (sum p.mover) cubeless) cubeless-valid (turns_left p) p 0 (state p race); few = few }

-- a race that is nearer than the one at some place of the list stands before it
before-it : (checkers : ℕ) (order : List CountedRace) → AreRacesByPips checkers order → (n : ℕ) (one : CountedRace) → n < length order → one ≡ get_or order n one → (q : Placement) → IsRaceOf checkers q → pips q < pips one.position → (i : ℕ) × (i < n) × (i < length order) × ((get_or order i one).position ≡ q)
before-it checkers order right n one inside is q race nearer =
    let there = right.every q race in
    let i = there.0 in
    let here : i < length order = omega (arith, there.1, length-map order (λ (race : CountedRace). race.position)) in
    let at_i : (get_or order i one).position ≡ q = listed-at order i one q here ∙ there.2 in
    let mine = right.right n one inside in
    let theirs = right.right i one here in
    let one_pips : (get_or order n one).pips ≡ pips one.position = mine.pips ∙ ap (λ (r : CountedRace). pips r.position) (sym is) in
    let its_pips : (get_or order i one).pips ≡ pips q = theirs.pips ∙ ap pips at_i in
    elim (cases_lt i n) [
      | inl before ↦ (i, before, here, at_i)
      | inr past ↦ absurd (omega (arith, right.rising n i one past here, one_pips, its_pips, nearer))
    ] where
      listed-at : (xs : List CountedRace) (i : ℕ) (one : CountedRace) (q : Placement) → i < length xs → (get_or xs i one).position ≡ get_or (positions_of xs) i q
      listed-at [] i one q h = absurd (omega arith)
      listed-at (x ∷ xs) zero one q h = refl
      listed-at (x ∷ xs) (suc i) one q h = listed-at xs i one q (omega arith)

module _ (checkers : ℕ) (order : List CountedRace) (right : AreRacesByPips checkers order) (n : ℕ) (one : CountedRace) (inside : n < length order) (is : one ≡ get_or order n one) where
  pub counted-at : IsCounted checkers one
  counted-at = subst (IsCounted checkers) (sym is) (right.right n one inside)

  pub square-inside : (races : List Race) → IsRaceTable checkers races → square_rank_of one.position < length races
  square-inside races table = rw table.full (square-below one.position checkers counted-at.right.race.position counted-at.right.many)

  -- one race more
  pub more-filled : (races : List Race) → IsFilled checkers order n races → IsFilled checkers order (n + 1) (set races (square_rank_of one.position) (turn_of races one.position))
  more-filled races before =
      let p = one.position in
      let square = square_rank_of p in
      let race = turn_of races p in
      let next = set races square race in
      let here = square-inside races before.table in
      let this : race ≡ found p = turn-found checkers races p counted-at.right
      (λ q later nearer.
      let earlier = before-it checkers order right n one inside is q later nearer in
      subst (λ (x : Placement). race_at races x ≡ found x) earlier.3 (before.each earlier.0 one earlier.1 earlier.2)) in
      let few : turns_left p ≤ 150 = omega (arith, left-few p, counted-at.pips, counted-at.few) in
      let small : IsSmallRace race = subst IsSmallRace (sym this) (found-small p counted-at.right.race few) in
      let now : race_at next p ≡ found p = get_or-set_same races square race unknown_race here ∙ this in
      record {
        table = record { full = length-set races square race ∙ before.table.full; small = All-set IsSmallRace races square race small before.table.small };
        each = λ i none below within.
            let q = (get_or order i none).position in
            let theirs = right.right i none within in
            elim (cases_eq (square_rank_of q) square) [
              | inl same ↦ (
                  let same_position : p ≡ q = sym (positions-same q p theirs.right.race.position counted-at.right.race.position (theirs.right.many ∙ sym counted-at.right.many) same) in
                  subst (λ (x : Placement). race_at next x ≡ found x) same_position now)
              | inr apart ↦ elim (cases_lt i n) [
                | inl earlier ↦ get_or-set_other races square (square_rank_of q) race unknown_race apart ∙ before.each i none earlier within
                | inr from ↦ (
                    let last : i ≡ n = omega (arith, below, from) in
                    let at_n : get_or order i none ≡ one = ap (λ (k : ℕ). get_or order k none) last ∙ (get_or_default order n none one inside ∙ sym is) in
                    absurd (apart (ap (λ (r : CountedRace). square_rank_of r.position) at_n)))
              ]
            ];
      }

pub all-filled : (checkers : ℕ) (order : List CountedRace) → AreRacesByPips checkers order → (n : ℕ) (races : List Race) → length order ≤ n → IsFilled checkers order n races → HoldsRaces checkers races
all-filled checkers order right n races past filled = record {
  table = filled.table;
  each = λ p race.
      let there = right.every p race in
      let i = there.0 in
      let none : CountedRace = record { pips = 0; position = p } in
      let here : i < length order = omega (arith, there.1, length-map order (λ (race : CountedRace). race.position)) in
      subst (λ (x : Placement). race_at races x ≡ found x) (listed-is order i none p here ∙ there.2) (filled.each i none (omega (arith, here, past)) here);
} where
  listed-is : (xs : List CountedRace) (i : ℕ) (none : CountedRace) (q : Placement) → i < length xs → (get_or xs i none).position ≡ get_or (positions_of xs) i q
  listed-is [] i none q h = absurd (omega arith)
  listed-is (x ∷ xs) zero none q h = refl
  listed-is (x ∷ xs) (suc i) none q h = listed-is xs i none q (omega arith)

-- the plays of a race's mover
pub rolls-of : (checkers : ℕ) (sides : List FreeSide) (p : Placement) (rank : ℕ) (none : FreeSide) → AreFreeSides checkers sides → IsRaceOf checkers p → rank ≡ rank_of p.mover → AreFreeRolls p.mover (get_or sides rank none).rolls.items
rolls-of checkers sides p rank none free race is =
    let here : rank < length sides = rw (is, free.many, ← race.many) (rank-below p.mover race.race.position.mover) in
    let side = get_or sides rank none in
    let this = free.each rank none here in
    let same : side.layout ≡ p.mover = layouts-same side.layout p.mover this.layout.valid race.race.position.mover (this.layout.many ∙ sym race.many) (this.layout.ranked ∙ is) in
    subst (λ (m : List ℕ). AreFreeRolls m side.rolls.items) same this.rolls
