-- Moves after the sides have passed each other: nothing stands in their way, and nothing is hit.
use Rattle.std.proofs.Common.{◌≡◌, ◌≤◌, ◌<◌, ◌-◌, ℕ, Bool, false, cond, eqb, List, length, get_or, inl, inr, refl, ap, sym, subst, ◌∙◌, arith}
use Rattle.std.proofs.lemmas.Bool.{cases_lt}
use Rattle.std.proofs.lemmas.Bool.Decides.{nat_tests}
use Rattle.position_rank.specs.Placement.{Placement, moved, hit}
use Rattle.move_rules.specs.Moves.{MayLeave, IsMove, Runs, BearsOff}
use Rattle.move_rules.specs.Sequences.{CanPlay}
use Rattle.race_table.specs.FreePlays.{against}
use Rattle.race_table.specs.Races.{IsHeld, HavePassed, IsRace, pips_of}
use Rattle.race_table.proofs.Counts.{highest-held, none-above}
use Rattle.race_table.proofs.Pips.{pips-moved, held-moved}

-- a point to which a checker runs is empty
empty : (p : Placement) (from die : ℕ) → from ≤ 25 → die < from → HavePassed p → IsHeld p.mover from → get_or p.other (25 - (from - die)) 0 ≡ 0
empty p from die within on passed held = elim (cases_lt 0 (get_or p.other (25 - (from - die)) 0)) [
  | inl there ↦ absurd (omega (arith, passed from (25 - (from - die)) held there, within, on))
  | inr none ↦ omega arith
]

no_hit : (other : List ℕ) (point : ℕ) → get_or other point 0 ≡ 0 → hit other point ≡ other
no_hit other point none =
    let test : eqb (get_or other point 0) 1 ≡ false = grind (arith, nat_tests) in
    subst (λ (b : Bool). cond b (moved other point 25) other ≡ other) (sym test) refl

passed-moved : (p : Placement) (from to : ℕ) → to ≤ from → HavePassed p → IsHeld p.mover from → HavePassed (against p.other (moved p.mover from to))
passed-moved p from to down passed held a b here there = elim (held-moved p.mover from to a held here) [
  | inl same ↦ omega (arith, passed from b held there, same)
  | inr before ↦ passed a b before there
]

-- what a move does: the other side stays, the sides have still passed each other, the mover comes nearer, and against any other side that
-- he has passed he can move so too
pub record Ran (p : Placement) (die from : ℕ) (q : Placement) : Type 0 where
  pub other : q.other ≡ p.other
  pub passed : HavePassed q
  pub nearer : pips_of q.mover < pips_of p.mover
  pub as_well : (others : List ℕ) → HavePassed (against others p.mover) → IsMove (against others p.mover) die from (against others q.mover)

run-ran : (p : Placement) (die from : ℕ) (q : Placement) → length p.mover ≡ 26 → 1 ≤ die → HavePassed p → Runs p die from q → Ran p die from q
run-ran p die from q places low passed runs =
    let within : from < length p.mover = omega (arith, places, runs.leaves.within) in
    let on : from - die < length p.mover = omega (arith, within) in
    let same : hit p.other (25 - (from - die)) ≡ p.other = no_hit p.other _ (empty p from die runs.leaves.within runs.on_board passed runs.leaves.checker) in
    let is : q ≡ against p.other (moved p.mover from (from - die)) = runs.after ∙ ap (λ (o : List ℕ). against o (moved p.mover from (from - die))) same in
    subst (Ran p die from) (sym is) (record {
      other = refl;
      passed = passed-moved p from (from - die) (omega arith) passed runs.leaves.checker;
      nearer = omega (arith, pips-moved p.mover from (from - die) within on runs.leaves.checker, runs.on_board);
      as_well = λ others passes.
          let none = empty (against others p.mover) from die runs.leaves.within runs.on_board passes runs.leaves.checker in
          inl (record {
            leaves = record { place = runs.leaves.place; within = runs.leaves.within; checker = runs.leaves.checker; bar_first = runs.leaves.bar_first };
            on_board = runs.on_board;
            open_point = omega (arith, none);
            after = ap (λ (o : List ℕ). against o (moved p.mover from (from - die))) (sym (no_hit others _ none));
          });
    })

off-ran : (p : Placement) (die from : ℕ) (q : Placement) → length p.mover ≡ 26 → HavePassed p → BearsOff p die from q → Ran p die from q
off-ran p die from q places passed off =
    let within : from < length p.mover = omega (arith, places, off.leaves.within) in
    subst (Ran p die from) (sym off.after) (record {
      other = refl;
      passed = passed-moved p from 0 (omega arith) passed off.leaves.checker;
      nearer = omega (arith, pips-moved p.mover from 0 within (omega (arith, places)) off.leaves.checker, off.leaves.place);
      as_well = λ others passes. inr (record {
        leaves = record { place = off.leaves.place; within = off.leaves.within; checker = off.leaves.checker; bar_first = off.leaves.bar_first };
        reaches = off.reaches;
        home = off.home;
        highest = off.highest;
        after = refl;
      });
    })

pub move-ran : (p : Placement) (die from : ℕ) (q : Placement) → length p.mover ≡ 26 → 1 ≤ die → HavePassed p → IsMove p die from q → Ran p die from q
move-ran p die from q places low passed (inl runs) = run-ran p die from q places low passed runs
move-ran p die from q places low passed (inr off) = off-ran p die from q places passed off

-- each die can be played: the highest checker runs, or goes off
pub can-move : (p : Placement) (die : ℕ) → IsRace p → 1 ≤ die → die ≤ 6 → CanPlay p die
can-move p die race low high =
    let top = highest-held p.mover race.live.mover in
    let from = top.0 in
    let theirs = highest-held p.other race.live.other in
    let small : from < 24 = omega (arith, race.passed from theirs.0 top.2.held theirs.2.held, theirs.1) in
    let leaves : MayLeave p from = record { place = top.1; within = omega (arith, small); checker = top.2.held; bar_first = inr (top.2.none_higher 25 (omega (arith, small))) } in
    elim (cases_lt die from) [
      | inl on ↦ (
        from,
        against (hit p.other (25 - (from - die))) (moved p.mover from (from - die)),
        inl (record {
          leaves = leaves;
          on_board = on;
          open_point = omega (arith, empty p from die (omega (arith, small)) on race.passed top.2.held);
          after = refl;
        }),
      )
      | inr reaches ↦ (
        from,
        against p.other (moved p.mover from 0),
        inr (record {
          leaves = leaves;
          reaches = reaches;
          home = none-above p.mover 6 (λ k higher. top.2.none_higher k (omega (arith, reaches, high, higher)));
          highest = inr (none-above p.mover from top.2.none_higher);
          after = refl;
        }),
      )
    ]
