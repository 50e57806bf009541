use Rattle.std.proofs.Common.{◌≡◌, ◌≢◌, ◌<◌, ◌+◌, ◌∙◌, ℕ, ℤ, pos, List, length, get_or, inl, inr, sym, subst, arith}
use Rattle.std.proofs.lemmas.Bool.{cases_lt}
use Rattle.directed_fixed.specs.declared.bounds.End.{End}
use Rattle.directed_fixed.specs.declared.bounds.End.TheVariants.{Lower, Upper}
use Rattle.cube_actions.specs.Stakes.{Terms}
use Rattle.turn_rule.specs.Found.{IsFoundOf, of_sum}
use Rattle.column_sums.specs.ColumnOf.{ColumnOf}
use Rattle.column_sums.specs.Leaps.{layout_at}
use Rattle.column_sums.specs.declared.best.Bests.{Bests}
use Rattle.column_turns.specs.SumsOfKinds.{AreKindsFound, AreOthersSame, IsKindFound}
use Rattle.column_turns.specs.Turns.{mover_at, place_in}
use Rattle.column_turns.proofs.sums.sum_kinds.Goals as goal

-- one kind more is found
kinds-more : (end : End) (stakes : Terms) (number : ℕ) (column : ColumnOf) (rows : List (List Bests)) (old new : List ℤ) → number < length stakes.kinds → AreKindsFound end stakes number column rows old → IsKindFound end stakes number column rows new
    → AreOthersSame (length stakes.kinds) number old new → AreKindsFound end stakes (number + 1) column rows new
kinds-more end stakes number column rows old new this before found same = λ s noted fits is all i k below here.
    let place = mover_at column.layouts (layout_at column.others 0) column.movers in
    elim (cases_lt k number) [
      | inl earlier ↦ (
          let within : k < length stakes.kinds = omega (arith, earlier, this) in
          let apart : k ≢ number = omega (arith, earlier) in
          subst (IsFoundOf end (of_sum stakes (place i) k) s noted) (sym (same i k within apart)) (before s noted fits is all i k below earlier))
      | inr from ↦ (
          let last : number ≡ k = omega (arith, here, from) in
          subst (λ (n : ℕ). IsFoundOf end (of_sum stakes (place i) n) s noted (get_or new (place_in (length stakes.kinds) i n) (pos 0))) last (found s noted fits is (all number this) i below))
    ]

pub loop-number-preserved : goal.loop-number-preserved
loop-number-preserved c =
    let before = c.loop-number.invariant in
    let summed = c.sum_kind.ensures in
    let number = c.loop-number.number in
    let stakes = c.args.stakes.now in
    let column = c.args.column.now in
    let rows = c.args.rows.now in
    let this : number < length stakes.kinds = omega (arith, c.loop-number-test.true, c.kinds-number-end.ensures.kinds) in
    record {
      column = summed.column ∙ before.column;
      one = summed.one ∙ before.one;
      lower = summed.lower ∙ before.lower;
      upper = summed.upper ∙ before.upper;
      small_lower = summed.small_lower;
      small_upper = summed.small_upper;
      found_lower = kinds-more Lower stakes number column rows c.loop-number.lower c.sum_kind.new.lower this before.found_lower (rw before.column at summed.found_lower) summed.same_lower;
      found_upper = kinds-more Upper stakes number column rows c.loop-number.upper c.sum_kind.new.upper this before.found_upper (rw before.column at summed.found_upper) summed.same_upper;
    }

pub returns-clause-found_lower : goal.returns-clause-found_lower
returns-clause-found_lower c = λ s noted fits is rows i k below here.
    c.loop-number.invariant.found_lower s noted fits is rows i k below (omega (arith, here, c.loop-number-test.false, c.kinds-number-end.ensures.kinds))

pub returns-clause-found_upper : goal.returns-clause-found_upper
returns-clause-found_upper c = λ s noted fits is rows i k below here.
    c.loop-number.invariant.found_upper s noted fits is rows i k below (omega (arith, here, c.loop-number-test.false, c.kinds-number-end.ensures.kinds))
