use Rattle.std.proofs.Common.{◌≡◌, ◌<◌, ◌≤◌, ◌∙◌, [], ℕ, ℤ, pos, List, get_or, length, sym, subst}
use Rattle.std.proofs.lemmas.List.{get_or_default}
use Rattle.position_rank.specs.Placement.{Placement}
use Rattle.roll_table.specs.Rolls.{all_rolls}
use Rattle.directed_fixed.specs.declared.bounds.End.{End}
use Rattle.directed_fixed.specs.declared.bounds.End.TheVariants.{Lower, Upper}
use Rattle.cube_actions.specs.Stakes.{Terms, IsValid}
use Rattle.turn_rule.specs.Found.{IsFoundOf, of_sum}
use Rattle.column_sums.specs.AfterHits.{AreDistinct, AreClosedByHits}
use Rattle.column_sums.specs.ColumnOf.{ColumnOf, AreColumnSums}
use Rattle.column_sums.specs.Leaps.{layout_at}
use Rattle.column_sums.specs.Tables.{IsNeededRow}
use Rattle.column_sums.specs.Worths.{worths_at}
use Rattle.column_sums.specs.declared.best.Bests.{Bests}
use Rattle.column_sums.specs.declared.best.Worths.{Worths}
use Rattle.column_turns.specs.Rows.{AreRows, row_at}
use Rattle.column_turns.specs.SumsOfKinds.{IsKindFound}
use Rattle.column_turns.specs.Turns.{mover_at, place_in}
use Rattle.column_turns.proofs.SumsFound.{sums-found}
use Rattle.column_turns.proofs.sums.sum_kind.Goals as goal

-- the sums of a row, put among those of all kinds, are found
kind-found : (end : End) (stakes : Terms) (number : ℕ) (column : ColumnOf) (rows : List (List Bests)) (one : List Worths) (all : List ℤ) → IsValid stakes → length column.others ≤ 8 → AreDistinct column.others → AreClosedByHits column.others
    → AreRows (length stakes.kinds) rows → number < length stakes.kinds
    → ((value : Placement → ℤ) → IsNeededRow value column.layouts column.others column.needed (row_at end rows number) → AreColumnSums value column all_rolls (worths_at end one))
    → ((i : ℕ) → i < length column.movers → get_or all (place_in (length stakes.kinds) i number) (pos 0) ≡ get_or (worths_at end one) i (pos 0))
    → IsKindFound end stakes number column rows all
kind-found end stakes number column rows one all valid few distinct closed are here sums put = λ s noted fits is found i below.
    let place = mover_at column.layouts (layout_at column.others 0) column.movers in
    let inside : number < length rows = rw are.many here in
    subst (IsFoundOf end (of_sum stakes (place i) number) s noted) (sym (put i below))
    (sums-found end s stakes noted number column (row_at end rows number) (worths_at end one) valid fits is few distinct closed ((are.each number [] inside).each end) here found sums i below)

pub put_sums-requires-clause-small_one : goal.put_sums-requires-clause-small_one
put_sums-requires-clause-small_one c = λ i below. c.sum.ensures.small Lower i (rw c.movers-movers.ensures.movers at below)

pub put_sums-requires-2-clause-small_one : goal.put_sums-requires-2-clause-small_one
put_sums-requires-2-clause-small_one c = λ i below. c.sum.ensures.small Upper i (rw c.movers-movers.ensures.movers at below)

pub returns-clause-found_lower : goal.returns-clause-found_lower
returns-clause-found_lower c =
    let here : c.args.number < length c.args.rows.now = rw c.requires.rows.many c.requires.number in
    kind-found Lower c.args.stakes.now c.args.number c.args.column.now c.args.rows.now c.sum.new.sums c.put_sums.new.all c.bound-bound.ensures.valid (rw c.layers-layers.ensures.count at c.layers-layers.ensures.few) c.layers-layers.ensures.distinct c.layers-layers.ensures.closed
    c.requires.rows c.requires.number ((rw (c.index-rows-number.is ∙ get_or_default c.args.rows.now c.args.number c.index-rows-number.result [] here) at c.sum.ensures.sums) Lower)
    (rw (c.movers-movers.ensures.movers, c.kinds-kinds.ensures.kinds) at c.put_sums.ensures.put)

pub returns-clause-found_upper : goal.returns-clause-found_upper
returns-clause-found_upper c =
    let here : c.args.number < length c.args.rows.now = rw c.requires.rows.many c.requires.number in
    kind-found Upper c.args.stakes.now c.args.number c.args.column.now c.args.rows.now c.sum.new.sums c.put_sums-2.new.all c.bound-bound.ensures.valid (rw c.layers-layers.ensures.count at c.layers-layers.ensures.few) c.layers-layers.ensures.distinct c.layers-layers.ensures.closed
    c.requires.rows c.requires.number ((rw (c.index-rows-number.is ∙ get_or_default c.args.rows.now c.args.number c.index-rows-number.result [] here) at c.sum.ensures.sums) Upper)
    (rw (c.movers-movers.ensures.movers, c.kinds-kinds.ensures.kinds) at c.put_sums-2.ensures.put)
