use Rattle.std.proofs.Common.{◌≡◌, ◌<◌, ◌+◌, ◌∙◌, false, ℕ, Option, Some, None, length, set, refl, sym, arith}
use Rattle.std.proofs.lemmas.Bool.{false≢true}
use Rattle.std.specs.Option.{is_some}
use Rattle.turn_rule.specs.Found.{LeavesState}
use Rattle.directed_fixed.specs.declared.bounds.End.TheVariants.{Lower, Upper}
use Rattle.cube_actions.specs.Stakes.{Terms, IsValid, kind_at, no_kind}
use Rattle.turn_rule.specs.Looks.{Source, AreStakesOf}
use Rattle.column_turns.specs.Rows.{ArePut}
use Rattle.column_sums.proofs.AtEnds.{both}
use Rattle.turn_rule.proofs.RollSums.{wins-within}
use Rattle.column_turns.proofs.Laters.{later-refl, later-trans}
use Rattle.column_turns.proofs.RowsFound.{put-none, put-later, put-next, put-rest}
use Rattle.column_turns.proofs.rows.fill_cell.Goals as goal

next-within : (s : Source) (stakes : Terms) → IsValid stakes → AreStakesOf s stakes → (k : ℕ) → k < length stakes.kinds → (kind_at stakes k).next < s.kinds
next-within s stakes valid fits k here = rw fits.kinds (valid.kinds k no_kind here).next

pub loop-number-init : goal.loop-number-init
loop-number-init g c = record {
  rows = c.requires.rows;
  put = λ end k below. absurd (omega (arith, below));
  rest = λ k from. refl;
  later = later-refl _;
  stays = refl;
}

pub play_worth-lower-requires-clause-sure : goal.play_worth-lower-requires-clause-sure
play_worth-lower-requires-clause-sure g c = rw c.loop-number.invariant.later.source c.requires.sure

pub play_worth-lower-requires-clause-many : goal.play_worth-lower-requires-clause-many
play_worth-lower-requires-clause-many g c = rw c.loop-number.invariant.later.source c.requires.many

pub play_worth-lower-requires-clause-won : goal.play_worth-lower-requires-clause-won
play_worth-lower-requires-clause-won g c = c.won_after-won.ensures

pub play_worth-lower-requires-clause-live : goal.play_worth-lower-requires-clause-live
play_worth-lower-requires-clause-live g c = c.requires.live

pub play_worth-lower-requires-clause-next : goal.play_worth-lower-requires-clause-next
play_worth-lower-requires-clause-next g c =
    let here : c.loop-number.number < length c.args.stakes.now.kinds = omega (arith, c.loop-number-test.true, c.kinds-number-end.ensures.kinds) in
    rw (c.loop-number.invariant.later.source, c.kind-kind.ensures.kind) (next-within _ _ c.kind-kind.ensures.valid c.requires.stakes c.loop-number.number here)

pub play_worth-lower-requires-clause-wins : goal.play_worth-lower-requires-clause-wins
play_worth-lower-requires-clause-wins g c =
    let here : c.loop-number.number < length c.args.stakes.now.kinds = omega (arith, c.loop-number-test.true, c.kinds-number-end.ensures.kinds) in
    rw (c.loop-number.invariant.later.source, c.kind-kind.ensures.kind) (wins-within _ _ c.kind-kind.ensures.valid c.requires.stakes c.loop-number.number here)

pub play_worth-lower-requires-clause-square : goal.play_worth-lower-requires-clause-square
play_worth-lower-requires-clause-square g c = c.requires.square

pub play_worth-upper-requires-clause-sure : goal.play_worth-upper-requires-clause-sure
play_worth-upper-requires-clause-sure g c = rw (c.play_worth-lower.ensures.later.source, c.loop-number.invariant.later.source) c.requires.sure

pub play_worth-upper-requires-clause-many : goal.play_worth-upper-requires-clause-many
play_worth-upper-requires-clause-many g c = rw (c.play_worth-lower.ensures.later.source, c.loop-number.invariant.later.source) c.requires.many

pub play_worth-upper-requires-clause-won : goal.play_worth-upper-requires-clause-won
play_worth-upper-requires-clause-won g c = c.won_after-won.ensures

pub play_worth-upper-requires-clause-live : goal.play_worth-upper-requires-clause-live
play_worth-upper-requires-clause-live g c = c.requires.live

pub play_worth-upper-requires-clause-next : goal.play_worth-upper-requires-clause-next
play_worth-upper-requires-clause-next g c =
    let here : c.loop-number.number < length c.args.stakes.now.kinds = omega (arith, c.loop-number-test.true, c.kinds-number-end.ensures.kinds) in
    rw (c.play_worth-lower.ensures.later.source, c.loop-number.invariant.later.source, c.kind-kind.ensures.kind) (next-within _ _ c.kind-kind.ensures.valid c.requires.stakes c.loop-number.number here)

pub play_worth-upper-requires-clause-wins : goal.play_worth-upper-requires-clause-wins
play_worth-upper-requires-clause-wins g c =
    let here : c.loop-number.number < length c.args.stakes.now.kinds = omega (arith, c.loop-number-test.true, c.kinds-number-end.ensures.kinds) in
    rw (c.play_worth-lower.ensures.later.source, c.loop-number.invariant.later.source, c.kind-kind.ensures.kind) (wins-within _ _ c.kind-kind.ensures.valid c.requires.stakes c.loop-number.number here)

pub play_worth-upper-requires-clause-square : goal.play_worth-upper-requires-clause-square
play_worth-upper-requires-clause-square g c = c.requires.square

pub loop-number-preserved : goal.loop-number-preserved
loop-number-preserved g c =
    let old = g.P.Pairs.seen c.args.pairs.now in
    let mid = g.P.Pairs.seen c.loop-number.pairs in
    let between = g.P.Pairs.seen c.play_worth-lower.new.pairs in
    let new = g.P.Pairs.seen c.play_worth-upper.new.pairs in
    let before = c.loop-number.invariant in
    let stakes = c.args.stakes.now in
    let left = c.args.left.now in
    let number = c.loop-number.number in
    let low = c.play_worth-lower in
    let high = c.play_worth-upper in
    let one = low.ensures.later in
    let two = high.ensures.later in
    let to_between = later-trans old mid between before.later one in
    let found_low = rw (before.later.source, c.kind-kind.ensures.kind) at low.ensures.found in
    let found_high = rw (to_between.source, c.kind-kind.ensures.kind) at high.ensures.found in
    let rows = c.loop-number.rows in
    let first = c.args.rows.now in
    let put = c.put_worth.ensures.put in
    let here : number < length rows = omega (arith, c.loop-number-test.true, before.rows.many, c.kinds-number-end.ensures.kinds) in
    let put_lower = put-later Lower old stakes left c.args.layer c.args.rank first (set rows number put.row) between new (number + 1) to_between two
    (put-next Lower old stakes left c.args.layer c.args.rank first rows between.notes number put.row low.result here
    (put-later Lower old stakes left c.args.layer c.args.rank first rows mid between number before.later one (before.put Lower)) before.rest (put.cells Lower) found_low) in
    let put_upper = put-next Upper old stakes left c.args.layer c.args.rank first rows new.notes number put.row high.result here
    (put-later Upper old stakes left c.args.layer c.args.rank first rows mid new number before.later (later-trans mid between new one two) (before.put Upper)) before.rest (put.cells Upper) found_high in
    record {
      rows = c.put_worth.ensures.rows (length stakes.kinds) before.rows;
      put = rw put.put (both (λ end. ArePut end old.source new.notes stakes left c.args.layer c.args.rank first (set rows number put.row) (number + 1)) put_lower put_upper);
      rest = rw put.put (put-rest Lower old stakes left c.args.layer c.args.rank first rows number put.row before.rest);
      later = later-trans old between new to_between two;
      stays = high.ensures.stays ∙ (low.ensures.stays ∙ before.stays);
    }

pub returns-clause-put : goal.returns-clause-put
returns-clause-put g c = λ end k below. c.loop-number.invariant.put end k (omega (arith, below, c.loop-number-test.false, c.kinds-number-end.ensures.kinds))

none-of : {X : Type 0} (o : Option X) → is_some o ≡ false → o ≡ None
none-of None h = refl
none-of (Some x) h = absurd (false≢true (sym h))

nobody : (g : _) (c : goal.Then-is_none g) (k : ℕ) → LeavesState (g.P.Pairs.seen c.args.pairs.now).source (kind_at c.args.stakes.now k).next c.args.left.now → ⊥
nobody g c k leaves = false≢true (sym c.if-not-live.true ∙ c.requires.live.1 (leaves (sym c.won_after-won.ensures ∙ none-of c.won_after-won.result c.if-is_none.ensures)).live)

pub returns-then-is_none-clause-put : goal.returns-then-is_none-clause-put
returns-then-is_none-clause-put g c = λ end.
    put-none end (g.P.Pairs.seen c.args.pairs.now) c.args.stakes.now (g.P.Pairs.seen c.args.pairs.now).notes c.args.left.now c.args.layer c.args.rank c.args.rows.now c.requires.rows c.requires.layer c.requires.rank (nobody g c)
