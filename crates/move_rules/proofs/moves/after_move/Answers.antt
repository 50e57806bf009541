use Rattle.std.proofs.Common.{◌≡◌, ◌<◌, ◌⊎◌, inl, inr, slice_index, sym, arith}
use Rattle.position_rank.specs.Placement.{above}
use Rattle.move_rules.proofs.EndsExact.{after_move-complete}
use Rattle.move_rules.proofs.MoveCases.{none-held, none-bar, none-closed, none-far, none-higher, is-some, is-none, is-apart}
use Rattle.move_rules.proofs.moves.after_move.Goals as goal
use Rattle.move_rules.proofs.moves.after_move.Goals.{then-mover_at-eq0-via-then-mover_at-eq0, then-mover_at-eq0-via-else-mover_at-eq0+then-mover_at-gt0, then-from-ne25, else-from-ne25}
use Rattle.move_rules.proofs.moves.after_move.Goals.{then-mover_above-gt0-via-then-mover_above-gt0, then-mover_above-gt0-via-else-mover_above-gt0+then-mover_above-gt0-2, then-from-die, else-from-die}

pub returns-then-mover_at-eq0 : goal.returns-then-mover_at-eq0
returns-then-mover_at-eq0 c =
    elim c.then-mover_at-eq0.branch [
      | then-mover_at-eq0-via-then-mover_at-eq0 w ↦ sym (none-held _ _ _ (rw c.mover_at.ensures at w.if-mover_at-eq0.true))
      | then-mover_at-eq0-via-else-mover_at-eq0+then-mover_at-gt0 w ↦ elim w.if-from-ne25.branch [
        | then-from-ne25 v ↦ sym (none-bar _ _ _ v.if-from-ne25.true (rw v.mover_at-then-from-ne25.ensures at (is-some _ _ v.value-is w.if-mover_at-gt0.true)))
        | else-from-ne25 v ↦ absurd (is-apart _ _ _ v.value-is w.if-mover_at-gt0.true v.if-from-ne25.false)
      ]
    ]

pub returns-then-other_at-gt1 : goal.returns-then-other_at-gt1
returns-then-other_at-gt1 c = sym (none-closed _ _ _ c.if-die-from.true (rw c.other_at.ensures at c.if-other_at-gt1.true))

pub returns-then-die-from : goal.returns-then-die-from
returns-then-die-from c =
    let p = c.args.position.now in
    let bar : (c.args.from ≡ 25) ⊎ (slice_index p.mover 25 ≡ 0) = elim c.if-from-ne25.branch [
      | then-from-ne25 v ↦ inr (rw v.mover_at-then-from-ne25.ensures at (is-none _ _ v.value-is c.if-mover_at-gt0.false))
      | else-from-ne25 v ↦ inl v.if-from-ne25.false
    ] in
    let held : 0 < slice_index p.mover c.args.from = omega (arith, c.if-mover_at-eq0.false, c.mover_at.ensures) in
    sym (after_move-complete p c.args.die c.args.from c.run.result (inl (record {
      leaves = record { place = c.requires.from; within = c.requires.place; checker = held; bar_first = bar };
      on_board = c.if-die-from.true;
      open_point = rw c.other_at.ensures at c.if-other_at-gt1.false;
      after = c.run.ensures;
    })))

pub returns-then-mover_above-gt0 : goal.returns-then-mover_above-gt0
returns-then-mover_above-gt0 c =
    elim c.then-mover_above-gt0.branch [
      | then-mover_above-gt0-via-then-mover_above-gt0 w ↦ sym (none-far _ _ _ c.if-die-from.false (rw c.mover_above.ensures at w.if-mover_above-gt0.true))
      | then-mover_above-gt0-via-else-mover_above-gt0+then-mover_above-gt0-2 w ↦ elim w.if-from-die.branch [
        | then-from-die v ↦ sym (none-higher _ _ _ c.if-die-from.false v.if-from-die.true (rw v.mover_above-then-from-die.ensures at (is-some _ _ v.value-is w.if-mover_above-gt0-2.true)))
        | else-from-die v ↦ absurd (is-apart _ _ _ v.value-is w.if-mover_above-gt0-2.true v.if-from-die.false)
      ]
    ]

pub returns : goal.returns
returns c =
    let p = c.args.position.now in
    let bar : (c.args.from ≡ 25) ⊎ (slice_index p.mover 25 ≡ 0) = elim c.if-from-ne25.branch [
      | then-from-ne25 v ↦ inr (rw v.mover_at-then-from-ne25.ensures at (is-none _ _ v.value-is c.if-mover_at-gt0.false))
      | else-from-ne25 v ↦ inl v.if-from-ne25.false
    ] in
    let highest : (c.args.from ≡ c.args.die) ⊎ (above p.mover c.args.from ≡ 0) = elim c.if-from-die.branch [
      | then-from-die v ↦ inr (rw v.mover_above-then-from-die.ensures at (is-none _ _ v.value-is c.if-mover_above-gt0-2.false))
      | else-from-die v ↦ inl v.if-from-die.false
    ] in
    let held : 0 < slice_index p.mover c.args.from = omega (arith, c.if-mover_at-eq0.false, c.mover_at.ensures) in
    let home : above p.mover 6 ≡ 0 = omega (arith, c.mover_above.ensures, c.if-mover_above-gt0.false) in
    sym (after_move-complete p c.args.die c.args.from c.bear_off.result (inr (record {
      leaves = record { place = c.requires.from; within = c.requires.place; checker = held; bar_first = bar };
      reaches = c.if-die-from.false;
      home = home;
      highest = highest;
      after = c.bear_off.ensures;
    })))
