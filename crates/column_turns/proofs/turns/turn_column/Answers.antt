use Rattle.std.proofs.Common.{length}
use Rattle.directed_fixed.specs.declared.bounds.End.TheVariants.{Lower, Upper}
use Rattle.column_sums.specs.Leaps.{layout_at}
use Rattle.column_turns.specs.Turns.{mover_at, AreSummed}
use Rattle.column_turns.proofs.turns.turn_column.Goals as goal

pub returns-clause-turns : goal.returns-clause-turns
returns-clause-turns g c =
    let s = (g.P.Pairs.seen c.args.pairs.now).source in
    let new = g.P.Pairs.seen c.fill_rows.new.pairs in
    let stakes = c.args.stakes.now in
    let column = c.args.column.now in
    let place = mover_at column.layouts (layout_at column.others 0) column.movers in
    let filled = c.fill_rows.ensures in
    let one = c.sum_kinds.ensures in
    let summed : AreSummed s new.notes stakes place (length column.movers) c.sum_kinds.new.lower c.sum_kinds.new.upper = record {
      fits = c.requires.stakes;
      within = rw filled.later.source at (g.met.P.Pairs.notes_within c.fill_rows.new.pairs);
      states = λ i k here below. c.requires.column.states i k here (rw c.requires.stakes.kinds below);
      low = one.found_lower s new.notes c.requires.stakes c.requires.column (filled.found Lower);
      high = one.found_upper s new.notes c.requires.stakes c.requires.column (filled.found Upper);
    } in
    (rw (c.movers.ensures.movers, one.column) at c.pair_positions.ensures.turns) s new.notes place summed
