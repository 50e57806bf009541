use Rattle.std.proofs.Common.{◌∙◌, arith}
use Rattle.column_turns.proofs.column_turns.room_for.Goals as goal

pub returns : goal.returns
returns c = record {
  points = c.in_ok-points_of.ensures;
  movers = omega (arith, c.in_ok-with_capacity.ensures.capacity, c.many-many.ensures.many);
  one = c.in_ok-zero_worths.ensures ∙ c.many-many.ensures.many;
  lower = record { many = rw (← c.many-many.ensures.many) c.in_ok-zeros.ensures.many; small = c.in_ok-zeros.ensures.small };
  upper = record { many = rw (← c.many-many.ensures.many) c.in_ok-zeros-2.ensures.many; small = c.in_ok-zeros-2.ensures.small };
  pairs = rw (← c.many-many.ensures.many) c.in_ok-zero_pairs.ensures;
  rows = c.in_ok-empty_rows.ensures;
}
