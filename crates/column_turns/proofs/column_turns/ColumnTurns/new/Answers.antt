use Rattle.std.proofs.Common.{sym, arith}
use Rattle.position_rank.proofs.RowLaws.{layouts-in}
use Rattle.column_turns.proofs.column_turns.ColumnTurns.new.Goals as goal

pub invariant_of-result : goal.invariant_of-result
invariant_of-result c =
    let room = c.in_ok-room.ensures in
    record {
      low = c.requires.low;
      high = c.requires.high;
      kinds = c.kinds-kinds.ensures.few;
      all = c.in_ok-column.ensures;
      few = omega (arith, c.in_ok-column.ensures.many, (layouts-in c.args.checkers c.requires.low c.requires.high).1);
      valid = rw c.mover-other.ensures.mover c.start.ensures.valid.mover;
      many = rw c.mover-other.ensures.mover c.start.ensures.checkers;
      ranked = sym c.rank.ensures.rank;
      points = room.points;
      room = room.movers;
      rows = room.rows;
      room_one = omega (arith, room.one);
      room_lower = room.lower;
      room_upper = room.upper;
      pairs = room.pairs;
    }
