use Rattle.std.proofs.Common.{◌-◌}
use Rattle.record_maker.proofs.Games.{HasMade}
use Rattle.record_maker.proofs.draw.draw_record.Given as goal

abbrev pub invariant-making : goal.invariant-making
invariant-making l = HasMade l.fn.number l.fn.games l.made l.maker l.count

abbrev pub decreases-making : goal.decreases-making
decreases-making l = l.fn.games - l.count
