use Rattle.race_table.proofs.Filling.{IsFilled}
use Rattle.race_table.proofs.fill.find_races.Given as goal

-- the races so far were found
abbrev pub invariant-loop-counted : goal.invariant-loop-counted
invariant-loop-counted l = IsFilled l.checkers l.order l.counted-index l.races.items
