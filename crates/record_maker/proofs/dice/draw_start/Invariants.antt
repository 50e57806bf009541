use Rattle.std.proofs.Common.{◌≡◌, ◌-◌}
use Rattle.record_maker.specs.Draws.{start_in}
use Rattle.record_maker.proofs.dice.draw_start.Given as goal

-- the words left give the start that all of them give
abbrev pub invariant-draws : goal.invariant-draws
invariant-draws l = start_in (32 - l.counter) l.words ≡ start_in 32 l.fn.words
