-- Boards, rolls and moves of worked examples.
use Rattle.std.specs.Prelude.{ℕ}
use Rattle.roll_table.specs.Rolls.{Dice}
use Rattle.move_rules.specs.declared.play.Move.{Move}

-- a roll, the higher die first
abbrev pub roll : ℕ → ℕ → Dice
roll high low = record { high = high; low = low }

-- the checker on this place moves by this die
abbrev pub by : ℕ → ℕ → Move
by die from = record { from = from; die = die }
