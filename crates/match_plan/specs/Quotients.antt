-- Quotients in millionths, rounded outwards.
use Rattle.std.specs.Prelude.{ℕ, ◌/◌, ◌*◌, ℤ, pos, ◌*ℤ◌, ◌≤ℤ◌, ◌<ℤ◌}
use Rattle.std.specs.Int.{div_ceil}
use Rattle.match_plan.specs.declared.millionths.Millionths.{Millionths}

-- how many millionths a part is of a whole: the greatest whole number that isn't above, and the least that isn't below
abbrev pub quotient_down : ℕ → ℕ → ℕ
quotient_down part whole = 1000000 * part / whole

abbrev pub quotient_up : ℕ → ℕ → ℕ
quotient_up part whole = div_ceil (1000000 * part) whole

-- a part of a whole is at least so many millionths of it, and at most so many
pub record IsShare (found : Millionths) (part whole : ℤ) : Type 0 where
  pub some : pos 0 <ℤ whole
  pub low : (pos found.low *ℤ whole) ≤ℤ (pos 1000000 *ℤ part)
  pub high : (pos 1000000 *ℤ part) ≤ℤ (pos found.high *ℤ whole)
