-- How much text a record has.
use Rattle.std.specs.Prelude.{ℕ, ◌+◌, nat_le, Bool, ◌||◌, List, length}
use Rattle.record_maker.specs.declared.size.Size.{Size}

-- with one more line, which has this text and a byte at its end
abbrev pub with_line : Size → List ℕ → Size
with_line size text = record { lines = size.lines + 1; bytes = size.bytes + length text + 1 }

abbrev pub empty_size : Size
empty_size = record { lines = 0; bytes = 0 }

-- no game and no turn begins where there are 60,000 lines or 1,000,000 bytes
abbrev pub is_full : Size → Bool
is_full size = nat_le 60000 size.lines || nat_le 1000000 size.bytes
