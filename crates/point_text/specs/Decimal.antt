-- Values as decimal numbers of points, in millionths.
use Rattle.std.specs.Prelude.{ℕ, suc, ◌+◌, ◌/◌, ◌%◌, ◌^◌, ℤ, pos, negsuc, neg_ℤ, ◌*ℤ◌, List, [], ◌∷◌, ◌++◌, map, codes, decimal}
use Rattle.std.specs.Int.{int_div_euclid}

-- the greatest whole number of millionths of a point that isn't above the value, and the least that isn't below it
abbrev pub millionths_down : ℤ → ℤ
millionths_down value = int_div_euclid (value *ℤ pos 1000000) (pos (2 ^ 32))

abbrev pub millionths_up : ℤ → ℤ
millionths_up value = neg_ℤ (millionths_down (neg_ℤ value))

-- the character of a decimal digit
abbrev pub decimal_digit : ℕ → ℕ
decimal_digit n = 48 + n

-- the six digits of a number below a million
abbrev pub six_digits : ℕ → List ℕ
six_digits n =
    map (λ (power : ℕ). decimal_digit (n / power % 10)) (100000 ∷ 10000 ∷ 1000 ∷ 100 ∷ 10 ∷ 1 ∷ [])

-- the whole part, a point and six digits
abbrev pub size_text : ℕ → List ℕ
size_text n = decimal (n / 1000000) ++ codes "." ++ six_digits (n % 1000000)

-- a whole number of millionths, with a minus where it is below 0
abbrev pub millionths_text : ℤ → List ℕ
millionths_text (pos n) = size_text n
millionths_text (negsuc n) = codes "-" ++ size_text (suc n)
