-- The parts of reports. Each line ends with a line feed, the byte 10.
use Rattle.std.specs.Prelude.{ℕ, List, ◌++◌, codes, decimal}
use Rattle.std.specs.Fmt.{signed_decimal}
use Rattle.directed_fixed.specs.Bounds.{Bounds}
use Rattle.point_text.specs.Decimal.{millionths_down, millionths_up, millionths_text}

-- a line that begins with a word
abbrev pub line : List ℕ → List ℕ → List ℕ
line word rest = word ++ codes " " ++ rest ++ codes "\n"

-- a thing and its number
unfoldable pub counted_text : List ℕ → ℕ → List ℕ
counted_text thing number = thing ++ codes " " ++ decimal number

-- the lower end in points, rounded down, and the upper end, rounded up
abbrev pub points_text : Bounds → List ℕ
points_text pair = millionths_text (millionths_down pair.lower) ++ codes " "
    ++ millionths_text (millionths_up pair.upper)

-- both ends in units
abbrev pub units_text : Bounds → List ℕ
units_text pair = signed_decimal pair.lower ++ codes " " ++ signed_decimal pair.upper

-- a pair in points and in units
abbrev pub pair_text : Bounds → List ℕ
pair_text pair = points_text pair ++ codes " " ++ units_text pair
