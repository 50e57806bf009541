-- Numbers for layouts and positions.
use Rattle.std.specs.Prelude.{ℕ, zero, suc, ◌+◌, ◌-◌, ◌*◌, List, [], ◌∷◌, ◌++◌, replicate, sum}
use Rattle.position_rank.specs.Placement.{Placement}

-- in how many ways so many of the things can be chosen
unfoldable pub choose : ℕ → ℕ → ℕ
choose things zero = 1
choose zero (suc chosen) = 0
choose (suc things) (suc chosen) = choose things chosen + choose things (suc chosen)

-- how many layouts there are of so many checkers
abbrev pub layouts : ℕ → ℕ
layouts checkers = choose (25 + checkers) checkers

-- the places of the checkers from this place up, in rising order, by the count on each place
abbrev pub places_from : ℕ → List ℕ → List ℕ
places_from place [] = []
places_from place (count ∷ counts) = replicate count place ++ places_from (place + 1) counts

-- the places of the checkers in rising order
unfoldable pub rising_places : List ℕ → List ℕ
rising_places counts = places_from 0 counts

-- the ways to choose i of a + i - 1 things, for each place a, added up: i is this number at the first place, and rises by 1 with each
abbrev pub sum_of_ways : ℕ → List ℕ → ℕ
sum_of_ways i [] = 0
sum_of_ways i (place ∷ places) = choose (place + i - 1) i + sum_of_ways (i + 1) places

-- a layout's number among those of as many checkers
abbrev pub rank_of : List ℕ → ℕ
rank_of counts = sum_of_ways 1 (rising_places counts)

-- a position's number among all pairs of layouts of as many checkers
abbrev pub square_rank_of : Placement → ℕ
square_rank_of p = rank_of p.mover * layouts (sum p.mover) + rank_of p.other
