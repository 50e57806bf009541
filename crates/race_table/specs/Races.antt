-- Races: positions in which the sides have passed each other.
use Rattle.std.specs.Prelude.{◌≡◌, ℕ, ◌+◌, ◌*◌, ◌<◌, nat_lt, max, Bool, List, [], ◌∷◌, sum, slice_index, if◌then◌else◌}
use Rattle.position_rank.specs.Placement.{Placement, IsPosition, IsLive}

-- the side has a checker on this place
abbrev pub IsHeld : List ℕ → ℕ → Type 0
IsHeld counts place = 0 < slice_index counts place

-- wherever the mover has a checker, and wherever the other side has one, the two places add up to less than 25
abbrev pub HavePassed : Placement → Type 0
HavePassed p =
    (mover other : ℕ) → IsHeld p.mover mover → IsHeld p.other other → mover + other < 25

-- a live position in which the sides have passed each other
pub record IsRace (p : Placement) : Type 0 where
  pub position : IsPosition p
  pub live : IsLive p
  pub passed : HavePassed p

-- with so many checkers a side
pub record IsRaceOf (checkers : ℕ) (p : Placement) : Type 0 where
  pub race : IsRace p
  pub many : sum p.mover ≡ checkers

-- the highest place with a checker, from this place on
abbrev pub highest_from : ℕ → List ℕ → ℕ
highest_from place [] = 0
highest_from place (count ∷ counts) =
    max (if nat_lt 0 count then place else 0) (highest_from (place + 1) counts)

-- the highest place with a checker of the side
unfoldable pub highest_of : List ℕ → ℕ
highest_of counts = highest_from 0 counts

-- the highest places of both sides add up to less than 25: of live positions this tells the races
abbrev pub is_race : Placement → Bool
is_race p = nat_lt (highest_of p.mover + highest_of p.other) 25

-- the places of the checkers added up, from this place on
abbrev pub pips_from : ℕ → List ℕ → ℕ
pips_from place [] = 0
pips_from place (count ∷ counts) = place * count + pips_from (place + 1) counts

-- how far a side's checkers are from being off, all together
unfoldable pub pips_of : List ℕ → ℕ
pips_of counts = pips_from 0 counts

-- of both sides
abbrev pub pips : Placement → ℕ
pips p = pips_of p.mover + pips_of p.other
