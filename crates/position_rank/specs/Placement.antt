-- Where the checkers stand. A side numbers the places in its own direction: place 0 is off, 1 to 24 are its points, 25 is the bar.
-- Point p of the one side is point 25 - p of the other.
use Rattle.std.specs.Prelude.{◌≡◌, ◌≢◌, ℕ, ◌+◌, ◌-◌, ◌<◌, ◌≤◌, List, length, sum, drop, slice_index, slice_set, ◌==◌, if◌then◌else◌}

-- a side's checkers: their number on each place, one to three in all
pub record IsLayout (counts : List ℕ) : Type 0 where
  pub places : length counts ≡ 26
  pub at_least_one : 1 ≤ sum counts
  pub at_most_three : sum counts ≤ 3

-- both sides' checkers, each side's in its own numbering
pub record Placement : Type 0 where
  pub mover : List ℕ
  pub other : List ℕ

-- both sides have the same number of checkers
pub record IsPosition (p : Placement) : Type 0 where
  pub mover : IsLayout p.mover
  pub other : IsLayout p.other
  pub same : sum p.mover ≡ sum p.other

-- the sides exchanged
abbrev pub swap : Placement → Placement
swap p = record { mover = p.other; other = p.mover }

-- some checker of the side isn't off
abbrev pub InPlay : List ℕ → Type 0
InPlay counts = slice_index counts 0 ≢ sum counts

-- a checker of the other side on this place would stand on a point that this side holds
abbrev pub IsMet : List ℕ → ℕ → Type 0
IsMet counts place = (1 ≤ place) × (place ≤ 24) × (0 < slice_index counts (25 - place))

-- no point is held by both sides
abbrev pub AreApart : Placement → Type 0
AreApart p = (point : ℕ) → 1 ≤ point → point ≤ 24 → 0 < slice_index p.mover point
    → slice_index p.other (25 - point) ≡ 0

-- no point is held by both sides, and both sides have checkers in play
pub record IsLive (p : Placement) : Type 0 where
  pub apart : AreApart p
  pub mover : InPlay p.mover
  pub other : InPlay p.other

-- one checker went from the one place to the other
abbrev pub moved : List ℕ → ℕ → ℕ → List ℕ
moved counts from to =
    let left = slice_set counts from (slice_index counts from - 1) in
    slice_set left to (slice_index left to + 1)

-- how many checkers stand above a place
abbrev pub above : List ℕ → ℕ → ℕ
above counts place = sum (drop (place + 1) counts)

-- the other side's checkers when a checker comes to this point of its own: a single checker there goes to the bar
abbrev pub hit : List ℕ → ℕ → List ℕ
hit other point = if slice_index other point == 1 then moved other point 25 else other
