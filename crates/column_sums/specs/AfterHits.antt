-- The layouts that hits may leave the other side with.
use Rattle.std.specs.Prelude.{◌≡◌, ◌≢◌, ◌≤◌, ◌<◌, ◌+◌, ◌^◌, ℕ, List, [], length, slice_index, slice_index_or, sum, take}
use Rattle.position_rank.specs.Placement.{Placement, moved}
use Rattle.roll_table.specs.Rolls.{Dice, IsRoll}
use Rattle.move_rules.specs.Sequences.{IsLegalEnd}
use Rattle.column_sums.specs.Leaps.{layout_at, AreNext}

-- for each of these layers, what a checker that comes to a point leaves
abbrev pub AreLayers : List (List ℕ) → List (List ℕ) → Type 0
AreLayers others next =
    (layer : ℕ) → layer < length others → AreNext others layer (slice_index_or next layer [])

-- no two of them are the same
abbrev pub AreDistinct : List (List ℕ) → Type 0
AreDistinct others = (i j : ℕ) → i < j → j < length others → layout_at others i ≢ layout_at others j

-- no more than eight layers, no two of them the same, and room for eight
pub record AreFewLayers (others : List (List ℕ)) (places : ℕ) (next : List (List ℕ)) : Type 0 where
  pub room : 8 ≤ places
  pub few : length others ≤ 8
  pub distinct : AreDistinct others
  pub layers : AreLayers others next

-- this is one of the layers
abbrev pub IsLayer : List (List ℕ) → List ℕ → Type 0
IsLayer others other = (layer : ℕ) × (layer < length others) × (layout_at others layer ≡ other)

-- a legal play leaves the other side with one of the layers
abbrev pub AreClosedByHits : List (List ℕ) → Type 0
AreClosedByHits others = (p : Placement) (roll : Dice) (q : Placement) → IsRoll roll
    → IsLayer others p.other → IsLegalEnd p roll q → IsLayer others q.other

-- among these layers, a single checker on one of the points below this one may be on the bar as well
abbrev pub AreHitBelow : List (List ℕ) → ℕ → Type 0
AreHitBelow others points = (layer point : ℕ) → layer < length others → 1 ≤ point → point < points
    → slice_index (layout_at others layer) point ≡ 1
    → IsLayer others (moved (layout_at others layer) point 25)

-- each layout has its places, and from this point on as many checkers on each point as the first one
pub record AreAlikeFrom (other : List ℕ) (others : List (List ℕ)) (points : ℕ) : Type 0 where
  pub places : (layer : ℕ) → layer < length others → length (layout_at others layer) ≡ 26
  pub same : (layer point : ℕ) → layer < length others → points ≤ point → point ≤ 24
      → slice_index (layout_at others layer) point ≡ slice_index other point

-- the layers after hits on the points below this one: as many at most as there are sets of the checkers there
pub record AreHits (other : List ℕ) (others : List (List ℕ)) (points : ℕ) : Type 0 where
  pub some : 0 < length others
  pub first : layout_at others 0 ≡ other
  pub few : length others ≤ 2 ^ sum (take points other)
  pub distinct : AreDistinct others
  pub alike : AreAlikeFrom other others points
  pub hits : AreHitBelow others points

-- the same layers at the same places, and more
pub record AreMore (old new : List (List ℕ)) : Type 0 where
  pub longer : length old ≤ length new
  pub same : (layer : ℕ) → layer < length old → layout_at new layer ≡ layout_at old layer

-- to the first few of these layers, those in which a single checker on this point is on the bar were added
pub record AreHitOn (point count : ℕ) (old new : List (List ℕ)) : Type 0 where
  pub more : AreMore old new
  pub few : length new ≤ length old + count
  pub distinct : AreDistinct new
  pub there : (layer : ℕ) → layer < count → IsLayer new (moved (layout_at old layer) point 25)
  pub only : (layer : ℕ) → length old ≤ layer → layer < length new
      → (before : ℕ) × (before < length old)
      × (layout_at new layer ≡ moved (layout_at old before) point 25)
