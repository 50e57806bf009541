-- The turns of a column.
use Rattle.std.specs.Prelude.{◌≡◌, ◌<◌, ◌≤◌, ◌+◌, ◌*◌, ℕ, ℤ, pos, All, IsTrue, List, length, sum, slice_index, slice_index_or}
use Rattle.position_rank.specs.Placement.{Placement, IsLive}
use Rattle.position_rank.specs.Points.{AreOtherPoints}
use Rattle.directed_fixed.specs.declared.bounds.End.{End}
use Rattle.directed_fixed.specs.declared.bounds.End.TheVariants.{Lower, Upper}
use Rattle.directed_fixed.specs.Bounds.{Bounds}
use Rattle.cube_actions.specs.Stakes.{Terms, nothing}
use Rattle.turn_rule.specs.Looks.{Source, Notes, AreStakesOf, IsSourceState, AreSourceWords, IsTurnPair}
use Rattle.turn_rule.specs.Found.{IsFoundOf, of_sum}
use Rattle.turn_rule.specs.Layouts.{AreLayouts}
use Rattle.column_sums.specs.Leaps.{layout_at}

-- the position of the layout with this rank in the column of the other side's layout
abbrev pub at_rank : List (List ℕ) → List ℕ → ℕ → Placement
at_rank layouts other rank = record { mover = layout_at layouts rank; other = other }

-- the position of one of these movers
abbrev pub mover_at : List (List ℕ) → List ℕ → List ℕ → ℕ → Placement
mover_at layouts other movers i = at_rank layouts other (slice_index movers i)

-- the points of each of these layouts, where the side that doesn't move has it
pub record ArePointsOf (layouts : List (List ℕ)) (points : List ℕ) : Type 0 where
  pub many : length points ≡ length layouts
  pub each : (rank : ℕ) → rank < length layouts
      → AreOtherPoints (slice_index points rank) (layout_at layouts rank)

-- these are the ranks of the layouts whose positions in the column are live
pub record AreLiveMovers (layouts : List (List ℕ)) (other : List ℕ) (movers : List ℕ) : Type 0 where
  pub within : All (λ rank. rank < length layouts) movers
  pub live : (i : ℕ) → i < length movers → IsLive (at_rank layouts other (slice_index movers i))
  pub all : (rank : ℕ) → rank < length layouts → IsLive (at_rank layouts other rank)
      → (i : ℕ) × (i < length movers) × (slice_index movers i ≡ rank)

-- where the value of a kind stands that belongs to the position with this number
abbrev pub place_in : ℕ → ℕ → ℕ → ℕ
place_in kinds i k = i * kinds + k

-- for so many positions, what was found of the sum of one kind
abbrev pub AreSumsOfKind : End → Source → Notes → Terms → (ℕ → Placement) → ℕ → ℕ → List ℤ → Type 0
AreSumsOfKind end source noted stakes place many k sums =
    (i : ℕ) → i < many
    → IsFoundOf end (of_sum stakes (place i) k) source noted
    (slice_index_or sums (place_in (length stakes.kinds) i k) (pos 0))

-- for so many positions, what was found of the sums of the first few kinds
abbrev pub AreSumsOf : End → Source → Notes → Terms → (ℕ → Placement) → ℕ → ℕ → List ℤ → Type 0
AreSumsOf end source noted stakes place many count sums =
    (i k : ℕ) → i < many → k < count
    → IsFoundOf end (of_sum stakes (place i) k) source noted
    (slice_index_or sums (place_in (length stakes.kinds) i k) (pos 0))

-- for so many positions, the pair of the turn in each kind
abbrev pub AreTurnsOf : Source → Notes → Terms → (ℕ → Placement) → ℕ → List Bounds → Type 0
AreTurnsOf source noted stakes place many pairs =
    (i k : ℕ) → i < many → k < length stakes.kinds
    → IsTurnPair stakes (place i) k source noted
    (slice_index_or pairs (place_in (length stakes.kinds) i k) nothing)

-- The other side may be left with these layouts, from the first one on, and each of these movers' positions in the column of the first one is
-- a state of the source in each kind.
pub record IsColumnOf (source : Source) (layouts others : List (List ℕ))
    (movers : List ℕ) : Type 0 where
  pub all : AreLayouts source.checkers layouts
  pub few : length layouts ≤ 3276
  pub some : 0 < length others
  pub many : sum (layout_at others 0) ≡ source.checkers
  pub few_movers : length movers ≤ length layouts
  pub within : All (λ rank. rank < length layouts) movers
  pub states : (i k : ℕ) → i < length movers → k < source.kinds
      → IsSourceState source (mover_at layouts (layout_at others 0) movers i) k

-- For so many positions, each a state of the source in each kind, both ends of the sums of all kinds were found.
pub record AreSummed (source : Source) (noted : Notes) (stakes : Terms) (place : ℕ → Placement)
    (many : ℕ) (lower upper : List ℤ) : Type 0 where
  pub fits : AreStakesOf source stakes
  pub within : IsTrue noted.told → AreSourceWords source noted.words
  pub states : (i k : ℕ) → i < many → k < length stakes.kinds → IsSourceState source (place i) k
  pub low : AreSumsOf Lower source noted stakes place many (length stakes.kinds) lower
  pub high : AreSumsOf Upper source noted stakes place many (length stakes.kinds) upper
