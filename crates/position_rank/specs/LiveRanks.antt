-- Numbers for live positions.
use Rattle.std.specs.Prelude.{ℕ, zero, suc, ◌+◌, ◌-◌, ◌*◌, ◌/◌, ◌%◌, List, [], ◌∷◌, sum, count_by, slice_index, Bool, not, ◌&&◌, ◌||◌, ◌==◌, nat_le}
use Rattle.std.specs.List.{list_all, range_with_len}
use Rattle.position_rank.specs.Placement.{Placement}
use Rattle.position_rank.specs.Packed.{counts_of}
use Rattle.position_rank.specs.Ranks.{choose, layouts, square_rank_of}

-- no point is held by both sides
unfoldable pub are_apart : Placement → Bool
are_apart p = list_all
    (λ point. slice_index p.mover point == 0 || slice_index p.other (25 - point) == 0)
    (range_with_len 1 24)

-- some checker of the side isn't off
abbrev pub is_in_play : List ℕ → Bool
is_in_play counts = not (slice_index counts 0 == sum counts)

-- no point is held by both sides, and both sides have checkers in play
abbrev pub is_live : Placement → Bool
is_live p = are_apart p && is_in_play p.mover && is_in_play p.other

-- the highest place whose ways are at most this number: how many places above 0 there are whose ways are
unfoldable pub highest_place : ℕ → ℕ → ℕ
highest_place number ways =
    count_by (λ place. nat_le (choose (place + number - 1) number) ways) (range_with_len 1 25)

-- the falling places of so many checkers with this rank: the highest one takes as many ways as it can, the others what is left
abbrev pub falling_places : ℕ → ℕ → List ℕ
falling_places zero rank = []
falling_places (suc others) rank =
    let place = highest_place (suc others) rank in
    place ∷ falling_places others (rank - choose (place + suc others - 1) (suc others))

-- the layout of so many checkers with this rank
unfoldable pub layout_at : ℕ → ℕ → List ℕ
layout_at checkers rank = counts_of (falling_places checkers rank)

-- the position of so many checkers a side with this square rank
abbrev pub placement_at : ℕ → ℕ → Placement
placement_at checkers square = record {
  mover = layout_at checkers (square / layouts checkers);
  other = layout_at checkers (square % layouts checkers);
}

-- how many live positions of so many checkers a side have a square rank below this one
unfoldable pub live_below : ℕ → ℕ → ℕ
live_below checkers square =
    count_by (λ below. is_live (placement_at checkers below)) (range_with_len 0 square)

-- how many live positions of so many checkers a side there are
abbrev pub live_positions : ℕ → ℕ
live_positions checkers = live_below checkers (layouts checkers * layouts checkers)

-- a live position's number among those of as many checkers
abbrev pub live_rank_of : Placement → ℕ
live_rank_of p = live_below (sum p.mover) (square_rank_of p)
