-- A side's checkers from the places where they stand.
use Rattle.std.specs.Prelude.{◌≡◌, ℕ, ◌+◌, ◌-◌, ◌≤◌, List, [], ◌∷◌, map, count_by, sum, drop, take, ◌==◌, nat_le, if◌then◌else◌}
use Rattle.std.specs.List.{range_with_len}
use Rattle.position_rank.specs.Placement.{Placement}

-- 1 at the place of a checker, 0 at the others
abbrev pub at_place : ℕ → ℕ → ℕ
at_place checker place = if checker == place then 1 else 0

-- how often each place from 0 to 25 stands in the list
unfoldable pub counts_of : List ℕ → List ℕ
counts_of places = map (λ place. count_by (λ p. p == place) places) (range_with_len 0 26)

-- one checker on each point from 24 down, so many in all
abbrev pub start_counts : ℕ → List ℕ
start_counts checkers = counts_of (range_with_len (25 - checkers) checkers)

-- both sides at the start of a game, with so many checkers each
abbrev pub start_placement : ℕ → Placement
start_placement checkers = record { mover = start_counts checkers; other = start_counts checkers }

-- one to three places in falling order, and 0 where no checker is left
pub record IsFalling (high middle low checkers : ℕ) : Type 0 where
  pub at_least_one : 1 ≤ checkers
  pub at_most_three : checkers ≤ 3
  pub within : high ≤ 25
  pub upper : middle ≤ high
  pub lower : low ≤ middle
  pub no_second : checkers ≤ 1 → middle ≡ 0
  pub no_third : checkers ≤ 2 → low ≡ 0

-- the counts of the first few of three places
unfoldable pub packed_counts : ℕ → ℕ → ℕ → ℕ → List ℕ
packed_counts high middle low checkers = counts_of (take checkers (high ∷ middle ∷ low ∷ []))

-- the place of the checker with this number from the highest: how many places have so many checkers above them
unfoldable pub place_from_top : List ℕ → ℕ → ℕ
place_from_top counts number =
    count_by (λ place. nat_le number (sum (drop (place + 1) counts))) (range_with_len 0 25)

-- cells that can be had back from the counts that they stand for
pub record IsPacked (high middle low checkers : ℕ) : Type 0 where
  pub falling : IsFalling high middle low checkers
  pub first : place_from_top (packed_counts high middle low checkers) 1 ≡ high
  pub second : place_from_top (packed_counts high middle low checkers) 2 ≡ middle
  pub third : place_from_top (packed_counts high middle low checkers) 3 ≡ low
  pub all : sum (packed_counts high middle low checkers) ≡ checkers
