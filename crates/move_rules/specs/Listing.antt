-- How the plays of a roll are found: the lines that use as many dice as can be, in their order, and of those to one end the first.
-- The private functions of the listing say so of their steps. No public contract cites it: `plays` says by `IsLegalEnd` and `IsFirst` what it
-- lists, in whatever way that is found.
use Rattle.std.specs.Prelude.{◌≡◌, ℕ, List, [], ◌∷◌, ◌++◌, map, ◌⊎◌}
use Rattle.std.specs.List.{flat_map}
use Rattle.std.specs.Option.{option_to_list}
use Rattle.position_rank.specs.Placement.{Placement}
use Rattle.move_rules.specs.Ends.{Line, after_move, places}
use Rattle.move_rules.specs.declared.play.Entry.{Entry}
use Rattle.move_rules.specs.declared.play.Move.{Move}

-- the lines that go on from here with a move from this place
unfoldable pub full_from : (List Move → Placement → List Line) → List Move → Placement → ℕ → ℕ
    → List Line
full_from later moves p die from = flat_map
    (later (moves ++ record { from = from; die = die } ∷ []))
    (option_to_list (after_move p die from))

-- the lines that go on from here, after these moves, and use all of these dice in this order
unfoldable pub full : List ℕ → List Move → Placement → List Line
full [] moves p = (moves, p) ∷ []
full (die ∷ dice) moves p = flat_map (full_from (full dice) moves p die) places

-- the first lines, or the second where there are none
abbrev pub or_else : List Line → List Line → List Line
or_else [] others = others
or_else (line ∷ lines) others = line ∷ lines

-- as many of a double's four moves as can be made
unfoldable pub double_lines : Placement → ℕ → List Line
double_lines p die =
    or_else (full (die ∷ die ∷ die ∷ die ∷ []) [] p)
    (or_else (full (die ∷ die ∷ die ∷ []) [] p)
    (or_else (full (die ∷ die ∷ []) [] p) (or_else (full (die ∷ []) [] p) (full [] [] p))))

-- both dice in either order, else the higher, else the lower, else none
unfoldable pub pair_lines : Placement → ℕ → ℕ → List Line
pair_lines p high low =
    or_else (full (high ∷ low ∷ []) [] p ++ full (low ∷ high ∷ []) [] p)
    (or_else (full (high ∷ []) [] p) (or_else (full (low ∷ []) [] p) (full [] [] p)))

-- this is among them
abbrev pub Among : {X : Type 0} → X → List X → Type 0
Among x [] = ⊥
Among x (y ∷ ys) = (x ≡ y) ⊎ Among x ys

-- one of these lines leads to this end
abbrev pub HasEnd : List Line → Placement → Type 0
HasEnd lines end = Among end (map (λ (line : Line). line.1) lines)

-- of these lines, each that leads to a new end was added to those that had been found
abbrev pub AddsNewEnds : List Line → List Line → List Line → Type 0
AddsNewEnds found [] after = after ≡ found
AddsNewEnds found (line ∷ lines) after = (HasEnd found line.1 × AddsNewEnds found lines after)
    ⊎ ((HasEnd found line.1 → ⊥) × AddsNewEnds (found ++ line ∷ []) lines after)

-- entries as lines
abbrev pub lines_of : List Entry → List Line
lines_of entries = map (λ (entry : Entry). (entry.play.items, entry.end)) entries

-- these entries were found before, and these are found after these lines
abbrev pub TakesIn : List Entry → List Line → List Entry → Type 0
TakesIn before lines after = AddsNewEnds (lines_of before) lines (lines_of after)
