-- Positions as texts.
use Rattle.std.specs.Prelude.{ℕ, zero, suc, ◌-◌, ◌==◌, nat_eq, nat_lt, nat_le, Bool, not, ◌&&◌, ◌||◌, List, [], ◌∷◌, ◌++◌, length, map, sum, count_by, find, replicate, take, codes, decimal, Option, is_some, Result, Ok, Err, slice_index, if◌then◌else◌}
use Rattle.std.specs.List.{slice_split, before_first, after_first, filter_map, flat_map, list_all, list_any, range_with_len, join_with_byte}
use Rattle.std.specs.Cmp.Lexicographic.{pointwise}
use Rattle.position_text.specs.declared.text.BadPosition.{BadPosition}
use Rattle.position_text.specs.declared.text.BadPosition.TheVariants.{Shape, Place, Count, SharedPoint, Over}
use Rattle.position_rank.specs.Placement.{Placement}
use Rattle.position_rank.specs.Packed.{counts_of}

-- the text of a place: off, a point by its number, or the bar
abbrev pub place_text : ℕ → List ℕ
place_text place = if place == 0
    then codes "off"
    else if place == 25 then codes "bar" else decimal place

-- the place with this text
abbrev pub place : List ℕ → Option ℕ
place word = find (λ place. pointwise nat_eq (place_text place) word) (range_with_len 0 26)

-- the words of a text, which is cut at every single space
abbrev pub words : List ℕ → List (List ℕ)
words text = slice_split (λ byte. byte == 32) text

abbrev pub is_slash : List ℕ → Bool
is_slash word = pointwise nat_eq word (codes "/")

-- the words before the slash, and those after it
abbrev pub before_slash : List (List ℕ) → List (List ℕ)
before_slash ws = before_first is_slash ws

abbrev pub after_slash : List (List ℕ) → List (List ℕ)
after_slash ws = after_first is_slash ws

-- no word is empty, and the slash stands once
abbrev pub have_shape : List (List ℕ) → Bool
have_shape ws = list_all (λ word. nat_lt 0 (length word)) ws && count_by is_slash ws == 1

abbrev pub are_places : List (List ℕ) → Bool
are_places ws = list_all (λ word. is_some (place word)) ws

-- the first four places of a side, one more than it may have
abbrev pub kept_places : List (List ℕ) → List ℕ
kept_places ws = take 4 (filter_map place ws)

-- both sides have the same number of places, which is 1 to 3
abbrev pub numbers_fit : List ℕ → List ℕ → Bool
numbers_fit mover other =
    length mover == length other && nat_le 1 (length mover) && nat_le (length mover) 3

-- the mover holds a point and the other side its point on the same spot
unfoldable pub share_point : Placement → Bool
share_point p = list_any
    (λ point. nat_lt 0 (slice_index p.mover point) && nat_lt 0 (slice_index p.other (25 - point)))
    (range_with_len 1 24)

abbrev pub all_off : List ℕ → Bool
all_off counts = slice_index counts 0 == sum counts

-- a position from the checkers of both sides
abbrev pub read_placement : Placement → Result Placement BadPosition
read_placement p =
    if share_point p then Err SharedPoint
    else if all_off p.mover || all_off p.other then Err Over
    else Ok p

-- a position from the places of both sides
abbrev pub read_places : List ℕ → List ℕ → Result Placement BadPosition
read_places mover other =
    if numbers_fit mover other
    then read_placement (record { mover = counts_of mover; other = counts_of other })
    else Err Count

-- a position from its words, the mover's before the slash and the other side's after it
abbrev pub read_words : List (List ℕ) → Result Placement BadPosition
read_words ws =
    let mover = before_slash ws in
    let other = after_slash ws in
    if not (have_shape ws) then Err Shape
    else if not (are_places mover && are_places other) then Err Place
    else read_places (filter_map place mover) (filter_map place other)

abbrev pub read_position : List ℕ → Result Placement BadPosition
read_position text = read_words (words text)

-- the places below this one, the highest first
abbrev pub places_below : ℕ → List ℕ
places_below zero = []
places_below (suc n) = n ∷ places_below n

-- a side's places from the bar down to off, each as often as it has checkers
unfoldable pub places_of : List ℕ → List ℕ
places_of counts = flat_map (λ place. replicate (slice_index counts place) place) (places_below 26)

-- the mover's places, a slash and the other side's places
abbrev pub position_words : Placement → List (List ℕ)
position_words p =
    map place_text (places_of p.mover) ++ codes "/" ∷ map place_text (places_of p.other)

-- these words with single spaces
abbrev pub position_text : Placement → List ℕ
position_text p = join_with_byte 32 (position_words p)
