-- The position that an ID tells.
use Rattle.std.specs.Prelude.{ℕ, zero, suc, ◌+◌, ◌-◌, ◌/◌, ◌%◌, ◌==◌, nat_lt, nat_le, Bool, true, false, not, ◌&&◌, List, [], ◌∷◌, ◌++◌, length, map, replicate, Result, Ok, Err, if◌then◌else◌}
use Rattle.std.specs.List.{filter, flat_map, list_any}
use Rattle.base64.specs.Engines.{standard_no_pad}
use Rattle.base64.specs.GeneralPurpose.{decode_of}
use Rattle.base64.specs.declared.decode.DecodeError.{DecodeError}
use Rattle.position_rank.specs.Placement.{Placement}
use Rattle.position_text.specs.Text.{read_places}
use Rattle.position_text.specs.declared.text.BadPosition.{BadPosition}
use Rattle.position_text.specs.declared.text.BadPosition.TheVariants.{Shape}

-- so many lowest bits of a number, the lowest first
abbrev pub low_bits : ℕ → ℕ → List Bool
low_bits zero number = []
low_bits (suc count) number = (number % 2 == 1) ∷ low_bits count (number / 2)

-- the bits of bytes
abbrev pub bits_of_bytes : List ℕ → List Bool
bits_of_bytes bytes = flat_map (λ byte. low_bits 8 byte) bytes

-- the places of the checkers that bits tell, from this place on: a one is a checker there, and a zero leads to the next place
abbrev pub places_told : ℕ → List Bool → List ℕ
places_told place [] = []
places_told place (true ∷ bits) = place ∷ places_told place bits
places_told place (false ∷ bits) = places_told (place + 1) bits

-- places 1 to 25 are those of the side that isn't to move
abbrev pub other_told : List ℕ → List ℕ
other_told places = filter (λ place. nat_le place 25) places

-- and those from 26 on the mover's, from its point 1 on
abbrev pub mover_told : List ℕ → List ℕ
mover_told places = map (λ place. place - 25) (filter (λ place. nat_lt 25 place) places)

-- a side's places with those of its checkers that are off: it has as many as the other side has on the board, where that has more
abbrev pub with_off : List ℕ → List ℕ → List ℕ
with_off mine theirs = replicate (length theirs - length mine) 0 ++ mine

-- a checker stands behind the places of both sides
abbrev pub some_behind : List ℕ → Bool
some_behind places = list_any (λ place. nat_lt 50 place) places

-- a position from the places that a key tells
unfoldable pub read_told : List ℕ → Result Placement BadPosition
read_told places =
    let mover = mover_told places in
    let other = other_told places in
    if some_behind places then Err Shape
    else read_places (with_off mover other) (with_off other mover)

-- a position from the bytes of a key
abbrev pub read_key : Result (List ℕ) DecodeError → Result Placement BadPosition
read_key (Err bad) = Err Shape
read_key (Ok key) = read_told (places_told 1 (bits_of_bytes key))

-- a position from an ID
unfoldable pub read_id : List ℕ → Result Placement BadPosition
read_id text =
    if length text == 14 then read_key (decode_of standard_no_pad text) else Err Shape

-- as many signs as an ID has, and no space
abbrev pub has_id_form : List ℕ → Bool
has_id_form word = length word == 14 && not (list_any (λ byte. byte == 32) word)
