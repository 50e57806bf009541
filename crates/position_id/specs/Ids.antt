-- The ID of a position, as GNU Backgammon has it: a key of 80 bits, in base64. Checkers that are off aren't told.
use Rattle.std.specs.Prelude.{◌≡◌, ◌⊎◌, ℕ, zero, suc, ◌+◌, ◌-◌, ◌*◌, Bool, true, false, List, [], ◌∷◌, ◌++◌, codes, length, replicate, take, drop, slice_index, if◌then◌else◌}
use Rattle.std.specs.List.{flat_map}
use Rattle.base64.specs.Engines.{standard_no_pad}
use Rattle.base64.specs.GeneralPurpose.{encode_of}
use Rattle.position_rank.specs.Placement.{Placement}

-- a place with so many checkers: as many ones, and a zero
abbrev pub place_bits : ℕ → List Bool
place_bits count = replicate count true ++ false ∷ []

-- a side's points from 1 to 24, and its bar
abbrev pub side_bits : List ℕ → List Bool
side_bits counts = flat_map place_bits (drop 1 counts)

-- first the side that isn't to move
unfoldable pub board_bits : Placement → List Bool
board_bits p = side_bits p.other ++ side_bits p.mover

-- the whole key, with zeros behind
unfoldable pub key_bits : Placement → List Bool
key_bits p = board_bits p ++ replicate (80 - length (board_bits p)) false

-- the number with these bits, the lowest first
abbrev pub number_of_bits : List Bool → ℕ
number_of_bits [] = 0
number_of_bits (bit ∷ bits) = (if bit then 1 else 0) + 2 * number_of_bits bits

-- so many bytes of eight bits each, from each byte's lowest
abbrev pub bytes_of_bits : ℕ → List Bool → List ℕ
bytes_of_bits zero bits = []
bytes_of_bits (suc count) bits =
    number_of_bits (take 8 bits) ∷ bytes_of_bits count (drop 8 bits)

-- the key in ten bytes
unfoldable pub key_bytes : Placement → List ℕ
key_bytes p = bytes_of_bits 10 (key_bits p)

-- the ID: 14 signs of base64
unfoldable pub id_text : Placement → List ℕ
id_text p = encode_of standard_no_pad (key_bytes p)

-- a line of a report
abbrev pub id_line : Placement → List ℕ
id_line p = codes "id " ++ id_text p ++ codes "\n"

-- the line where it is asked for
abbrev pub id_told : Bool → Placement → List ℕ
id_told true p = id_line p
id_told false p = []

-- some side has no checker off
abbrev pub HasAllOnBoard : Placement → Type 0
HasAllOnBoard p = (slice_index p.mover 0 ≡ 0) ⊎ (slice_index p.other 0 ≡ 0)
