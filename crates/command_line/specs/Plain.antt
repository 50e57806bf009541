-- The plain form of positions and rolls, which may be written in more ways.
use Rattle.std.specs.Prelude.{ℕ, ◌==◌, nat_lt, max, min, Bool, not, ◌&&◌, ◌||◌, [], ◌∷◌, length, fold, codes, Option, Some, None, Result, Err, if◌then◌else◌}
use Rattle.std.specs.List.{flat_map, list_any}
use Rattle.std.specs.Char.{to_ascii_lowercase}
use Rattle.std.specs.Option.{option_map_or}
use Rattle.std.specs.Str.{bytes_eq}
use Rattle.position_rank.specs.Placement.{Placement}
use Rattle.position_text.specs.Text.{read_position, words}
use Rattle.position_text.specs.TextParts.{add_word}
use Rattle.position_text.specs.declared.text.BadPosition.{BadPosition}
use Rattle.position_text.specs.declared.text.BadPosition.TheVariants.{Place}
use Rattle.word_forms.specs.Form.{Bytes}

-- a slash stands apart, a tab is a space, and a capital letter a small one
abbrev pub plain_signs : ℕ → Bytes
plain_signs byte =
    if byte == 47 then codes " / "
    else if byte == 9 then codes " " else to_ascii_lowercase byte ∷ []

-- the bar may be a b
abbrev pub whole_place : Bytes → Bytes
whole_place word = if bytes_eq word (codes "b") then codes "bar" else word

-- one more word, but none between two spaces
abbrev pub add_place : Bytes → Bytes → Bytes
add_place text word = if length word == 0 then text else add_word text (whole_place word)

-- a position's text in small letters, with single spaces and each slash apart
abbrev pub plain_position : Bytes → Bytes
plain_position text = fold add_place [] (words (flat_map plain_signs text))

-- at most 256 bytes, all of them ASCII
abbrev pub has_plain_form : Bytes → Bool
has_plain_form text =
    not (nat_lt 256 (length text)) && not (list_any (λ byte. nat_lt 127 byte) text)

abbrev pub plain_form : Bytes → Option Bytes
plain_form text = if has_plain_form text then Some (plain_position text) else None

-- a position by its plain form; a text that has none has a word that is no place
abbrev pub read_plain_position : Bytes → Result Placement BadPosition
read_plain_position text = option_map_or read_position (plain_form text) (Err Place)

abbrev pub higher_first : ℕ → ℕ → Bytes
higher_first a b = max a b ∷ min a b ∷ []

-- a roll's text with the higher digit first, and without what may stand between: a minus or a space
abbrev pub plain_roll : Bytes → Bytes
plain_roll (a ∷ b ∷ []) = higher_first a b
plain_roll (a ∷ sign ∷ b ∷ []) =
    if sign == 45 || sign == 32 then higher_first a b else a ∷ sign ∷ b ∷ []
plain_roll text = text
