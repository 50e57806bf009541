-- The forms of values.
use Rattle.std.specs.Prelude.{ℕ, ◌^◌, ◌==◌, nat_lt, nat_le, Bool, not, ◌&&◌, ◌||◌, length, slice_index, Option, Some, None, is_some, Result, Ok, if◌then◌else◌, option_and_then, option_map, ◌+◌, ◌-◌, ◌*◌, ◌/◌, ℤ, pos}
use Rattle.std.specs.List.{list_any, position_or_len, before_first, after_first}
use Rattle.std.specs.Result.{result_map_both}
use Rattle.std.specs.Str.{bytes_eq, all_ascii_digits}
use Rattle.std.specs.Str.Parse.{digits_value}
use Rattle.position_id.specs.Readings.{has_id_form, read_id}
use Rattle.position_rank.specs.Placement.{Placement, swap}
use Rattle.position_text.specs.declared.text.BadPosition.{BadPosition}
use Rattle.roll_table.specs.Rolls.{Dice}
use Rattle.roll_table.specs.Text.{read_roll}
use Rattle.word_forms.specs.Form.{Bytes}
use Rattle.cube_actions.specs.declared.name.KindName.{KindName}
use Rattle.cube_actions.specs.declared.name.MoneyRule.{MoneyRule}
use Rattle.cube_text.specs.Texts.{read_name, read_rule}
use Rattle.command_line.specs.declared.command.Shown.{Shown}
use Rattle.command_line.specs.declared.command.Shown.TheVariants.{Losses, Full, Worst}
use Rattle.command_line.specs.Plain.{plain_roll, read_plain_position}
use Rattle.command_line.specs.declared.stop.WordsFault.{WordsFault}
use Rattle.command_line.specs.declared.stop.WordsFault.TheVariants.{Position, Roll}

-- decimal digits without a leading zero
abbrev pub is_number : Bytes → Bool
is_number digits = nat_lt 0 (length digits) && all_ascii_digits digits
    && (not (slice_index digits 0 == 48) || length digits == 1)

-- the number that a word writes
abbrev pub whole_number : Bytes → Option ℕ
whole_number word = if is_number word then Some (digits_value 10 word) else None

-- a number from 1 to this limit
abbrev pub number_within : ℕ → Bytes → Option ℕ
number_within most word =
    option_and_then (λ n. if nat_le 1 n && nat_le n most then Some n else None) (whole_number word)

-- a number of at most 64 bits
abbrev pub long_number : Bytes → Option ℕ
long_number word =
    option_and_then (λ n. if nat_lt n (2 ^ 64) then Some n else None) (whole_number word)

abbrev pub long_number_given : Option Bytes → Option ℕ
long_number_given given = option_and_then long_number given

-- the number that is given
abbrev pub number_given : ℕ → Option Bytes → Option ℕ
number_given most given = option_and_then (number_within most) given

-- the same, or the usual one where none is given
abbrev pub number_or : ℕ → ℕ → Option Bytes → Option ℕ
number_or most usual None = Some usual
number_or most usual (Some word) = number_within most word

-- the rounds that are made where none are given: the most where a width is
abbrev pub usual_rounds : Option Bytes → ℕ
usual_rounds None = 64
usual_rounds (Some width) = 4096

-- a number from 0 to 64
abbrev pub points_of : Bytes → Option ℕ
points_of word = option_and_then (λ n. if nat_le n 64 then Some n else None) (whole_number word)

-- the millionths that one to six digits write behind a point
abbrev pub millionths_behind : Bytes → Option ℕ
millionths_behind digits =
    if nat_le 1 (length digits) && nat_le (length digits) 6 && all_ascii_digits digits
    then Some (digits_value 10 digits * 10 ^ (6 - length digits)) else None

abbrev pub is_point : ℕ → Bool
is_point byte = byte == 46

abbrev pub has_point : Bytes → Bool
has_point word = nat_lt (position_or_len is_point word) (length word)

-- the millionths of a number of points, behind which a point and more digits may stand
abbrev pub millionths_of : Bytes → Option ℕ
millionths_of word =
    if has_point word
    then option_and_then (λ points.
    option_map (λ part. points * 1000000 + part) (millionths_behind (after_first is_point word)))
    (points_of (before_first is_point word))
    else option_map (λ points. points * 1000000) (points_of word)

-- a width above 0 and of at most 64 points, in units of 2^-32 points, rounded down
abbrev pub width_of : Bytes → Option ℤ
width_of word =
    option_and_then (λ n. if nat_le 1 n && nat_le n 64000000
    then Some (pos (n * 2 ^ 32 / 1000000)) else None)
    (millionths_of word)

-- the width that is given, if one is
abbrev pub width_given : Option Bytes → Option (Option ℤ)
width_given None = Some None
width_given (Some word) = option_map (λ width. Some width) (width_of word)

-- the rule that is given, or the usual one where none is
abbrev pub rule_or : MoneyRule → Option Bytes → Option MoneyRule
rule_or usual None = Some usual
rule_or usual (Some word) = read_rule word

-- the kind of state that is given, if one is; a word that is no kind's text is out of its form
abbrev pub kind_given : Option Bytes → Option (Option KindName)
kind_given None = Some None
kind_given (Some word) = option_map (λ kind. Some kind) (read_name word)

-- a position by its ID, where the word has the form of one, and by the plain form of its text otherwise
abbrev pub read_given : Bytes → Result Placement BadPosition
read_given word = if has_id_form word then read_id word else read_plain_position word

abbrev pub position_given : Bytes → Result Placement WordsFault
position_given word =
    result_map_both (λ position. position) (λ bad. Position bad) (read_given word)

-- the roll that a word gives, or what is wrong with it
abbrev pub roll_named : Bytes → Result Dice WordsFault
roll_named word =
    result_map_both (λ roll. roll) (λ bad. Roll bad) (read_roll (plain_roll word))

-- the roll that is given, if one is
abbrev pub roll_given : Option Bytes → Result (Option Dice) WordsFault
roll_given None = Ok None
roll_given (Some word) = result_map_both (λ roll. Some roll) (λ fault. fault) (roll_named word)

-- whether the answer to a double is asked for, beside which no roll is given
abbrev pub take_given : Bool → Option Bytes → Option Bool
take_given set roll = if set && is_some roll then None else Some set

-- a position that the side that was doubled gives as it sees it, as the doubler sees it
abbrev pub seen_by_doubler : Bool → Placement → Placement
seen_by_doubler take position = if take then swap position else position

-- which decisions of a record are shown: all, with their positions too where boards are asked for, or at most 100 of those that lost most,
-- beside whose number all aren't asked for
abbrev pub shown_given : (full board : Bool) → Option Bytes → Option Shown
shown_given full board None = Some (if full || board then Full else Losses)
shown_given full board (Some word) =
    if full then None else option_map (λ most. Worst most) (number_within 100 word)

-- 1 to so many bytes, none of them 0
abbrev pub is_name_within : ℕ → Bytes → Bool
is_name_within most word =
    nat_le 1 (length word) && nat_le (length word) most && not (list_any (λ byte. byte == 0) word)

-- the name that is given, if it has at most so many bytes
abbrev pub name_within : ℕ → Option Bytes → Option Bytes
name_within most given =
    option_and_then (λ word. if is_name_within most word then Some word else None) given

-- a file's name of 1 to 255 bytes
abbrev pub file_name : Option Bytes → Option Bytes
file_name = name_within 255

-- what the names of a ladder's files begin with, 1 to 240 bytes
abbrev pub prefix : Option Bytes → Option Bytes
prefix = name_within 240

-- a file's name that isn't this one
abbrev pub other_name : Bytes → Option Bytes → Option Bytes
other_name name given =
    option_and_then (λ word. if bytes_eq word name then None else Some word) (file_name given)
