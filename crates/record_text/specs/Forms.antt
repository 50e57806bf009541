-- The forms of a record's lines, before their words are read.
use Rattle.std.specs.Prelude.{ℕ, ◌==◌, nat_eq, nat_lt, nat_le, Bool, true, false, not, ◌&&◌, List, [], ◌∷◌, ◌++◌, length, codes, Option, Some, None, if◌then◌else◌}
use Rattle.std.specs.List.{list_any}
use Rattle.std.specs.Cmp.Lexicographic.{pointwise}
use Rattle.game_record.specs.declared.player.Player.{Player}
use Rattle.game_record.specs.declared.player.Player.TheVariants.{A, B}
use Rattle.game_record.specs.declared.line.LineKind.{LineKind}
use Rattle.game_record.specs.declared.line.LineKind.TheVariants.{OfTitle, OfCheckers, OfStakes, OfGame, OfRoll, OfDouble, OfTake, OfPass, OfEnd, OfStop, OfClose}
use Rattle.game_record.specs.Turns.{player_text}

-- what stands before the first such byte, and what behind it
abbrev pub with_front : ℕ → Option (List ℕ × List ℕ) → Option (List ℕ × List ℕ)
with_front byte None = None
with_front byte (Some parts) = Some (byte ∷ parts.0, parts.1)

abbrev pub cut_at : ℕ → List ℕ → Option (List ℕ × List ℕ)
cut_at byte [] = None
cut_at byte (x ∷ text) = if x == byte then Some ([], text) else with_front x (cut_at byte text)

abbrev pub cut : List ℕ → Option (List ℕ × List ℕ)
cut text = cut_at 32 text

-- a line with the words that are to be read: all but a roll's play are single words
pub data LineForm : Type 0 where
  TitleForm : LineForm
  CheckersForm : (checkers : List ℕ) → LineForm
  StakesForm : (stakes : List ℕ) → LineForm
  MatchForm : (length : List ℕ) → LineForm
  GameForm : (number : List ℕ) → LineForm
  AwayForm : (number : List ℕ) → (a : List ℕ) → (b : List ℕ) → LineForm
  RollForm : (player : Player) → (roll : List ℕ) → (play : List ℕ) → LineForm
  DoubleForm : (player : Player) → LineForm
  TakeForm : (player : Player) → LineForm
  PassForm : (player : Player) → LineForm
  BeaverForm : (player : Player) → LineForm
  EndForm : (winner : Player) → (points : List ℕ) → LineForm
  StopForm : LineForm
  CloseForm : LineForm

-- the line of each form
abbrev pub form_text : LineForm → List ℕ
form_text TitleForm = codes "hypergammon record 1"
form_text (CheckersForm checkers) = codes "checkers " ++ checkers
form_text (StakesForm stakes) = codes "stakes " ++ stakes
form_text (MatchForm length) = codes "stakes match " ++ length
form_text (GameForm number) = codes "game " ++ number
form_text (AwayForm number a b) = codes "game " ++ number ++ codes " away " ++ a ++ codes " " ++ b
form_text (RollForm player roll play) = player_text player ++ codes " " ++ roll ++ codes " " ++ play
form_text (DoubleForm player) = player_text player ++ codes " double"
form_text (TakeForm player) = player_text player ++ codes " take"
form_text (PassForm player) = player_text player ++ codes " pass"
form_text (BeaverForm player) = player_text player ++ codes " beaver"
form_text (EndForm winner points) = codes "end " ++ player_text winner ++ codes " " ++ points
form_text StopForm = codes "stop"
form_text CloseForm = codes "close"

abbrev pub same_text : List ℕ → List ℕ → Bool
same_text a b = pointwise nat_eq a b

-- one word: it isn't empty and has no space
abbrev pub is_word : List ℕ → Bool
is_word text = nat_lt 0 (length text) && not (list_any (λ byte. byte == 32) text)

-- words with single spaces: none of them is empty, where the first is so far or isn't
abbrev pub go_on_as_words : Bool → List ℕ → Bool
go_on_as_words is_empty [] = not is_empty
go_on_as_words is_empty (byte ∷ text) = if byte == 32
    then not is_empty && go_on_as_words true text
    else go_on_as_words false text

abbrev pub are_words : List ℕ → Bool
are_words text = go_on_as_words true text

abbrev pub begins_with_digit : List ℕ → Bool
begins_with_digit [] = false
begins_with_digit (byte ∷ text) = nat_le 48 byte && nat_le byte 57

abbrev pub player_of : List ℕ → Option Player
player_of word = if same_text word (codes "A")
    then Some A
    else if same_text word (codes "B") then Some B else None

abbrev pub stakes_form : List ℕ → Option (List ℕ × List ℕ) → Option LineForm
stakes_form rest None = if is_word rest then Some (StakesForm rest) else None
stakes_form rest (Some parts) = if same_text parts.0 (codes "match") && is_word parts.1
    then Some (MatchForm parts.1)
    else None

abbrev pub needs_form : List ℕ → Option (List ℕ × List ℕ) → Option LineForm
needs_form number None = None
needs_form number (Some needs) = if is_word needs.0 && is_word needs.1
    then Some (AwayForm number needs.0 needs.1)
    else None

abbrev pub away_form : List ℕ → Option (List ℕ × List ℕ) → Option LineForm
away_form number None = None
away_form number (Some parts) = if same_text parts.0 (codes "away") && is_word number
    then needs_form number (cut parts.1)
    else None

abbrev pub game_form : List ℕ → Option (List ℕ × List ℕ) → Option LineForm
game_form rest None = if is_word rest then Some (GameForm rest) else None
game_form rest (Some parts) = away_form parts.0 (cut parts.1)

abbrev pub winner_form : List ℕ → Option Player → Option LineForm
winner_form points None = None
winner_form points (Some winner) = if is_word points then Some (EndForm winner points) else None

abbrev pub end_form : Option (List ℕ × List ℕ) → Option LineForm
end_form None = None
end_form (Some parts) = winner_form parts.1 (player_of parts.0)

abbrev pub roll_form : Player → Option (List ℕ × List ℕ) → Option LineForm
roll_form player None = None
roll_form player (Some parts) = if begins_with_digit parts.0 && are_words parts.1
    then Some (RollForm player parts.0 parts.1)
    else None

abbrev pub deed_form : List ℕ → Option Player → Option LineForm
deed_form rest None = None
deed_form rest (Some player) =
    if same_text rest (codes "double") then Some (DoubleForm player)
    else if same_text rest (codes "take") then Some (TakeForm player)
    else if same_text rest (codes "pass") then Some (PassForm player)
    else if same_text rest (codes "beaver") then Some (BeaverForm player)
    else roll_form player (cut rest)

abbrev pub words_form : Option (List ℕ × List ℕ) → Option LineForm
words_form None = None
words_form (Some parts) =
    if same_text parts.0 (codes "checkers")
    then (if is_word parts.1 then Some (CheckersForm parts.1) else None)
    else if same_text parts.0 (codes "stakes") then stakes_form parts.1 (cut parts.1)
    else if same_text parts.0 (codes "game") then game_form parts.1 (cut parts.1)
    else if same_text parts.0 (codes "end") then end_form (cut parts.1)
    else deed_form parts.1 (player_of parts.0)

-- the form that a line has
abbrev pub form_of : List ℕ → Option LineForm
form_of line =
    if same_text line (codes "hypergammon record 1") then Some TitleForm
    else if same_text line (codes "stop") then Some StopForm
    else if same_text line (codes "close") then Some CloseForm
    else words_form (cut line)

abbrev pub kind_of_form : LineForm → LineKind
kind_of_form TitleForm = OfTitle
kind_of_form (CheckersForm checkers) = OfCheckers
kind_of_form (StakesForm stakes) = OfStakes
kind_of_form (MatchForm length) = OfStakes
kind_of_form (GameForm number) = OfGame false
kind_of_form (AwayForm number a b) = OfGame true
kind_of_form (RollForm player roll play) = OfRoll player
kind_of_form (DoubleForm player) = OfDouble player
kind_of_form (TakeForm player) = OfTake player
kind_of_form (PassForm player) = OfPass player
kind_of_form (BeaverForm player) = OfTake player
kind_of_form (EndForm winner points) = OfEnd
kind_of_form StopForm = OfStop
kind_of_form CloseForm = OfClose
