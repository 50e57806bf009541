-- What the text of a record is read as: a plain one, line by line.
use Rattle.std.specs.Prelude.{ℕ, zero, suc, ◌+◌, ◌-◌, nat_eq, ◌==◌, Bool, true, false, ◌||◌, List, [], ◌∷◌, ◌++◌, length, take, codes, slice_index, slice_index_or, if◌then◌else◌}
use Rattle.std.specs.List.{ends_with, flat_map, list_all, slice_split}
use Rattle.std.specs.Str.Lines.{lines}

-- ---- plays

-- the parts of a text, which is cut at each such byte
abbrev pub parts : ℕ → List ℕ → List (List ℕ)
parts byte text = slice_split (λ other. other == byte) text

-- a place behind a slash without the mark of a hit
abbrev pub without_mark : List ℕ → List ℕ
without_mark place = if ends_with nat_eq place (codes "*")
    then take (length place - 1) place
    else place

-- the place that a checker goes to; only the first checker hits what stands there
abbrev pub place_told : Bool → List ℕ → List ℕ
place_told true place = place
place_told false place = without_mark place

-- the steps of a checker that goes from a place to others in turn
abbrev pub steps_on : Bool → List ℕ → List (List ℕ) → List (List ℕ)
steps_on first from [] = []
steps_on first from (to ∷ later) =
    (from ++ codes "/" ++ place_told first to) ∷ steps_on first (without_mark to) later

-- how many checkers more go that way
abbrev pub more_checkers : List ℕ → ℕ
more_checkers word = if ends_with nat_eq word (codes "(2)") then 1
    else if ends_with nat_eq word (codes "(3)") then 2
    else if ends_with nat_eq word (codes "(4)") then 3 else 0

-- the way that they go
abbrev pub way_told : List ℕ → List ℕ
way_told word = if more_checkers word == 0 then word else take (length word - 3) word

abbrev pub repeated : ℕ → List (List ℕ) → List (List ℕ)
repeated zero steps = []
repeated (suc n) steps = steps ++ repeated n steps

-- a word without a slash is no step, and stays as it is
abbrev pub steps_of : List ℕ → ℕ → List (List ℕ) → List (List ℕ)
steps_of word more [] = word ∷ []
steps_of word more (from ∷ []) = word ∷ []
steps_of word more (from ∷ to ∷ later) =
    steps_on true from (to ∷ later) ++ repeated more (steps_on false from (to ∷ later))

-- the words that a word is read as: 24/21*/17(2) as 24/21* 21/17 24/21 21/17
abbrev pub words_read : List ℕ → List (List ℕ)
words_read word = steps_of word (more_checkers word) (parts 47 (way_told word))

-- ---- lines

abbrev pub spaced : List ℕ → List ℕ
spaced word = codes " " ++ word

abbrev pub word_read : List ℕ → List ℕ
word_read word = flat_map spaced (words_read word)

-- words with single spaces: the first is no step
abbrev pub line_of_words : List (List ℕ) → List ℕ
line_of_words [] = []
line_of_words (first ∷ later) = first ++ flat_map word_read later

-- what a line is read as
abbrev pub line_read : List ℕ → List ℕ
line_read line = line_of_words (parts 32 line)

abbrev pub is_blank_byte : ℕ → Bool
is_blank_byte byte = byte == 32 || byte == 9

abbrev pub begins_with_hash : List ℕ → Bool
begins_with_hash [] = false
begins_with_hash (byte ∷ line) = byte == 35

-- an empty line, one of blanks alone, or a remark
abbrev pub says_nothing : List ℕ → Bool
says_nothing line = begins_with_hash line || list_all is_blank_byte line

-- what a line adds to the plain text
abbrev pub line_if_any : List ℕ → List ℕ
line_if_any line = if says_nothing line then [] else line_read line ++ codes "\n"

-- ---- texts

-- what a text is read as; its lines end with a line feed, perhaps behind a carriage return, and the last needs none
abbrev pub plain_text : List ℕ → List ℕ
plain_text text = flat_map line_if_any (lines text)

-- the number of a line that says something
abbrev pub number_if_any : ℕ → List ℕ → List ℕ
number_if_any number line = if says_nothing line then [] else number ∷ []

-- the numbers of the lines that say something, where they are counted from this one, and that of the line behind all
abbrev pub numbers_from : ℕ → List (List ℕ) → List ℕ
numbers_from number [] = number ∷ []
numbers_from number (line ∷ later) = number_if_any number line ++ numbers_from (number + 1) later

-- for each line of the plain text that of the text, both counted from 1; for 0 stands 0, which is no line
abbrev pub line_numbers : List ℕ → List ℕ
line_numbers text = 0 ∷ numbers_from 1 (lines text)

-- the line of the text that the line of this number in the plain text comes from
abbrev pub line_of : List ℕ → ℕ → ℕ
line_of text number = slice_index (line_numbers text) number

-- the line of a text with this number, as it stands; for 0, and behind the last one, an empty one
abbrev pub line_at : List ℕ → ℕ → List ℕ
line_at text number = slice_index_or ([] ∷ parts 10 text) number []
