-- How the words after the program's name are read.
use Rattle.std.specs.Prelude.{ℕ, ◌+◌, ◌-◌, ◌^◌, min, ◌==◌, nat_eq, nat_lt, Bool, not, ◌&&◌, ◌||◌, List, [], ◌∷◌, length, position, codes, Option, if◌then◌else◌}
use Rattle.std.specs.List.{before_first, list_any, starts_with, ends_with}
use Rattle.std.specs.Option.{option_map, option_map_or}
use Rattle.std.specs.Str.{bytes_eq}
use Rattle.hyper_outside.specs.declared.outside.WordsKind.TheVariants.{Command, Word, Form}
use Rattle.word_forms.specs.Form.{Bytes, values_of}
use Rattle.command_line.specs.declared.command.CommandName.{CommandName}
use Rattle.command_line.specs.declared.command.CommandName.TheVariants.{Show, ShowList, Advise, AdviseList, ShowMatch, AdviseMatch}
use Rattle.command_line.specs.Commands.{Asked, refused, command_named, command_form, command_values}

abbrev pub is_option : Bytes → Bool
is_option word = starts_with nat_eq word (codes "--")

-- a word that can't stand in any command: it is empty or has more than 4,096 bytes, or is no option but
-- begins with a -, or is one with no name or with an empty value
abbrev pub is_faulty : Bytes → Bool
is_faulty word =
    length word == 0 || nat_lt 4096 (length word) || bytes_eq word (codes "--")
    || starts_with nat_eq word (codes "-") && not (is_option word)
    || is_option word && ends_with nat_eq word (codes "=")

-- this option, alone or with its value behind an `=`
abbrev pub is_option_named : Bytes → Bytes → Bool
is_option_named option word = bytes_eq (before_first (λ byte. byte == 61) word) option

abbrev pub has_option : Bytes → List Bytes → Bool
has_option option words = list_any (is_option_named option) words

-- the command of a list where the option of that list is among the words
abbrev pub for_list : CommandName → List Bytes → CommandName
for_list Show words = if has_option (codes "--positions") words then ShowList else Show
for_list Advise words = if has_option (codes "--rolls") words then AdviseList else Advise
for_list command words = command

-- the command at a score of a match where the option of a score is among the words
abbrev pub for_match : CommandName → List Bytes → CommandName
for_match Show words = if has_option (codes "--away") words then ShowMatch else Show
for_match Advise words = if has_option (codes "--away") words then AdviseMatch else Advise
for_match command words = command

-- the command that a name and the words behind it ask for
abbrev pub command_asked : Bytes → List Bytes → Option CommandName
command_asked name words =
    option_map (λ command. for_match (for_list command words) words) (command_named name)

-- the place of the word at this index behind the name; the last number stands for all above
abbrev pub place_at : ℕ → ℕ
place_at i = min (i + 1) (2 ^ 32 - 1)

-- the command's form, then its values
abbrev pub form_reading : CommandName → List Bytes → Asked
form_reading name words =
    option_map_or (command_values name) (values_of (command_form name) words) (refused Form 0)

-- no faulty word, then the rest
abbrev pub words_reading : CommandName → List Bytes → Asked
words_reading name words = option_map_or (λ i. refused Word (place_at i)) (position is_faulty words)
    (form_reading name words)

-- a command, no faulty word, its form, its values: the first of these that fails is refused
abbrev pub reading : List Bytes → Asked
reading [] = refused Command 0
reading (name ∷ words) =
    option_map_or (λ command. words_reading command words) (command_asked name words)
    (refused Command 0)
