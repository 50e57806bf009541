-- What is to be counted, as the words ask for it.
use Rattle.std.specs.Prelude.{◌≡◌, ◌≤◌, ◌+◌, ℕ, List, Option, Some, None}
use Rattle.std.specs.Str.Parse.{IsNumeral, digits_value, without_leading_plus}
use Rattle.game_census.specs.declared.task.Part.{Part}
use Rattle.game_census.specs.declared.task.Task.{Task}
use Rattle.game_census.specs.declared.task.Task.TheVariants.{Cube, Widths}

-- one word for a file, where one is named
abbrev pub one_for : {A : Type 0} → Option A → ℕ
one_for None = 0
one_for (Some file) = 1

-- how many words ask for it: its name, and a file with a part, or a game with its rounds and perhaps a file
abbrev pub word_count : Task → ℕ
word_count (Cube task) = 4
word_count (Widths task) = 4 + one_for task.file

-- the number that a word says by its digits; a plus may stand before them
abbrev pub number_said : List ℕ → ℕ
number_said word = digits_value 10 (without_leading_plus word)

-- the word says a number from 1 to the greatest that is taken
pub record SaysUpto (greatest : ℕ) (word : List ℕ) : Type 0 where
  pub numeral : IsNumeral 10 (without_leading_plus word)
  pub least : 1 ≤ number_said word
  pub most : number_said word ≤ greatest

-- two words say a part, its number and of how many: there are at most a million
pub record SayPart (number many : List ℕ) : Type 0 where
  pub many_said : SaysUpto 1000000 many
  pub number_said : SaysUpto (number_said many) number

-- this is the part that they say
pub record IsPartOf (number many : List ℕ) (part : Part) : Type 0 where
  pub said : SayPart number many
  pub number_is : part.number ≡ number_said number
  pub of_is : part.of ≡ number_said many

-- the task asks for the calls over the part of a file that the words say
abbrev pub AsksCalls : List ℕ → List ℕ → List ℕ → Task → Type 0
AsksCalls file number many (Cube task) = (task.file.now ≡ file) × IsPartOf number many task.part
AsksCalls file number many (Widths task) = ⊥

-- the task asks for the widths of as many checkers after as many rounds as the words say
abbrev pub AsksWidths : List ℕ → List ℕ → Task → Type 0
AsksWidths checkers rounds (Cube task) = ⊥
AsksWidths checkers rounds (Widths task) =
    (task.checkers ≡ number_said checkers) × (task.rounds ≡ number_said rounds)
