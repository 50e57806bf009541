-- What clap is asked, and what it answers.
use Rattle.std.specs.Prelude.{◌≡◌, List, ◌++◌, [], map, Some, None, Result, Ok, Err, Bool, true, string_bytes}
use Rattle.std.specs.Borrow.{Bor}
use Rattle.std.specs.declared.string.String.{String}
use Rattle.std.specs.declared.alloc.Global.{Global}
use Rattle.clap.specs.Words.{App, Rule, new_rule, found_of, first_value, one_text}
use Rattle.clap.specs.Simple.{new_shape}
use Rattle.clap.specs.Values.{bool_text}
use Rattle.clap.specs.declared.builder.action.ArgAction.TheVariants.{Set, SetTrue}
use Rattle.clap.specs.declared.parser.matches.ArgMatches.{ArgMatches}
use Rattle.word_forms.specs.Form.{Form, Bytes, FormValues, given_value, is_flag, is_set, values_of}
use Rattle.word_forms.specs.declared.FormStop.{FormStop}
use Rattle.word_forms.specs.declared.FormStop.TheVariants.{Form as NotOfForm, NoMemory}

-- an argument, an option and a flag, as they are described
abbrev pub raw_argument : Bytes → Rule
raw_argument name = record (new_rule name) { action = Some Set; required = true }

abbrev pub raw_option : Bytes → Rule
raw_option name = record (new_rule name) { long = Some name; action = Some Set }

abbrev pub raw_flag : Bytes → Rule
raw_flag name = record (new_rule name) { long = Some name; action = Some SetTrue }

abbrev pub app_with : List Rule → App
app_with rules = record {
  top = record (new_shape []) { rules = rules; no_binary_name = true; disable_help_flag = true };
  subs = [];
}

abbrev pub app_for : Form → App
app_for f =
    app_with (map raw_argument f.arguments ++ (map raw_option f.options ++ map raw_flag f.flags))

abbrev pub names : List (Bor Bytes) → List Bytes
names = map (λ s. s.now)

abbrev pub bytes_of : List (String Global) → List Bytes
bytes_of words = map (λ (word : String Global). string_bytes word) words

abbrev pub form_by : List (Bor Bytes) → List (Bor Bytes) → List (Bor Bytes) → Form
form_by arguments options flags =
    record { arguments = names arguments; options = names options; flags = names flags }

-- the matches have the values that were given, and no others
abbrev pub HasValues : FormValues → ArgMatches → Type 0
HasValues given m = (id : Bytes) → first_value (found_of m) id ≡ given_value id given

-- a flag's text says whether it is set
abbrev pub TellsFlag : Bool → Bytes → ArgMatches → Type 0
TellsFlag set name m = one_text (found_of m) name ≡ Some (bool_text set)

-- the matches tell of each flag whether it was given
abbrev pub HasFlags : Form → FormValues → ArgMatches → Type 0
HasFlags f given m = (name : Bytes) → is_flag f name ≡ true → TellsFlag (is_set name given) name m

-- the words have the form and give these values, or they haven't it, unless there was no memory
abbrev pub IsReading : Form → List Bytes → Result ArgMatches FormStop → Type 0
IsReading f words (Ok m) =
    (given : FormValues) × (values_of f words ≡ Some given) × HasValues given m × HasFlags f given m
IsReading f words (Err NotOfForm) = values_of f words ≡ None
IsReading f words (Err NoMemory) = Unit {0}
