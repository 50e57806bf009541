-- How the words behind a command's name are read as its arguments and options.
use Rattle.std.specs.Prelude.{ℕ, ◌+◌, ◌==◌, ◌&&◌, Bool, false, not, List, [], ◌∷◌, ◌++◌, Option, Some, None, is_some, if◌then◌else◌, find, codes, map, slice_get, option_map, option_and_then}
use Rattle.std.specs.List.{list_all, list_any, before_first, after_first}
use Rattle.std.specs.Option.{option_map_or}
use Rattle.std.specs.Str.{bytes_eq}

-- a word's bytes
abbrev pub Bytes : Type 0
Bytes = List ℕ

-- the names of a command's arguments, in their order, of its options, each with a value, and of its
-- flags, which have none
pub record Form : Type 0 where
  pub arguments : List Bytes
  pub options : List Bytes
  pub flags : List Bytes

abbrev pub is_among : Bytes → List Bytes → Bool
is_among name names = list_any (λ n. bytes_eq n name) names

-- the name is a flag's alone
abbrev pub is_flag : Form → Bytes → Bool
is_flag f name =
    is_among name f.flags && not (is_among name f.options) && not (is_among name f.arguments)

-- values by the names that they are given to, in the order of the words
abbrev pub FormValues : Type 0
FormValues = List (Bytes × Bytes)

-- what has been read so far: the values, how many of them are arguments, and the option that waits for its value
pub record Reading : Type 0 where
  pub given : FormValues
  pub count : ℕ
  pub waiting : Option Bytes

-- a word that can't stand behind a command's name: a dash alone or before another sign, and two dashes alone
abbrev pub is_misread : Bytes → Bool
is_misread [] = false
is_misread (x ∷ []) = x == 45
is_misread (x ∷ y ∷ []) = x == 45
is_misread (x ∷ y ∷ z ∷ rest) = (x == 45) && not (y == 45)

abbrev pub has_equals : Bytes → Bool
has_equals text = list_any (λ x. x == 61) text

-- what stands before the first `=`, and what stands after it
abbrev pub name_and_value : Bytes → Bytes × Option Bytes
name_and_value text = (
  before_first (λ x. x == 61) text,
  if has_equals text
      then Some (after_first (λ x. x == 61) text)
      else None,
)

-- `--name` or `--name=value`, as the name and the value
abbrev pub option_of : Bytes → Option (Bytes × Option Bytes)
option_of (x ∷ y ∷ z ∷ rest) = if (x == 45) && (y == 45)
    then Some (name_and_value (z ∷ rest))
    else None
option_of _ = None

abbrev pub is_given : Bytes → FormValues → Bool
is_given name given = list_any (λ v. bytes_eq v.0 name) given

-- the value that a name was given
abbrev pub given_value : Bytes → FormValues → Option Bytes
given_value name given = option_map (λ v. v.1) (find (λ v. bytes_eq v.0 name) given)

-- the flag is given
abbrev pub is_set : Bytes → FormValues → Bool
is_set name given =
    option_map_or (λ value. bytes_eq value (codes "true")) (given_value name given) false

-- a value for a name that has none yet
abbrev pub give : Bytes → Bytes → Reading → Option Reading
give name value r = if is_given name r.given
    then None
    else Some (record r { given = r.given ++ (name, value) ∷ []; waiting = None })

-- the next argument, if there is one
abbrev pub take_argument : Option Bytes → Bytes → Reading → Option Reading
take_argument None word r = None
take_argument (Some name) word r = give name word (record r { count = r.count + 1 })

-- a word that is no option: the value that an option waits for, or the next argument
abbrev pub take_value : Form → Option Bytes → Bytes → Reading → Option Reading
take_value f (Some name) word r = give name word r
take_value f None word r = take_argument (slice_get f.arguments r.count) word r

-- an option of the command, with its value, or it waits for it
abbrev pub take_known : Bytes → Option Bytes → Reading → Option Reading
take_known name None r = Some (record r { waiting = Some name })
take_known name (Some value) r = give name value r

-- a flag of the command, which takes no value
abbrev pub take_flag : Bytes → Option Bytes → Reading → Option Reading
take_flag name None r = give name (codes "true") r
take_flag name (Some value) r = None

-- an option or a flag of the command
abbrev pub take_named : Form → Bytes × Option Bytes → Reading → Option Reading
take_named f o r = if is_among o.0 f.options then take_known o.0 o.1 r
    else (if is_among o.0 f.flags then take_flag o.0 o.1 r else None)

-- neither is read as the value of an option
abbrev pub take_option : Form → Bytes × Option Bytes → Reading → Option Reading
take_option f o r = if is_some r.waiting then None else take_named f o r

abbrev pub take_as : Form → Option (Bytes × Option Bytes) → Bytes → Reading → Option Reading
take_as f None word r = take_value f r.waiting word r
take_as f (Some o) word r = take_option f o r

abbrev pub take_word : Form → Bytes → Reading → Option Reading
take_word f word r = take_as f (option_of word) word r

-- the words, one after the other
abbrev pub read_forward : Form → List Bytes → Option Reading → Option Reading
read_forward f [] r = r
read_forward f (word ∷ words) r = read_forward f words (option_and_then (take_word f word) r)

-- no option waits, and each argument is given
abbrev pub is_whole : Form → Reading → Bool
is_whole f r = not (is_some r.waiting) && list_all (λ name. is_given name r.given) f.arguments

abbrev pub nothing_read : Reading
nothing_read = record { given = []; count = 0; waiting = None }

-- behind the values that were given stands `false` for each flag: a name's first value counts
abbrev pub with_flags : Form → FormValues → FormValues
with_flags f given = given ++ map (λ name. (name, codes "false")) f.flags

-- the values that the words give, if they have the form
abbrev pub values_of : Form → List Bytes → Option FormValues
values_of f words =
    option_and_then (λ (r : Reading). if is_whole f r then Some (with_flags f r.given) else None)
    (read_forward f words (Some nothing_read))
