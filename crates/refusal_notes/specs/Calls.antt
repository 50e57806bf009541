-- The words of a call.
use Rattle.std.specs.Prelude.{◌≡◌, ◌⊎◌, ℕ, Bool, List, [], ◌∷◌, ◌++◌, Option, None, Any, map, string_bytes}
use Rattle.std.specs.List.{list_any}
use Rattle.std.specs.Str.{bytes_eq}
use Rattle.std.specs.declared.alloc.Global.{Global}
use Rattle.std.specs.declared.string.String.{String}
use Rattle.command_line.specs.Commands.{command_form}
use Rattle.command_line.specs.Words.{command_asked}
use Rattle.command_line.specs.declared.command.CommandName.{CommandName}

-- the command that the words ask for
abbrev pub command_of : List (String Global) → Option CommandName
command_of [] = None
command_of (name ∷ words) =
    command_asked (string_bytes name) (map (λ (word : String Global). string_bytes word) words)

-- the command has an argument of this name
abbrev pub has_argument : CommandName → List ℕ → Bool
has_argument command name = list_any (λ other. bytes_eq other name) (command_form command).arguments

-- the word, or what stands behind an `=` in it
abbrev pub StandsIn : List ℕ → List ℕ → Type 0
StandsIn value word = (word ≡ value) ⊎ ((name : List ℕ) × (word ≡ name ++ 61 ∷ value))

-- one of the words gives it
abbrev pub IsGivenBy : List (String Global) → List ℕ → Type 0
IsGivenBy words value = Any (λ (word : String Global). StandsIn value (string_bytes word)) words
