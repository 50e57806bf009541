-- Calls that are counted, with those that are to fail.
use Rattle.std.specs.Prelude.{ℕ, ◌==◌, List, [], ◌∷◌, ◌++◌, take, Option, find}
use Rattle.std.specs.Option.{option_map, option_map_or}
use Rattle.hyper_outside.specs.Causes.{risen_count}

-- how many calls there were, and each call that is to fail with the length of the front that it still adds
pub record CallList : Type 0 where
  pub made : ℕ
  pub failing : List (ℕ × ℕ)

-- none was made, and none is to fail
abbrev pub no_calls : CallList
no_calls = record { made = 0; failing = [] }

-- one call more is to fail, and still adds so much
abbrev pub with_failing : CallList → ℕ → ℕ → CallList
with_failing calls call front = record calls { failing = calls.failing ++ (call, front) ∷ [] }

-- after one more call
abbrev pub called : CallList → CallList
called calls = record calls { made = risen_count calls.made }

-- what the call just made still adds, if it is to fail
abbrev pub listed : CallList → Option ℕ
listed calls =
    option_map (λ (f : ℕ × ℕ). f.1) (find (λ (f : ℕ × ℕ). f.0 == calls.made) calls.failing)

-- all of the bytes, or the front that a failing call still adds
abbrev pub front_of : Option ℕ → List ℕ → List ℕ
front_of failing bytes = option_map_or (λ n. take n bytes) failing bytes
