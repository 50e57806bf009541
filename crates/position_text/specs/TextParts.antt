-- Parts of texts that are read or printed word by word.
use Rattle.std.specs.Prelude.{ℕ, ◌==◌, List, ◌∷◌, ◌++◌, length, if◌then◌else◌}

-- one more word behind a text, after a space where the text isn't empty
abbrev pub add_word : List ℕ → List ℕ → List ℕ
add_word text word = if length text == 0 then word else text ++ 32 ∷ word
