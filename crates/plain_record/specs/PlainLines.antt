-- Lines that are read as themselves, as those of each record that is printed.
use Rattle.std.specs.Prelude.{◌≡◌, ℕ, ◌==◌, nat_lt, Bool, true, ◌&&◌, List, [], ◌∷◌, ◌++◌, length, count_by}
use Rattle.std.specs.List.{flat_map, join_with_byte, list_all}

-- no blank, no # and no bracket, and none that ends a line
abbrev pub is_plain_byte : ℕ → Bool
is_plain_byte byte = nat_lt 40 byte

abbrev pub is_slash_byte : ℕ → Bool
is_slash_byte byte = byte == 47

-- it isn't empty, and is one step at most
abbrev pub is_plain_word : List ℕ → Bool
is_plain_word word = nat_lt 0 (length word) && list_all is_plain_byte word
    && nat_lt (count_by is_slash_byte word) 2

-- such words with single spaces
pub record IsPlainLine (line : List ℕ) : Type 0 where
  pub first : List ℕ
  pub later : List (List ℕ)
  pub plain : list_all is_plain_word (first ∷ later) ≡ true
  pub words : line ≡ join_with_byte 32 (first ∷ later)

-- the text of lines
abbrev pub ended_lines : List (List ℕ) → List ℕ
ended_lines list = flat_map (λ line. line ++ 10 ∷ []) list
