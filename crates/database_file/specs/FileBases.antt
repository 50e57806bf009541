-- What a file of bounds holds.
use Rattle.interval_words.specs.WordLists.{WordList}
use Rattle.base_head.specs.Heads.{FileHead}

-- a head and words
pub record FileBase : Type 0 where
  pub head : FileHead
  pub words : WordList

-- the base of this head and these words
abbrev pub head_with_words : FileHead → WordList → FileBase
head_with_words head words = record { head = head; words = words }
