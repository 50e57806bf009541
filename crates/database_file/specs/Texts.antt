-- The text of a file of bounds.
use Rattle.std.specs.Prelude.{◌≡◌, ℕ, ◌*◌, List, ◌++◌}
use Rattle.turn_rule.specs.Games.{game_of}
use Rattle.turn_rule.specs.declared.game.Game.{Game}
use Rattle.interval_words.specs.WordLists.{WordList, AreRight}
use Rattle.word_pages.specs.declared.version.Version.{Version}
use Rattle.word_pages.specs.Pages.{pages_text}
use Rattle.base_head.specs.Heads.{FileHead, IsHead, HasText, stakes_of}
use Rattle.base_head.specs.Headers.{header_of}
use Rattle.base_head.specs.Fronts.{front_text, head_digest}

-- the game of a head
abbrev pub game_in : FileHead → Game
game_in head = game_of head.checkers (stakes_of head)

-- a page has the words of 1,024 positions, two for each kind
abbrev pub words_a_page : ℕ → ℕ
words_a_page kinds = 2 * kinds * 1024

-- the head, and then the words in pages, which are bound to the head in version 3
abbrev pub file_text : Version → FileHead → List ℕ → List ℕ
file_text version head words = front_text version head
    ++ pages_text version (head_digest version head)
    (words_a_page (header_of version head).kinds) words

-- the words are those of the head's game after its rounds
pub record AreWordsOf (head : FileHead) (words : WordList) : Type 0 where
  pub game : words.game ≡ game_in head
  pub rounds : words.rounds ≡ head.rounds

-- bytes are the text of a version, a head and words
pub record IsText (version : Version) (head : FileHead) (words : WordList)
    (bytes : List ℕ) : Type 0 where
  pub valid : IsHead head
  pub takes : HasText version head
  pub fitting : AreWordsOf head words
  pub right : AreRight words
  pub text : bytes ≡ file_text version head words.list
