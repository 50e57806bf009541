-- Plays as texts.
use Rattle.std.specs.Prelude.{◌≡◌, ℕ, ◌-◌, ◌<◌, ◌≤◌, ◌==◌, nat_lt, Bool, ◌&&◌, IsTrue, List, [], ◌∷◌, ◌++◌, length, map, codes, All, slice_index, if◌then◌else◌}
use Rattle.std.specs.List.{join_with_byte}
use Rattle.position_rank.specs.Placement.{Placement}
use Rattle.position_text.specs.Text.{place_text}
use Rattle.roll_table.specs.Rolls.{Dice, IsRoll, dice_of}
use Rattle.move_rules.specs.Ends.{next_board}
use Rattle.move_rules.specs.Sequences.{IsSequence}
use Rattle.move_rules.specs.declared.play.Move.{Move}
use Rattle.move_rules.specs.declared.written.Step.{Step}

-- a star for a hit
abbrev pub mark : Bool → List ℕ
mark hit = if hit then codes "*" else []

-- from one place to another, with a star where it hits, as bar/20*
abbrev pub step_word : ℕ → ℕ → Bool → List ℕ
step_word from to hit = place_text from ++ codes "/" ++ place_text to ++ mark hit

abbrev pub step_text : Step → List ℕ
step_text step = step_word step.from step.to step.hit

-- words with single spaces, or a dash where there are none
abbrev pub play_of_words : List (List ℕ) → List ℕ
play_of_words [] = codes "-"
play_of_words (word ∷ ws) = join_with_byte 32 (word ∷ ws)

-- a step that hits goes to a point
abbrev pub HitsPoint : Step → Type 0
HitsPoint step = IsTrue step.hit → 0 < step.to

-- a text is that of at most four steps, none of which hits off the board
pub record IsPlayText (text : List ℕ) (steps : List Step) : Type 0 where
  pub words : text ≡ play_of_words (map step_text steps)
  pub hits : All HitsPoint steps
  pub few : length steps ≤ 4

-- a move hits a single checker
abbrev pub is_hit : Placement → Move → Bool
is_hit p move = nat_lt move.die move.from && slice_index p.other (25 - (move.from - move.die)) == 1

-- the words of moves that are made from a position in turn
abbrev pub words_from : Placement → List Move → List (List ℕ)
words_from p [] = []
words_from p (move ∷ moves) = step_word move.from (move.from - move.die) (is_hit p move)
    ∷ words_from (next_board p move) moves

abbrev pub play_text : Placement → List Move → List ℕ
play_text p moves = play_of_words (words_from p moves)

-- the moves can be made from this position with the dice of some roll
pub record CanFollow (p : Placement) (moves : List Move) : Type 0 where
  pub roll : Dice
  pub valid : IsRoll roll
  pub end : Placement
  pub sequence : IsSequence p (dice_of roll) moves end
