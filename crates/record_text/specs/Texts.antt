-- The text of a record, line by line.
use Rattle.std.specs.Prelude.{◌≡◌, ℕ, nat_lt, ◌==◌, Bool, false, ◌||◌, List, [], ◌∷◌, ◌++◌, length, map, codes, decimal, count_by, Option, Some, None}
use Rattle.std.specs.List.{flat_map}
use Rattle.cube_text.specs.Texts.{rule_text}
use Rattle.roll_table.specs.Text.{roll_text}
use Rattle.play_text.specs.Notation.{step_text, play_of_words}
use Rattle.move_rules.specs.declared.written.Step.{Step}
use Rattle.game_record.specs.declared.record.RecordStakes.{RecordStakes}
use Rattle.game_record.specs.declared.record.RecordStakes.TheVariants.{Unlimited, Match}
use Rattle.game_record.specs.declared.record.What.{What}
use Rattle.game_record.specs.declared.record.What.TheVariants.{Rolled, Doubled, Took, Passed, Beavered}
use Rattle.game_record.specs.declared.record.Record.{Record}
use Rattle.game_record.specs.declared.line.Line.{Line}
use Rattle.game_record.specs.declared.line.Line.TheVariants.{Title, Checkers, Stakes, Game as GameLine, Acted, Ended, Stopped, Closed}
use Rattle.game_record.specs.Lines.{record_lines, IsRecord}
use Rattle.game_record.specs.Turns.{player_text}

abbrev pub stakes_word : RecordStakes → List ℕ
stakes_word (Unlimited rule) = rule_text rule
stakes_word (Match length) = codes "match " ++ decimal length

-- the points that A and B still need
abbrev pub away_text : Option (ℕ × ℕ) → List ℕ
away_text None = []
away_text (Some needs) = codes " away " ++ decimal needs.0 ++ codes " " ++ decimal needs.1

-- a play as it is written
abbrev pub steps_text : List Step → List ℕ
steps_text steps = play_of_words (map step_text steps)

-- one more step behind others
abbrev pub spaced_step : Step → List ℕ
spaced_step step = codes " " ++ step_text step

abbrev pub deed_text : What → List ℕ
deed_text (Rolled roll written) = roll_text roll ++ codes " " ++ steps_text written.items
deed_text Doubled = codes "double"
deed_text Took = codes "take"
deed_text Passed = codes "pass"
deed_text Beavered = codes "beaver"

-- a line without its end
abbrev pub line_text : Line → List ℕ
line_text Title = codes "hypergammon record 1"
line_text (Checkers checkers) = codes "checkers " ++ decimal checkers
line_text (Stakes stakes) = codes "stakes " ++ stakes_word stakes
line_text (GameLine number away) = codes "game " ++ decimal number ++ away_text away
line_text (Acted action) = player_text action.player ++ codes " " ++ deed_text action.what
line_text (Ended winner points) = codes "end " ++ player_text winner ++ codes " " ++ decimal points
line_text Stopped = codes "stop"
line_text Closed = codes "close"

-- lines, each with the byte 10 at its end
abbrev pub lines_text : List Line → List ℕ
lines_text lines = flat_map (λ line. line_text line ++ 10 ∷ []) lines

abbrev pub record_text : Record → List ℕ
record_text rec = lines_text (record_lines rec)

abbrev pub is_line_end : ℕ → Bool
is_line_end byte = byte == 10

abbrev pub is_too_long : List ℕ → Bool
is_too_long text = nat_lt 1048576 (length text) || nat_lt 65536 (count_by is_line_end text)

-- this is the text of a record, and isn't too long
pub record IsRecordText (text : List ℕ) (rec : Record) : Type 0 where
  pub valid : IsRecord rec
  pub printed : text ≡ record_text rec
  pub size : is_too_long text ≡ false
