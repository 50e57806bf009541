-- The lines of refusals.
use Rattle.std.specs.Prelude.{ℕ, List, ◌++◌, codes, decimal}
use Rattle.hyper_outside.specs.declared.outside.BadWords.{BadWords}
use Rattle.hyper_outside.specs.declared.outside.WordsKind.{WordsKind}
use Rattle.hyper_outside.specs.declared.outside.WordsKind.TheVariants as kinds
use Rattle.position_text.specs.declared.text.BadPosition.{BadPosition}
use Rattle.position_text.specs.declared.text.BadPosition.TheVariants.{Shape, Place, Count, SharedPoint, Over}
use Rattle.roll_table.specs.declared.roll.BadRoll.{BadRoll}
use Rattle.roll_table.specs.declared.roll.BadRoll.TheVariants as rolls
use Rattle.cube_actions.specs.declared.name.StakesName.TheVariants.{Match}
use Rattle.cube_text.specs.Texts.{kind_text}
use Rattle.base_head.specs.declared.fault.BadFile.{BadFile}
use Rattle.base_head.specs.declared.fault.FileFault.{FileFault}
use Rattle.base_head.specs.declared.fault.FileFault.TheVariants as faults
use Rattle.equity_report.specs.declared.text.GameName.{GameName}
use Rattle.equity_report.specs.declared.refusal.Refusal.{Refusal}
use Rattle.equity_report.specs.declared.refusal.Refusal.TheVariants.{Words, Position, Missing, File, Record, Read, Write, Memory, Base, Roll, Inconsistent, Contact, Condition, Other}
use Rattle.equity_report.specs.declared.refusal.Wanted.{Wanted}
use Rattle.equity_report.specs.declared.refusal.Wanted.TheVariants.{Checkers, Kind, Fits, Scored}
use Rattle.equity_report.specs.Reports.{line, counted_text}
use Rattle.equity_report.specs.Games.{game_text, stakes_text}
use Rattle.equity_report.specs.Records.{bad_record_text}
use Rattle.equity_report.specs.Unheld.{unheld_text}

-- what is wrong with the words
abbrev pub words_text : WordsKind → List ℕ
words_text kinds.Command = codes "command"
words_text kinds.Word = codes "word"
words_text kinds.Form = codes "form"
words_text kinds.Value = codes "value"

-- what is wrong with a position's text
abbrev pub position_kind : BadPosition → ℕ
position_kind Shape = 1
position_kind Place = 2
position_kind Count = 3
position_kind SharedPoint = 4
position_kind Over = 5

-- what is wrong with a roll's text
abbrev pub roll_kind : BadRoll → ℕ
roll_kind rolls.Shape = 1
roll_kind rolls.Order = 2

-- what is wrong with a file
abbrev pub file_fault_text : FileFault → List ℕ
file_fault_text faults.Short = codes "short"
file_fault_text faults.Long = codes "long"
file_fault_text faults.Magic = codes "magic"
file_fault_text faults.Version = codes "version"
file_fault_text faults.Head = codes "head"
file_fault_text faults.HeadDigest = codes "head-digest"
file_fault_text faults.PageDigest = codes "page-digest"
file_fault_text faults.Word = codes "word"
file_fault_text faults.Crossed = codes "crossed"

-- the number of a refusal, which is the status too, and what it says
abbrev pub status_of : Refusal → ℕ
status_of (Words bad) = 1
status_of (Position bad) = 2
status_of (Missing name) = 3
status_of (File bad) = 4
status_of (Record bad) = 5
status_of Read = 6
status_of Write = 7
status_of Memory = 8
status_of (Base wanted found) = 10
status_of (Roll bad) = 2
status_of (Inconsistent unheld) = 9
status_of Contact = 12
status_of (Condition word) = 11
status_of (Other name) = 13

abbrev pub bad_words_text : BadWords → List ℕ
bad_words_text bad = codes "words " ++ counted_text (words_text bad.kind) bad.place

abbrev pub bad_file_text : BadFile → List ℕ
bad_file_text bad = codes "file " ++ counted_text (file_fault_text bad.fault) bad.at

-- the checkers a side, the kind of state, the game, or the score of a match that is wanted
abbrev pub wanted_text : Wanted → List ℕ
wanted_text (Checkers checkers) = counted_text (codes "checkers") checkers
wanted_text (Kind kind) = codes "kind " ++ kind_text kind
wanted_text (Fits game) = game_text game
wanted_text (Scored score match_length) = codes "stakes " ++ stakes_text match_length (Match score)

abbrev pub base_text : Wanted → GameName → List ℕ
base_text wanted found =
    codes "base wanted " ++ wanted_text wanted ++ codes " found " ++ game_text found

abbrev pub reason_text : Refusal → List ℕ
reason_text (Words bad) = bad_words_text bad
reason_text (Position bad) = counted_text (codes "position") (position_kind bad)
reason_text (Missing name) = codes "missing " ++ name.bytes
reason_text (File bad) = bad_file_text bad
reason_text (Record bad) = bad_record_text bad
reason_text Read = codes "read"
reason_text Write = codes "write"
reason_text Memory = codes "memory"
reason_text (Base wanted found) = base_text wanted found
reason_text (Roll bad) = counted_text (codes "roll") (roll_kind bad)
reason_text (Inconsistent unheld) = unheld_text unheld
reason_text Contact = codes "contact"
reason_text (Condition word) = counted_text (codes "condition") word
reason_text (Other name) = codes "other " ++ name.bytes

-- its number and what it says
abbrev pub refusal_told : Refusal → List ℕ
refusal_told refusal = decimal (status_of refusal) ++ codes " " ++ reason_text refusal

abbrev pub refusal_text : Refusal → List ℕ
refusal_text refusal = line (codes "refused") (refusal_told refusal)
