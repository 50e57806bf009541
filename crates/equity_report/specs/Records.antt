-- What is told of a wrong record.
use Rattle.std.specs.Prelude.{ℕ, List, ◌++◌, codes}
use Rattle.move_rules.specs.declared.applied.BadPlay.{BadPlay}
use Rattle.move_rules.specs.declared.applied.BadPlay.TheVariants.{WrongDice, NoChecker, BarFirst, NotHome, Closed, HitMark, TooFew, HigherDie}
use Rattle.game_record.specs.declared.fault.BadRecord.{BadRecord}
use Rattle.game_record.specs.declared.fault.RecordFault.{RecordFault}
use Rattle.game_record.specs.declared.fault.RecordFault.TheVariants.{Shape, Order, Rules, Number, Play, TooLong, Unended, IllegalPlay, IllegalCube, ScoreWrong}
use Rattle.equity_report.specs.Reports.{counted_text}

-- what is wrong with a play, counted from 1 in the order in which a play is judged
abbrev pub play_kind : BadPlay → ℕ
play_kind WrongDice = 1
play_kind NoChecker = 2
play_kind BarFirst = 3
play_kind NotHome = 4
play_kind Closed = 5
play_kind HitMark = 6
play_kind TooFew = 7
play_kind HigherDie = 8

-- what is wrong with a line
abbrev pub record_fault_text : RecordFault → List ℕ
record_fault_text Shape = codes "shape"
record_fault_text Rules = codes "rules"
record_fault_text Number = codes "number"
record_fault_text Play = codes "play"
record_fault_text Order = codes "order"
record_fault_text TooLong = codes "too-long"
record_fault_text Unended = codes "unended"
record_fault_text (IllegalPlay bad) = counted_text (codes "illegal-play") (play_kind bad)
record_fault_text IllegalCube = codes "illegal-cube"
record_fault_text ScoreWrong = codes "score-wrong"

-- the number of the first wrong line, and what is wrong with it
abbrev pub bad_record_text : BadRecord → List ℕ
bad_record_text bad =
    counted_text (codes "record") bad.line ++ codes " " ++ record_fault_text bad.fault
