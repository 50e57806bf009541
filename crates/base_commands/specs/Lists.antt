-- A list of positions in a file, and what its lines give.
use Rattle.std.specs.Prelude.{◌≡◌, ◌⊎◌, ◌<◌, ◌≤◌, ◌-◌, ◌==◌, ◌||◌, ℕ, Bool, not, List, [], ◌∷◌, length, take, drop, IsUtf8, Option, Some, None, Result, Ok, Err, Vec, ⊤}
use Rattle.std.specs.List.{suffix_len}
use Rattle.std.specs.Global.{Global}
use Rattle.std.specs.Result.{result_map_both}
use Rattle.position_rank.specs.Placement.{Placement}
use Rattle.outside_log.specs.declared.reading.WholeStop.{WholeStop}
use Rattle.outside_log.specs.declared.reading.WholeStop.TheVariants as whole
use Rattle.game_record.specs.declared.fault.RecordFault.TheVariants.{TooLong}
use Rattle.command_line.specs.declared.stop.WordsFault.{WordsFault}
use Rattle.command_line.specs.declared.stop.WordsFault.TheVariants as faults
use Rattle.command_line.specs.Values.{position_given, roll_named}
use Rattle.equity_report.specs.declared.refusal.Refusal.{Refusal}
use Rattle.base_commands.specs.declared.lists.RolledPosition.{RolledPosition}
use Rattle.equity_report.specs.declared.refusal.Refusal.TheVariants.{Words, Position, Roll, Missing, Record, Read, Memory}
use Rattle.run_endings.specs.Endings.{no_text}

-- ---- the file of a list

-- A list in a file of this name is refused: there is no file, or it has more than 67,108,864 bytes. A fault of the files or of memory says nothing
-- of it.
abbrev pub RefusesList : List ℕ → Refusal → Option (List ℕ) → Type 0
RefusesList name (Missing missing) held = (missing.bytes ≡ name) × (held ≡ None)
RefusesList name (Record bad) (Some bytes) =
    (bad ≡ record { line = 0; fault = TooLong }) × (67108864 < length bytes)
RefusesList name Read held = ⊤
RefusesList name Memory held = ⊤
RefusesList name _ _ = ⊥

-- the bytes of a list in a file of this name, or what refuses it
abbrev pub AnswersList : List ℕ → Option (List ℕ) → Result (Vec ℕ Global) Refusal → Type 0
AnswersList name held (Ok list) = (held ≡ Some list.items) × (length list.items ≤ 67108864)
AnswersList name held (Err refusal) = RefusesList name refusal held

-- the refusal that tells why the file of this name, which is to hold a list, was not read
abbrev pub TellsUnlisted : List ℕ → WholeStop → Refusal → Type 0
TellsUnlisted name whole.Missing (Missing missing) = missing.bytes ≡ name
TellsUnlisted name whole.Missing _ = ⊥
TellsUnlisted name whole.TooLong refusal = refusal ≡ Record (record { line = 0; fault = TooLong })
TellsUnlisted name whole.ReadFault refusal = refusal ≡ Read
TellsUnlisted name whole.NoMemory refusal = refusal ≡ Memory

-- ---- its lines

-- the refusal of words with which this is wrong
abbrev pub words_refusal : WordsFault → Refusal
words_refusal (faults.Words bad) = Words bad
words_refusal (faults.Position bad) = Position bad
words_refusal (faults.Roll bad) = Roll bad

-- What a text gives where it is read as a word of the program is, or the refusal of that word. One that isn't UTF-8 is refused as a word is that
-- isn't.
abbrev pub GivesAs : {X : Type 0} → (List ℕ → Result X WordsFault) → List ℕ → Result X Refusal
    → Type 0
GivesAs reading text given =
    (IsUtf8 text × (given ≡ result_map_both (λ x. x) words_refusal (reading text)))
    ⊎ ((¬ IsUtf8 text) × (given ≡ Err no_text))

-- the position that a text gives as a word of `show` does
abbrev pub GivesPosition : List ℕ → Result Placement Refusal → Type 0
GivesPosition = GivesAs position_given

-- a space or a tab
abbrev pub is_blank : ℕ → Bool
is_blank byte = byte == 32 || byte == 9

-- where the last word of a line begins: behind its last blank
abbrev pub word_start : List ℕ → ℕ
word_start line = length line - suffix_len (λ byte. not (is_blank byte)) line

-- a text without the blanks at its end
abbrev pub without_blanks : List ℕ → List ℕ
without_blanks text = take (length text - suffix_len is_blank text) text

-- the last word of a line, and what stands before it and the blanks before it
abbrev pub last_word : List ℕ → List ℕ
last_word line = drop (word_start line) line

abbrev pub before_last_word : List ℕ → List ℕ
before_last_word line = without_blanks (take (word_start line) line)

-- The position and the roll that a line gives: its last word is the roll, and the position stands before that. A position that is refused is
-- refused first.
abbrev pub GivesRolled : List ℕ → Result RolledPosition Refusal → Type 0
GivesRolled line (Ok rolled) =
    GivesPosition (before_last_word line) (Ok rolled.position)
    × GivesAs roll_named (last_word line) (Ok rolled.roll)
GivesRolled line (Err refusal) =
    GivesPosition (before_last_word line) (Err refusal)
    ⊎ ((p : Placement) × GivesPosition (before_last_word line) (Ok p)
    × GivesAs roll_named (last_word line) (Err refusal))

-- each line has its answer, in their order
abbrev pub AnswerEach : {A : Type 0} → (List ℕ → A → Type 0) → List (List ℕ) → List A → Type 0
AnswerEach Answers [] [] = ⊤
AnswerEach Answers (line ∷ lines) (answer ∷ answers) =
    Answers line answer × AnswerEach Answers lines answers
AnswerEach Answers _ _ = ⊥
