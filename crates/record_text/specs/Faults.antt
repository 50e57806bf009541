-- What is wrong with a line of a record, and with a record.
use Rattle.std.specs.Prelude.{◌≡◌, ◌≢◌, ℕ, ◌+◌, ◌⊎◌, false, List, [], ◌++◌, length, decimal, Some, None, MatchOption}
use Rattle.cube_text.specs.Texts.{IsNoRule}
use Rattle.roll_table.specs.Rolls.{Dice, IsRoll}
use Rattle.roll_table.specs.Text.{roll_text}
use Rattle.play_text.specs.Notation.{IsPlayText}
use Rattle.move_rules.specs.declared.written.Step.{Step}
use Rattle.game_record.specs.declared.fault.RecordFault.{RecordFault}
use Rattle.game_record.specs.declared.fault.RecordFault.TheVariants.{Shape, Order, Rules, Number, Play, TooLong, Unended}
use Rattle.game_record.specs.declared.fault.BadRecord.{BadRecord}
use Rattle.game_record.specs.declared.line.Line.{Line}
use Rattle.game_record.specs.declared.stage.Next.{Next}
use Rattle.game_record.specs.declared.stage.Next.TheVariants.{Nothing}
use Rattle.game_record.specs.declared.stage.Stage.{Stage}
use Rattle.game_record.specs.Turns.{allowed, kind_of, first_stage}
use Rattle.game_record.specs.Lines.{UpTo, MayCome, FitsStage, Follow}
use Rattle.record_text.specs.Texts.{line_text, lines_text, is_too_long}
use Rattle.record_text.specs.Forms.{LineForm, form_text, TitleForm, CheckersForm, StakesForm, MatchForm, GameForm, AwayForm, RollForm, DoubleForm, TakeForm, PassForm, BeaverForm, EndForm, StopForm, CloseForm, form_of, kind_of_form, cut_at}

-- the word is no number from 1 to this one
abbrev pub IsNoNumber : ℕ → List ℕ → Type 0
IsNoNumber most word = (n : ℕ) → UpTo most n → word ≡ decimal n → ⊥

-- the word is that of a roll which may come
abbrev pub IsRollText : Next → List ℕ → Dice → Type 0
IsRollText next word roll = IsRoll roll × MayCome next roll × (word ≡ roll_text roll)

abbrev pub IsNoRoll : Next → List ℕ → Type 0
IsNoRoll next word = (roll : Dice) → IsRollText next word roll → ⊥

abbrev pub IsNoPlay : List ℕ → Type 0
IsNoPlay text = (steps : List Step) → IsPlayText text steps → ⊥

-- a line that is read from its form
abbrev pub Says : Stage → LineForm → Line → Type 0
Says stage form line =
    (form_text form ≡ line_text line) × (kind_of line ≡ kind_of_form form) × FitsStage stage line

-- a line of this form may come here, and its words are wrong
abbrev pub IsWrong : Stage → LineForm → RecordFault → Type 0
IsWrong stage TitleForm fault = ⊥
IsWrong stage (CheckersForm checkers) fault = (fault ≡ Rules) × IsNoNumber 3 checkers
IsWrong stage (StakesForm rule) fault = (fault ≡ Rules) × IsNoRule rule
IsWrong stage (MatchForm length) fault = (fault ≡ Rules) × IsNoNumber 5 length
IsWrong stage (GameForm number) fault = (fault ≡ Number) × (number ≢ decimal (stage.games + 1))
IsWrong stage (AwayForm number a b) fault =
    (fault ≡ Number) × ((number ≢ decimal (stage.games + 1)) ⊎ (IsNoNumber 5 a ⊎ IsNoNumber 5 b))
IsWrong stage (RollForm player roll play) fault =
    ((fault ≡ Number) × IsNoRoll stage.next roll)
    ⊎ ((fault ≡ Play) × ((dice : Dice) × IsRollText stage.next roll dice) × IsNoPlay play)
IsWrong stage (DoubleForm player) fault = ⊥
IsWrong stage (TakeForm player) fault = ⊥
IsWrong stage (PassForm player) fault = ⊥
IsWrong stage (BeaverForm player) fault = ⊥
IsWrong stage (EndForm winner points) fault = (fault ≡ Number) × IsNoNumber 3 points
IsWrong stage StopForm fault = ⊥
IsWrong stage CloseForm fault = ⊥

-- a line of this form can't come here, or its words are wrong
abbrev pub IsFormFault : Stage → LineForm → RecordFault → Type 0
IsFormFault stage form fault = MatchOption (allowed stage.in_match stage.next (kind_of_form form))
    (fault ≡ Order) (λ next. IsWrong stage form fault)

-- the first thing that is wrong with this line
abbrev pub IsLineFault : Stage → List ℕ → RecordFault → Type 0
IsLineFault stage line fault =
    MatchOption (form_of line) (fault ≡ Shape) (λ form. IsFormFault stage form fault)

-- the lines before are right, and this is wrong with what comes behind them: with a line, or with the end where no line ends
abbrev pub IsWrongRest : Stage → List ℕ → RecordFault → Type 0
IsWrongRest stage rest fault =
    ((line : List ℕ) × (more : List ℕ) × (cut_at 10 rest ≡ Some (line, more))
    × IsLineFault stage line fault)
    ⊎ ((fault ≡ Unended) × (cut_at 10 rest ≡ None) × ((rest ≡ []) × (stage.next ≡ Nothing) → ⊥))

-- the first thing that is wrong with a text
pub record IsFirstWrongLine (text : List ℕ) (bad : BadRecord) : Type 0 where
  pub lines : List Line
  pub stage : Stage
  pub rest : List ℕ
  pub right : Follow first_stage lines stage
  pub parts : text ≡ lines_text lines ++ rest
  pub number : bad.line ≡ length lines + 1
  pub wrong : IsWrongRest stage rest bad.fault

-- what is wrong with a text that is no record's
abbrev pub IsBad : List ℕ → BadRecord → Type 0
IsBad text bad = ((is_too_long text ≢ false) × (bad ≡ record { line = 0; fault = TooLong }))
    ⊎ ((is_too_long text ≡ false) × IsFirstWrongLine text bad)
