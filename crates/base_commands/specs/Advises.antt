-- What is advised from a file.
use Rattle.std.specs.Prelude.{◌≡◌, ◌⊎◌, ℕ, List, Bool, IsTrue, sum, All, Option, Some, None, Result, Ok, Err}
use Rattle.position_rank.specs.Placement.{Placement}
use Rattle.roll_table.specs.Rolls.{Dice}
use Rattle.outside_log.specs.Sink.{Output}
use Rattle.hyper_outside.specs.declared.outside.LookStop.{LookStop}
use Rattle.cube_actions.specs.Stakes.{Terms}
use Rattle.play_text.specs.Notation.{CanFollow}
use Rattle.turn_rule.specs.Looks.{MayFollowTurn, States, MayFollowRoll, Meets, MeetsOnRoll, MeetsOnTurn}
use Rattle.turn_rule.specs.Games.{IsGame, kinds_of}
use Rattle.turn_rule.specs.States.{IsState}
use Rattle.turn_rule.specs.Truth.{AreSound, InTheEnd}
use Rattle.turn_rule.specs.Turn.{Words}
use Rattle.play_analyser.specs.declared.advice.CubeAdvice.{CubeAdvice}
use Rattle.play_analyser.specs.declared.ranking.PlayRow.{PlayRow}
use Rattle.play_analyser.specs.declared.ranking.Ranking.{Ranking}
use Rattle.play_analyser.specs.Advice.{IsCubeAdvice, IsCubeAdviceOver}
use Rattle.play_analyser.specs.Advised.{ActionLosesAtMost, FirstLosesAtMost}
use Rattle.play_analyser.specs.Rankings.{IsRanking, IsRankingOver}
use Rattle.base_head.specs.Fronts.{head_in}
use Rattle.base_head.specs.Heads.{FileHead, stakes_of}
use Rattle.base_head.specs.Headers.{IsHeader}
use Rattle.base_head.specs.declared.header.Header.{Header}
use Rattle.database_file.specs.Faults.{fault_before_pages, header_of_file, whole}
use Rattle.database_file.specs.Paged.{paged_source, told_notes}
use Rattle.database_file.specs.Texts.{game_in}
use Rattle.equity_report.specs.declared.refusal.Refusal.{Refusal}
use Rattle.base_reports.specs.Advice.{cube_report, ranking_text}
use Rattle.run_endings.specs.declared.asked.AskedKind.{AskedKind}
use Rattle.base_commands.specs.declared.advise.FoundAdvice.{FoundAdvice}
use Rattle.base_commands.specs.declared.advise.FoundRanking.{FoundRanking}
use Rattle.base_commands.specs.declared.advise.OpenedFile.{OpenedFile}
use Rattle.command_line.specs.declared.command.Advise.{Advise as AdviseTask}
use Rattle.run_endings.specs.Endings.{Ending, Tells}
use Rattle.run_endings.specs.Pages.{AnswersSought, AreOnRightPages, HavePairsOf, IsOnBadPage, OfHeld, TellsFirst, RefusesOpeningFor}
use Rattle.run_endings.specs.Games.{IsKindAsked, WantsOther}

-- ---- the state in which advice is sought

-- A state of a file's game, whose head is right: the position has its checkers, and the kind is the one that is asked for.
pub record IsAskedOf (task : AdviseTask) (bytes : List ℕ) (head : FileHead)
    (kind : AskedKind) : Type 0 where
  pub front : fault_before_pages (whole bytes) ≡ None
  pub head_is : head ≡ head_in (header_of_file bytes) bytes
  pub checkers : head.checkers ≡ sum task.position.mover
  pub kind_is : IsKindAsked head task.kind kind

-- The same, of a header and a head that go together, in a game of theirs.
pub record IsStateIn (task : AdviseTask) (bytes : List ℕ) (head : FileHead)
    (kind : AskedKind) : Type 0 where
  pub asked : IsAskedOf task bytes head kind
  pub valid : IsHeader (header_of_file bytes)
  pub game : IsGame (game_in head)
  pub checkers : (header_of_file bytes).checkers ≡ head.checkers
  pub kinds : (header_of_file bytes).kinds ≡ kinds_of (game_in head)
  pub state : IsState (game_in head) task.position kind.number

-- ---- what is advised

-- A file ranks the plays of a roll: the pages on which that rests are right, and this is the ranking over any words that have the pairs of the
-- file's right pages. Where such words are sound, the first play in the end loses at most its bound.
pub record Ranks (task : AdviseTask) (roll : Dice) (bytes : List ℕ) (head : FileHead)
    (kind : AskedKind) (ranking : Ranking) : Type 0 where
  pub state : IsStateIn task bytes head kind
  pub pages : AreOnRightPages bytes (MayFollowRoll (stakes_of head) task.position kind.number roll)
  pub over : (u : Words) → HavePairsOf bytes u
      → IsRankingOver (stakes_of head) u task.position kind.number roll ranking
  pub losses :
      (u : Words) → HavePairsOf bytes u → AreSound (game_in head) u
      → InTheEnd (game_in head) (λ scoring turns.
      FirstLosesAtMost (game_in head) scoring turns task.position kind.number roll
      ranking.rows.items ranking.loss_bound)

-- A file advises on the cube: so do the pages, the words and, in the end, the offer and the answer.
pub record Advises (task : AdviseTask) (bytes : List ℕ) (head : FileHead) (kind : AskedKind)
    (advice : CubeAdvice) : Type 0 where
  pub state : IsStateIn task bytes head kind
  pub pages : AreOnRightPages bytes (MayFollowTurn (stakes_of head) task.position kind.number)
  pub over : (u : Words) → HavePairsOf bytes u
      → IsCubeAdviceOver (stakes_of head) u task.position kind.number advice
  pub losses :
      (u : Words) → HavePairsOf bytes u → AreSound (game_in head) u
      → InTheEnd (game_in head) (λ scoring turns.
      ActionLosesAtMost (game_in head) scoring turns task.position kind.number advice.action)

-- The report of a ranking was put, in this way; where all answers were faithful, the file ranks the plays so.
pub record HasRanked (task : AdviseTask) (roll : Dice) (told : Bool) (held : Option (List ℕ))
    (IsReport : List ℕ → Type 0) : Type 0 where
  pub head : FileHead
  pub kind : AskedKind
  pub ranking : Ranking
  pub file : IsTrue told → OfHeld held (λ bytes. Ranks task roll bytes head kind ranking)
  pub report : IsReport (ranking_text task.board task.position roll kind.name ranking)

-- the same of advice on the cube
pub record HasAdvisedCube (task : AdviseTask) (told : Bool) (held : Option (List ℕ))
    (IsReport : List ℕ → Type 0) : Type 0 where
  pub head : FileHead
  pub kind : AskedKind
  pub advice : CubeAdvice
  pub file : IsTrue told → OfHeld held (λ bytes. Advises task bytes head kind advice)
  pub report : IsReport (cube_report task.board task.take task.position kind.name advice)

abbrev pub HasAdvisedOn : Option Dice → AdviseTask → Bool → Option (List ℕ) → (List ℕ → Type 0)
    → Type 0
HasAdvisedOn (Some roll) task told held IsReport = HasRanked task roll told held IsReport
HasAdvisedOn None task told held IsReport = HasAdvisedCube task told held IsReport

-- the plays of the roll were ranked, or, where there is none, it was advised on the cube
abbrev pub HasAdvised : AdviseTask → Bool → Option (List ℕ) → (List ℕ → Type 0) → Type 0
HasAdvised task = HasAdvisedOn task.roll task

-- ---- why nothing is advised

-- the states on which advice rests
abbrev pub RestsOn : Option Dice → Terms → Placement → ℕ → States
RestsOn (Some roll) stakes p k = MayFollowRoll stakes p k roll
RestsOn None stakes p k = MayFollowTurn stakes p k

-- the damage that is met first where it is advised on a roll, or on the cube
abbrev pub MeetsAdvising : Option Dice → Terms → Placement → ℕ → Meets
MeetsAdvising (Some roll) stakes p k = MeetsOnRoll stakes p k roll
MeetsAdvising None stakes p k = MeetsOnTurn stakes p k

-- the state is one of the file's game, and this is wrong with the page that is met first of those on which the advice rests
pub record IsBadFor (task : AdviseTask) (bytes : List ℕ) (refusal : Refusal) : Type 0 where
  pub head : FileHead
  pub kind : AskedKind
  pub asked : IsAskedOf task bytes head kind
  pub page : IsOnBadPage bytes (RestsOn task.roll (stakes_of head) task.position kind.number)
      refusal
  pub first : TellsFirst bytes (MeetsAdvising task.roll (stakes_of head) task.position kind.number)
      refusal

-- Advice from a file of this name is refused: it can't be opened, it is of another game, or something is wrong with a page on which the advice
-- rests, of which the first that is met is told.
abbrev pub RefusesAdvice : AdviseTask → Refusal → Option (List ℕ) → Type 0
RefusesAdvice task refusal held =
    RefusesOpeningFor (WantsOther task.position task.kind) task.file refusal held
    ⊎ OfHeld held (λ bytes. IsBadFor task bytes refusal)

-- this refuses advice, of the file that is held where all answers were faithful
abbrev pub MayRefuseAdvice : AdviseTask → Bool → Option (List ℕ) → Refusal → Type 0
MayRefuseAdvice task told held refusal = IsTrue told → RefusesAdvice task refusal held

-- how advising ends, on plays or on the cube
abbrev pub TellsAdvice : AdviseTask → Bool → Option (List ℕ) → Output → Output → Ending → Type 0
TellsAdvice task told held = Tells (HasAdvised task told held) (MayRefuseAdvice task told held)

-- ---- what look-ups in a file may answer

-- a file was opened for a state of its game, or this refuses that
abbrev pub AnswersOpened : AdviseTask → Bool → Option (List ℕ) → Result OpenedFile Refusal → Type 0
AnswersOpened task told held (Ok opened) =
    IsTrue told → OfHeld held (λ bytes. IsStateIn task bytes opened.base.head opened.kind
    × (opened.base.header ≡ header_of_file bytes))
AnswersOpened task told held (Err refusal) = IsTrue told → RefusesAdvice task refusal held

-- the plays of a roll, as they are looked up in a file
abbrev pub AnswersRanking : Header → Option (List ℕ) → Terms → Placement → ℕ → Dice
    → Result Ranking LookStop → Type 0
AnswersRanking header file stakes p k roll =
    AnswersSought header file (MeetsOnRoll stakes p k roll)
    (IsRanking stakes p k roll (paged_source header file) (told_notes header file))

-- what to do with the cube, as it is looked up in a file
abbrev pub AnswersAdvice : Header → Option (List ℕ) → Terms → Placement → ℕ
    → Result CubeAdvice LookStop → Type 0
AnswersAdvice header file stakes p k =
    AnswersSought header file (MeetsOnTurn stakes p k)
    (IsCubeAdvice stakes p k (paged_source header file) (told_notes header file))

-- each play can be made from the position in turn
abbrev pub CanBePlayed : Placement → List PlayRow → Type 0
CanBePlayed p rows = All (λ (row : PlayRow). CanFollow p row.entry.play.items) rows

-- what is found for a task of a roll, where all answers were faithful in the file that is held, or what refuses it
abbrev pub AnswersRanked : AdviseTask → Dice → Bool → Option (List ℕ) → Result FoundRanking Refusal
    → Type 0
AnswersRanked task roll told held (Ok found) =
    (head : FileHead) × (IsTrue told
    → OfHeld held (λ bytes. Ranks task roll bytes head found.kind found.ranking))
AnswersRanked task roll told held (Err refusal) = IsTrue told → RefusesAdvice task refusal held

-- the same of advice on the cube
abbrev pub AnswersCube : AdviseTask → Bool → Option (List ℕ) → Result FoundAdvice Refusal → Type 0
AnswersCube task told held (Ok found) =
    (head : FileHead) × (IsTrue told
    → OfHeld held (λ bytes. Advises task bytes head found.kind found.advice))
AnswersCube task told held (Err refusal) = IsTrue told → RefusesAdvice task refusal held
