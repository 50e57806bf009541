-- What decisions of one game lose, by a file of bounds.
use Rattle.std.specs.Prelude.{◌≡◌, ◌≢◌, ◌⊎◌, ℕ, List, map, Contains, Option, Some, None, IsSomeAnd, Result, Ok, Err}
use Rattle.std.specs.List.{AllZip}
use Rattle.hyper_outside.specs.declared.outside.LookStop.{LookStop}
use Rattle.cube_actions.specs.Scores.{MatchScore}
use Rattle.game_record.specs.declared.decision.Decision.{Decision}
use Rattle.turn_rule.specs.Games.{IsGame}
use Rattle.turn_rule.specs.Looks.{States}
use Rattle.turn_rule.specs.Turn.{Words}
use Rattle.play_analyser.specs.Sought.{MayFollowChoice}
use Rattle.record_analysis.specs.Analyses.{lost, unjudged}
use Rattle.record_analysis.specs.Judging.{IsAt, IsBestAt, JudgesAll, MeetsOnDecisions}
use Rattle.record_analysis.specs.Truth.{IsDecisionOf}
use Rattle.record_analysis.specs.declared.analysis.Judged.{Judged}
use Rattle.record_study.specs.Keeping.{decisions_in}
use Rattle.base_head.specs.Fronts.{head_in}
use Rattle.base_head.specs.Heads.{FileHead, IsHead, stakes_of}
use Rattle.base_head.specs.Headers.{IsHeader}
use Rattle.database_file.specs.Faults.{fault_before_pages, header_of_file, whole}
use Rattle.database_file.specs.Paged.{IsSourceOfHead, paged_source, told_notes}
use Rattle.database_file.specs.PagedFiles.{PagedFile}
use Rattle.database_file.specs.Texts.{game_in}
use Rattle.equity_report.specs.declared.text.GameName.{GameName}
use Rattle.equity_report.specs.declared.refusal.Refusal.{Refusal}
use Rattle.equity_report.specs.declared.refusal.Refusal.TheVariants.{Base}
use Rattle.equity_report.specs.declared.refusal.Wanted.TheVariants.{Fits}
use Rattle.run_endings.specs.Loads.{game_told}
use Rattle.run_endings.specs.Pages.{AnswersSought, AreOnRightPages, HavePairsOf, IsOnBadPage, OfHeld, RefusesOpeningFor, TellsFirst}

-- ---- a file of a game

-- what stands before the pages of a file
abbrev pub front_head : List ℕ → FileHead
front_head bytes = head_in (header_of_file bytes) bytes

-- a file of the game that is wanted, right as far as its pages
pub record IsFileOf (wanted : GameName) (bytes : List ℕ) : Type 0 where
  pub front : fault_before_pages (whole bytes) ≡ None
  pub game : game_told (front_head bytes) ≡ wanted
  pub head : IsHead (front_head bytes)
  pub valid : IsGame (game_in (front_head bytes))

-- a right head, of another game than is wanted, as the refusal tells
abbrev pub IsOther : GameName → FileHead → Refusal → Type 0
IsOther wanted head refusal =
    IsHead head × (game_told head ≢ wanted)
    × (refusal ≡ Base (Fits wanted) (game_told head))

-- A file of this name is refused before its pages are looked at: there is none, something is wrong with what stands there, or it is of another
-- game than is wanted. A fault of the files or of memory says nothing of it.
abbrev pub RefusesFront : GameName → List ℕ → Refusal → Option (List ℕ) → Type 0
RefusesFront wanted name refusal held = RefusesOpeningFor (IsOther wanted) name refusal held

-- ---- what a decision loses by it

-- a decision of the game that is wanted, whatever the scores after it are worth
abbrev pub IsDecisionFor : GameName → Decision → Type 0
IsDecisionFor wanted decision =
    (head : FileHead) → game_told head ≡ wanted → IsGame (game_in head)
    → IsDecisionOf (game_in head) decision

-- the states on which it rests what a decision loses by a file
abbrev pub MayFollowIn : List ℕ → Decision → States
MayFollowIn bytes decision =
    MayFollowChoice (stakes_of (front_head bytes)) decision.position decision.kind decision.choice

-- A file judges a decision: it is of the game that is wanted, the pages on which the loss rests are right, this is the loss over any words that
-- have the pairs of the file's right pages, and what was best is so by what is looked up in the file: the first of the ranking, or the advice,
-- that is made of it.
pub record JudgesOne (wanted : GameName) (bytes : List ℕ) (one : Judged) : Type 0 where
  pub file : IsFileOf wanted bytes
  pub pages : AreOnRightPages bytes (MayFollowIn bytes one.decision)
  pub over : (u : Words) → HavePairsOf bytes u
      → one.loss ≡ Some (lost (stakes_of (front_head bytes)) u one.decision)
  pub best :
      IsSomeAnd one.best
      (IsBestAt (stakes_of (front_head bytes)) one.decision
      (paged_source (header_of_file bytes) (Some bytes))
      (told_notes (header_of_file bytes) (Some bytes)))

-- a file of the game that is wanted, and this is wrong with the page of a state on which it rests what a decision loses
pub record IsBadPageFor (wanted : GameName) (decision : Decision) (refusal : Refusal)
    (bytes : List ℕ) : Type 0 where
  pub file : IsFileOf wanted bytes
  pub page : IsOnBadPage bytes (MayFollowIn bytes decision) refusal

-- this tells the damage that is met first where a file judges the decisions that were made at a score
abbrev pub TellsFirstJudging : Option MatchScore → List Decision → Refusal → List ℕ → Type 0
TellsFirstJudging score decisions refusal bytes = TellsFirst bytes
    (MeetsOnDecisions score (stakes_of (front_head bytes)) (map unjudged decisions)) refusal

-- the file of this name can't judge one of these decisions, which was made at the score, and the damage that is met first is told
pub record RefusesOne (wanted : GameName) (score : Option MatchScore) (decisions : List Decision)
    (refusal : Refusal) (held : Option (List ℕ)) : Type 0 where
  pub decision : Decision
  pub among : Contains decisions decision
  pub at : decision.score ≡ score
  pub cause : OfHeld held (IsBadPageFor wanted decision refusal)
  pub first : OfHeld held (TellsFirstJudging score decisions refusal)

-- the file of this name is refused before its pages are looked at, or can't judge one of the decisions that were made at the score
abbrev pub RefusesFile : GameName → List ℕ → Option MatchScore → List Decision → Refusal
    → Option (List ℕ) → Type 0
RefusesFile wanted name score decisions refusal held =
    RefusesFront wanted name refusal held ⊎ RefusesOne wanted score decisions refusal held

-- ---- what may be answered

-- a file of the game that is wanted, whose header and head go together
pub record IsOpenedFor (wanted : GameName) (bytes : List ℕ) : Type 0 where
  pub file : IsFileOf wanted bytes
  pub valid : IsHeader (header_of_file bytes)
  pub source : IsSourceOfHead (paged_source (header_of_file bytes) (Some bytes)) (front_head bytes)

-- what stands in these bytes before the pages
pub record IsFrontOf (base : PagedFile) (bytes : List ℕ) : Type 0 where
  pub header : base.header ≡ header_of_file bytes
  pub head : base.head ≡ front_head bytes

-- a file of the game that is wanted was opened, or this refuses it
abbrev pub AnswersFileOf : GameName → List ℕ → Option (List ℕ) → Result PagedFile Refusal → Type 0
AnswersFileOf wanted name held (Ok base) =
    OfHeld held (λ bytes. IsOpenedFor wanted bytes × IsFrontOf base bytes)
AnswersFileOf wanted name held (Err refusal) = RefusesFront wanted name refusal held

-- the decisions at a score were judged, as they are looked up in a file
abbrev pub AnswersLooking : PagedFile → Option (List ℕ) → Option MatchScore → List Judged
    → List Judged → Result (Unit {0}) LookStop → Type 0
AnswersLooking base held score old new =
    AnswersSought base.header held (MeetsOnDecisions score (stakes_of base.head) old)
    (λ (done : Unit {0}). JudgesAll score (stakes_of base.head) (paged_source base.header held)
    (told_notes base.header held) old new)

-- what judging by a file makes of a decision: one at the score is judged, and another stays as it was
pub record JudgesAt (wanted : GameName) (score : Option MatchScore) (bytes : List ℕ)
    (old new : Judged) : Type 0 where
  pub decision : new.decision ≡ old.decision
  pub judged : IsAt score old → JudgesOne wanted bytes new
  pub other : (IsAt score old → ⊥) → new ≡ old

-- a file judges the decisions at a score
pub record JudgesList (wanted : GameName) (score : Option MatchScore) (old new : List Judged)
    (bytes : List ℕ) : Type 0 where
  pub file : IsFileOf wanted bytes
  pub each : AllZip (JudgesAt wanted score bytes) old new

-- the file of this name judges the decisions at a score, or this refuses it
abbrev pub AnswersFile : GameName → List ℕ → Option MatchScore → Option (List ℕ) → List Judged
    → List Judged → Result (Unit {0}) Refusal → Type 0
AnswersFile wanted name score held old new (Ok done) =
    OfHeld held (JudgesList wanted score old new)
AnswersFile wanted name score held old new (Err refusal) =
    RefusesFile wanted name score (decisions_in old) refusal held
