-- What is known of a file whose words were checked.
use Rattle.std.specs.Prelude.{◌≡◌, ◌⊎◌, ℕ, List, Bool, Option, Some, Result, Ok, Err, slice_get}
use Rattle.position_rank.specs.LiveRanks.{live_positions}
use Rattle.position_rank.specs.Placement.{Placement}
use Rattle.cube_actions.specs.Names.{names_of}
use Rattle.turn_rule.specs.States.{IsState}
use Rattle.turn_rule.specs.Exact.{Scoring}
use Rattle.turn_rule.specs.Truth.{AreConsistent, AreEndsWithin, Encloses, IsScoring}
use Rattle.turn_rule.specs.declared.choice.Choice.{Choice}
use Rattle.play_analyser.specs.Choices.{IsChoice}
use Rattle.play_analyser.specs.Regrets.{counted_over, loss_of, regret_of}
use Rattle.interval_words.specs.WordLists.{WordList, words_in_list}
use Rattle.word_pages.specs.declared.version.Version.{Version}
use Rattle.word_pages.specs.declared.version.Version.TheVariants.{Three}
use Rattle.base_head.specs.Heads.{FileHead}
use Rattle.database_file.specs.Bases.{AnswersBase, AnswersFrom}
use Rattle.database_file.specs.Faults.{Read as FileRead}
use Rattle.database_file.specs.FileBases.{FileBase}
use Rattle.base_verify.specs.declared.finding.Finding.{Finding}
use Rattle.base_verify.specs.Findings.{AlwaysEnclose, IsFirstFinding}
use Rattle.outside_log.specs.Sink.{Output}
use Rattle.command_line.specs.declared.command.Verify.{Verify}
use Rattle.equity_report.specs.declared.unheld.Unheld.{Unheld}
use Rattle.equity_report.specs.declared.refusal.Refusal.{Refusal}
use Rattle.equity_report.specs.declared.refusal.Refusal.TheVariants.{Inconsistent, Memory}
use Rattle.whole_file_reports.specs.Files.{verified_text}
use Rattle.run_endings.specs.Loads.{OfFile, RefusesFrom, game_told}
use Rattle.run_endings.specs.Endings.{Ending, Tells}

-- the report on a file with this head
abbrev pub verified_report : FileHead → List ℕ
verified_report head = verified_text (game_told head) head.rounds (live_positions head.checkers)

-- What a choice loses over the words encloses what it loses exactly, in games of any number of turns from one on, however they are scored, where
-- an unfinished end lies in the pair of its own state.
abbrev pub LossesEnclose : WordList → Type 0
LossesEnclose words =
    (scoring : Scoring) → IsScoring words.game scoring
    → AreEndsWithin words.game (words_in_list words) scoring
    → (turns : ℕ) (p : Placement) (k : ℕ) → IsState words.game p k
    → (choice : Choice) → IsChoice words.game.stakes p k choice
    → Encloses (loss_of words.game.stakes (words_in_list words) p k choice)
    (regret_of words.game.stakes scoring turns p k choice) (counted_over scoring turns choice)

-- Words that are consistent, whoever made them: so they enclose every state in games of any number of turns, and what is lost over them encloses
-- what is lost exactly.
pub record AreVerified (words : WordList) : Type 0 where
  pub consistent : AreConsistent words.game (words_in_list words)
  pub enclosing : AlwaysEnclose words
  pub losses : LossesEnclose words

-- The words of a file were checked: a head and words were read from it, of the file that is held where all answers were faithful; the words are
-- consistent; and the report on the head was put, in this way.
pub record HasVerified (task : Verify) (told : Bool) (held : Option (List ℕ))
    (IsReport : List ℕ → Type 0) : Type 0 where
  pub base : FileBase
  pub read : OfFile told held (λ file. AnswersBase file (Ok base))
  pub verified : AreVerified base.words
  pub report : IsReport (verified_report base.head)

-- this is told of a finding in a file with this head
pub record TellsFinding (head : FileHead) (finding : Finding) (unheld : Unheld) : Type 0 where
  pub side : unheld.side ≡ finding.side
  pub kind : slice_get (names_of head.name) finding.kind ≡ Some unheld.kind
  pub stored : unheld.stored ≡ finding.stored
  pub computed : unheld.computed ≡ finding.computed
  pub position : unheld.position ≡ finding.position

-- The words of a base aren't consistent: this tells the first that doesn't hold, by rising live rank, then by kind, the lower word before the
-- upper one.
pub record IsUnheld (base : FileBase) (refusal : Refusal) : Type 0 where
  pub finding : Finding
  pub first : IsFirstFinding base.words finding
  pub inconsistent : ¬ AreConsistent base.words.game (words_in_list base.words)
  pub unheld : Unheld
  pub told : TellsFinding base.head finding unheld
  pub line : refusal ≡ Inconsistent unheld

-- a head and words were read from a file of a version from `oldest` on, and the words aren't consistent
pub record HoldsUnheld (oldest : Version) (refusal : Refusal)
    (file : Option FileRead) : Type 0 where
  pub base : FileBase
  pub read : AnswersFrom oldest file (Ok base)
  pub is : IsUnheld base refusal

-- a file of this name is refused: it can't be loaded, or its words aren't consistent
abbrev pub RefusesVerifying : Version → List ℕ → Refusal → Option FileRead → Type 0
RefusesVerifying oldest name refusal file =
    RefusesFrom oldest name refusal file ⊎ HoldsUnheld oldest refusal file

-- this refuses a file of this name, of the one that is held where all answers were faithful
abbrev pub MayRefuseVerifying : Version → List ℕ → Bool → Option (List ℕ) → Refusal → Type 0
MayRefuseVerifying oldest name told held refusal =
    OfFile told held (RefusesVerifying oldest name refusal)

-- how checking a file ends
abbrev pub TellsVerified : Verify → Bool → Option (List ℕ) → Output → Output → Ending → Type 0
TellsVerified task told held =
    Tells (HasVerified task told held) (MayRefuseVerifying Three task.file told held)

-- ---- what checking may answer

-- the words of a base are consistent, or this tells the first that doesn't hold; a lack of memory says nothing of them
abbrev pub AnswersCheck : FileBase → Result (Unit {0}) Refusal → Type 0
AnswersCheck base (Ok _) = AreVerified base.words
AnswersCheck base (Err refusal) = (refusal ≡ Memory) ⊎ IsUnheld base refusal

-- a base whose words are consistent was read from a file of this name, or the file is refused
abbrev pub AnswersVerify : Version → List ℕ → Bool → Option (List ℕ) → Result FileBase Refusal
    → Type 0
AnswersVerify oldest name told held (Ok base) =
    OfFile told held (λ file. AnswersFrom oldest file (Ok base)) × AreVerified base.words
AnswersVerify oldest name told held (Err refusal) =
    MayRefuseVerifying oldest name told held refusal
