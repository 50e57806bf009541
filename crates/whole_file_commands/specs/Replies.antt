-- What following the advice of a file's words is worth, and what is told of it.
use Rattle.std.specs.Prelude.{◌≡◌, ◌≤◌, ◌*◌, ◌^◌, ℕ, List, sum, Bool, Option, Result, Ok, Err}
use Rattle.position_rank.specs.Placement.{Placement}
use Rattle.outside_log.specs.Sink.{Output}
use Rattle.turn_rule.specs.Exact.{Scoring, exact}
use Rattle.turn_rule.specs.States.{pair_of}
use Rattle.interval_words.specs.WordLists.{WordList, words_in_list}
use Rattle.turn_rule.specs.Truth.{Encloses}
use Rattle.best_reply.specs.Replies.{AreScored, Follower, IsBetween, Mover, Replier, Worths, same_worths, worths}
use Rattle.best_reply.specs.ReplyPairs.{ReplyWords, reply_rounds}
use Rattle.best_reply.specs.Tables.{policy_of}
use Rattle.database_file.specs.Bases.{AnswersBase}
use Rattle.database_file.specs.FileBases.{FileBase}
use Rattle.database_file.specs.Faults.{Read as FileRead}
use Rattle.equity_report.specs.declared.refusal.Refusal.{Refusal}
use Rattle.whole_file_reports.specs.Replies.{reply_text}
use Rattle.run_endings.specs.declared.asked.AskedKind.{AskedKind}
use Rattle.whole_file_commands.specs.declared.reply.FoundReply.{FoundReply}
use Rattle.whole_file_commands.specs.declared.reply.LoadedFile.{LoadedFile}
use Rattle.command_line.specs.declared.command.Reply.{Reply as ReplyTask}
use Rattle.run_endings.specs.Games.{AnswersAsked, IsKindAsked, RefusesLoadingFor, WantsOther}
use Rattle.run_endings.specs.Loads.{OfFile}
use Rattle.run_endings.specs.Endings.{Ending, Tells}

-- ---- what following is worth

-- the words after so many rounds, for either side to move, where the follower makes the plays that these words advise
abbrev pub replies_to : WordList → ℕ → ReplyWords
replies_to words rounds = reply_rounds (policy_of words) words.game.stakes rounds

-- what each position is worth exactly where the follower makes the plays that these words advise, and the replier plays at its best
abbrev pub worths_by : WordList → Scoring → Worths → ℕ → Worths
worths_by words = worths (policy_of words) words.game.stakes

-- What is known of a state, whatever the words advise. In every game of at least as many turns as there were rounds, however it is scored within its
-- stakes, and whatever an unfinished end is worth to either side to move, the words after the rounds enclose what following is worth exactly, and what
-- the best reply is. Where an unfinished end is worth the same to both, following is worth no more than best play on both sides, and replying no less.
pub record HoldsReplying (words : WordList) (rounds : ℕ) (p : Placement) (k : ℕ) : Type 0 where
  pub encloses :
      (scoring : Scoring) (ends : Worths) → AreScored words.game scoring ends → (turns : ℕ)
      → rounds ≤ turns → (mover : Mover)
      → Encloses (pair_of (replies_to words rounds mover) p k)
      (worths_by words scoring ends turns mover p k) (scoring.scale * 36 ^ turns)
  pub between :
      (scoring : Scoring) (turns : ℕ)
      → IsBetween (worths_by words scoring (same_worths scoring.unfinished) turns)
      (exact words.game.stakes scoring turns) p k

-- ---- what is told

-- both sides' pairs of a state after so many rounds, and that of the words themselves
pub record AreReplies (words : WordList) (rounds : ℕ) (p : Placement) (k : ℕ)
    (found : FoundReply) : Type 0 where
  pub follow : found.follow ≡ pair_of (replies_to words rounds Follower) p k
  pub reply : found.reply ≡ pair_of (replies_to words rounds Replier) p k
  pub base : found.base ≡ pair_of (words_in_list words) p k

-- the report of these pairs
abbrev pub replied_text : Placement → ℕ → AskedKind → WordList → List ℕ
replied_text p rounds kind words =
    reply_text p kind.name
    (pair_of (replies_to words rounds Follower) p kind.number)
    (pair_of (replies_to words rounds Replier) p kind.number)
    (pair_of (words_in_list words) p kind.number)

-- A reply was told: a head and words were read from the file, of the one that is held where all answers were faithful; the position and the kind that
-- is asked for are of its game; what is known of a reply holds of the state; and the report was put, in this way, of its pairs after the rounds.
pub record HasReplied (task : ReplyTask) (told : Bool) (held : Option (List ℕ))
    (IsReport : List ℕ → Type 0) : Type 0 where
  pub base : FileBase
  pub read : OfFile told held (λ file. AnswersBase file (Ok base))
  pub kind : AskedKind
  pub checkers : base.head.checkers ≡ sum task.position.mover
  pub kind_is : IsKindAsked base.head task.kind kind
  pub holds : HoldsReplying base.words task.rounds task.position kind.number
  pub report : IsReport (replied_text task.position task.rounds kind base.words)

-- ---- why none is told

-- a reply is refused: its file can't be loaded, or it is of another game
abbrev pub RefusesReplying : ReplyTask → Refusal → Option FileRead → Type 0
RefusesReplying task refusal file =
    RefusesLoadingFor (WantsOther task.position task.kind) task.file refusal file

-- this refuses it, of the file that is held where all answers were faithful
abbrev pub MayRefuseReplying : ReplyTask → Bool → Option (List ℕ) → Refusal → Type 0
MayRefuseReplying task told held refusal = OfFile told held (RefusesReplying task refusal)

-- how a reply ends
abbrev pub TellsReply : ReplyTask → Bool → Option (List ℕ) → Output → Output → Ending → Type 0
TellsReply task told held = Tells (HasReplied task told held) (MayRefuseReplying task told held)

-- ---- what loading may answer

-- a base was read from its file, and this is the kind that is asked for in its game, or the file is refused
abbrev pub AnswersLoaded : ReplyTask → Bool → Option (List ℕ) → Result LoadedFile Refusal → Type 0
AnswersLoaded task told held (Ok loaded) =
    OfFile told held (λ file. AnswersBase file (Ok loaded.base))
    × AnswersAsked task.position task.kind loaded.base.head (Ok loaded.kind)
AnswersLoaded task told held (Err refusal) = MayRefuseReplying task told held refusal
