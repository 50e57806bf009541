-- What a game that is solved leaves.
use Rattle.std.specs.Prelude.{◌≡◌, ◌⊎◌, ℕ, ℤ, List, length, Bool, Option, Ok, Err}
use Rattle.position_rank.specs.LiveRanks.{live_positions}
use Rattle.outside_log.specs.Log.{Event}
use Rattle.outside_log.specs.Readings.{WritesFile}
use Rattle.outside_log.specs.Sink.{Output}
use Rattle.cube_actions.specs.Names.{names_of}
use Rattle.turn_rule.specs.Turn.{rounds}
use Rattle.turn_rule.specs.States.{AreNoLooser}
use Rattle.turn_rule.specs.Truth.{AreSound, AreConsistent}
use Rattle.interval_words.specs.WordLists.{WordList, AreRight, IsWidest, words_in_list}
use Rattle.worker_sweep.specs.LastRounds.{IsLastRound}
use Rattle.word_pages.specs.declared.version.Version.TheVariants.{Three}
use Rattle.base_head.specs.Heads.{FileHead, no_starts}
use Rattle.cube_actions.specs.declared.name.StakesName.TheVariants.{Unlimited}
use Rattle.base_head.specs.Headers.{magic, text_length}
use Rattle.database_file.specs.Texts.{AreWordsOf, file_text}
use Rattle.command_line.specs.declared.command.Solve.{Solve}
use Rattle.solve_reports.specs.Files.{solved_text}
use Rattle.run_endings.specs.Beginnings.{MayRefuseBeginning, MayTakePlace}
use Rattle.run_endings.specs.declared.ending.RunStop.TheVariants.{Refused, NotWritten}
use Rattle.run_endings.specs.Endings.{Ending, IsPut, WasPut}

-- the head of the file that is asked for, after so many rounds
abbrev pub head_of : Solve → ℕ → FileHead
head_of task made = record {
  checkers = task.checkers;
  name = Unlimited task.rule;
  rounds = made;
  starts = no_starts;
}

-- Words that solve the game that is asked for: with one number of turns from which on they enclose every state, with no turn over them that is
-- looser than they are, and at least as tight as their number of rounds in which all states are worked out from the round before. That
-- number is what was asked for, or less where no pair is wider than was asked for.
pub record AreSolved (task : Solve) (words : WordList) : Type 0 where
  pub fitting : AreWordsOf (head_of task words.rounds) words
  pub right : AreRight words
  pub sound : AreSound words.game (words_in_list words)
  pub consistent : AreConsistent words.game (words_in_list words)
  pub tight : AreNoLooser words.game (words_in_list words) (rounds words.game.stakes words.rounds)
  pub last : IsLastRound words.game task.width task.rounds (words_in_list words) words.rounds

-- the file of version 3 that is asked for, with these words
abbrev pub solved_file : Solve → WordList → List ℕ
solved_file task words = file_text Three (head_of task words.rounds) words.list

-- the report on words after so many rounds, whose widest pair is so wide
abbrev pub solved_report : Solve → ℕ → ℤ → List ℕ
solved_report task made widest =
    solved_text (record {
      game = record { checkers = task.checkers; stakes = Unlimited task.rule; match_length = 1 };
      rounds = made;
      workers = task.workers;
      positions = live_positions task.checkers;
      kinds = length (names_of (Unlimited task.rule));
      widest = widest;
      bytes = text_length Three (head_of task made);
    }) task.file

-- The game was solved: a file with words that solve it was written, and the report on them was put.
pub record HasSolved (task : Solve) (before after : List Event) (old new : Output) : Type 0 where
  pub words : WordList
  pub solved : AreSolved task words
  pub file : WritesFile task.file (solved_file task words) before after
  pub widest : ℤ
  pub is_widest : IsWidest words widest
  pub report : IsPut old new (solved_report task words.rounds widest)

-- the game was solved, and the report on it was put, or a front of it
pub record HasToldSolving (task : Solve) (old new : Output) : Type 0 where
  pub words : WordList
  pub solved : AreSolved task words
  pub widest : ℤ
  pub is_widest : IsWidest words widest
  pub report : WasPut old new (solved_report task words.rounds widest)

-- How solving a game ends: it was solved, in place of what might be replaced; or writing failed, before the report or behind it; or it was
-- refused, for what stands where the file is to be written, or for want of memory.
abbrev pub Solves : Solve → Bool → Option (List ℕ) → List Event → List Event → Output → Output
    → Ending → Type 0
Solves task told held before after old new (Ok done) =
    HasSolved task before after old new × MayTakePlace magic told held
Solves task told held before after old new (Err NotWritten) =
    (new ≡ old) ⊎ HasToldSolving task old new
Solves task told held before after old new (Err (Refused refusal)) =
    MayRefuseBeginning magic task.file told held refusal × (new ≡ old)
