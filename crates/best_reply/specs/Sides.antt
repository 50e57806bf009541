-- Both sides' pairs, round by round.
use Rattle.std.specs.Prelude.{ℕ, List}
use Rattle.position_rank.specs.LiveRanks.{live_positions}
use Rattle.turn_rule.specs.declared.game.Game.{Game}
use Rattle.turn_rule.specs.Games.{IsGame}
use Rattle.turn_rule.specs.States.{Agree}
use Rattle.turn_rule.specs.Turn.{turn}
use Rattle.column_turns.specs.Columns.{ColumnPairs, IsRoomOf}
use Rattle.interval_words.specs.WordLists.{WordList}
use Rattle.best_reply.specs.Outcomes.{IsAdvisedTo}
use Rattle.best_reply.specs.declared.outcome.Outcome.{Outcome}
use Rattle.best_reply.specs.declared.sweep.Banks.{Banks}
use Rattle.best_reply.specs.Replies.{Mover, Follower, Replier}
use Rattle.best_reply.specs.ReplyPairs.{ReplyWords, reply_rounds, turn_by}
use Rattle.best_reply.specs.Tables.{IsBankOf, IsFilledTo, IsRightBank, policy_of, words_by}

abbrev pub both_words : Banks → ReplyWords
both_words both Follower = words_by both.follow
both_words both Replier = words_by both.reply

-- each state's turn, for either side to move, over the other side's words
abbrev pub turned_words : WordList → ReplyWords → ReplyWords
turned_words words u Follower = turn_by (policy_of words) words.game.stakes (u Replier)
turned_words words u Replier = turn words.game.stakes (u Follower)

-- there is a pair for each state on both sides
pub record AreBanksOf (game : Game) (both : Banks) : Type 0 where
  pub follow : IsBankOf game both.follow
  pub reply : IsBankOf game both.reply

-- and each is within the bound, lower at most upper
pub record AreRightBanks (game : Game) (both : Banks) : Type 0 where
  pub follow : IsRightBank game both.follow
  pub reply : IsRightBank game both.reply

-- every state has taken its turn, for either side to move
pub record AreSwept (words : WordList) (old new : Banks) : Type 0 where
  pub follow : IsFilledTo words.game (turned_words words (both_words old) Follower)
      (live_positions words.game.checkers) new.follow
  pub reply : IsFilledTo words.game (turned_words words (both_words old) Replier)
      (live_positions words.game.checkers) new.reply

-- the words that advise, and both sides' pairs
pub record ReplyState : Type 0 where
  pub words : WordList
  pub both : Banks

-- both sides' words are those after so many rounds
abbrev pub AreReplyRounds : ReplyState → ℕ → Type 0
AreReplyRounds state r =
    (mover : Mover)
    → Agree state.words.game (both_words state.both mover)
    (reply_rounds (policy_of state.words) state.words.game.stakes r mover)

-- each state has taken its turn over the other side's words
abbrev pub IsReplyTurned : ReplyState → ReplyState → Type 0
IsReplyTurned old new =
    (mover : Mover)
    → Agree old.words.game (both_words new.both mover)
    (turned_words old.words (both_words old.both) mover)

-- a table whose next round may be made: the advised plays, right pairs, and room for a column and for the next pairs
pub record IsReplyReady (words : WordList) (advice : List Outcome) (column : ColumnPairs)
    (now next : Banks) : Type 0 where
  pub game : IsGame words.game
  pub advised : IsAdvisedTo words (live_positions words.game.checkers) advice
  pub columns : IsRoomOf words.game column
  pub right : AreRightBanks words.game now
  pub room : AreBanksOf words.game next
