use Rattle.best_reply.specs.ReplyPairs.{turn_by}
use Rattle.best_reply.specs.Tables.{IsFilledTo, policy_of, words_by}
use Rattle.best_reply.proofs.sweep.sweep_follower.Given as goal

-- the positions so far
abbrev pub invariant-loop-rank : goal.invariant-loop-rank
invariant-loop-rank l = IsFilledTo l.words.game (turn_by (policy_of l.words) l.words.game.stakes (words_by l.old)) l.rank l.new
