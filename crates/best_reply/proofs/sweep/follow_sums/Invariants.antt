use Rattle.std.proofs.Common.{◌≡◌, ◌<◌, ℕ, All, length}
use Rattle.position_rank.specs.Placement.{Placement}
use Rattle.position_rank.specs.LiveRanks.{live_rank_of}
use Rattle.turn_rule.specs.States.{IsState}
use Rattle.best_reply.specs.Tables.{IsSmallSum, follow_sum, policy_of, sums_in, words_by}
use Rattle.best_reply.proofs.sweep.follow_sums.Given as goal

-- the kinds so far
abbrev pub invariant-loop-number : goal.invariant-loop-number
invariant-loop-number l = record {
  many : length l.sums.items ≡ l.number;
  small : All IsSmallSum l.sums.items;
  sums : (p : Placement) (k : ℕ) → IsState l.words.game p k → live_rank_of p ≡ l.rank → k < l.number
      → sums_in l.sums.items k ≡ follow_sum (policy_of l.words) l.words.game.stakes (words_by l.bank) p k;
}
