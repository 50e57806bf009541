-- What a game is worth in which one side follows a policy and the other replies at its best, bounded round by round.
use Rattle.std.specs.Prelude.{ℕ, zero, suc, ℤ, pos, ◌*ℤ◌, Option, Some, None, map}
use Rattle.std.specs.Int.{int_max}
use Rattle.position_rank.specs.Placement.{Placement}
use Rattle.roll_table.specs.Rolls.{all_rolls}
use Rattle.directed_fixed.specs.declared.bounds.End.{End}
use Rattle.directed_fixed.specs.Bounds.{at}
use Rattle.directed_fixed.specs.Rounding.{outwards}
use Rattle.cube_actions.specs.declared.kind.Double.{Double}
use Rattle.cube_actions.specs.declared.kind.Taken.{Taken}
use Rattle.cube_actions.specs.Stakes.{Terms, kind_at}
use Rattle.turn_rule.specs.Turn.{Words, worth, least, turn, bound_words}
use Rattle.best_reply.specs.Policies.{Policy}
use Rattle.best_reply.specs.Replies.{Mover, Follower, Replier, sum_by}

-- rolling in a kind that counts so many times, with the policy's plays: the mean over the 36 ways of two dice, rounded outwards
abbrev pub roll_value_by : Policy → End → Terms → Words → Placement → ℕ → ℕ → ℤ
roll_value_by policy end stakes u p k factor =
    outwards end (pos factor *ℤ sum_by all_rolls (worth end (kind_at stakes k) u) (policy p k))

-- after a double the replier chooses what leaves the follower least: to pass, or one of its answers
abbrev pub doubled_by : Policy → End → Terms → Words → Placement → Double → ℤ
doubled_by policy end stakes u p double =
    least (at end double.pass)
    (map (λ (taken : Taken). roll_value_by policy end stakes u p taken.kind taken.factor)
    double.answers.items)

-- with a right to double the follower has the better of rolling at once and of doubling
abbrev pub or_double_by : Policy → End → Terms → Words → Placement → ℤ → Option Double → ℤ
or_double_by policy end stakes u p plain None = plain
or_double_by policy end stakes u p plain (Some double) =
    int_max plain (doubled_by policy end stakes u p double)

-- one turn of the follower: the words before it from the words after it
unfoldable pub turn_by : Policy → Terms → Words → Words
turn_by policy stakes u end p k =
    or_double_by policy end stakes u p (roll_value_by policy end stakes u p k 1)
    (kind_at stakes k).double

-- the words of each state, by who is to move
abbrev pub ReplyWords : Type 0
ReplyWords = Mover → Words

-- The words after so many rounds. In each of them every state takes its turn, the follower's by the policy and the replier's at its best, over the
-- other side's words of the round before.
unfoldable pub reply_rounds : Policy → Terms → ℕ → ReplyWords
reply_rounds policy stakes zero mover = bound_words stakes
reply_rounds policy stakes (suc r) Follower =
    turn_by policy stakes (reply_rounds policy stakes r Replier)
reply_rounds policy stakes (suc r) Replier = turn stakes (reply_rounds policy stakes r Follower)
