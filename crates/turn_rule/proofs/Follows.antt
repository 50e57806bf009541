-- What leads to a state that may follow.
use Rattle.std.proofs.Common.{◌≡◌, ℕ, Some, None, inr, refl}
use Rattle.position_rank.specs.Placement.{Placement, swap}
use Rattle.roll_table.specs.Rolls.{Dice, IsRoll}
use Rattle.move_rules.specs.Ends.{legal_ends}
use Rattle.move_rules.specs.Listing.{Among}
use Rattle.move_rules.proofs.Members.{Among-Contains}
use Rattle.move_rules.proofs.EndsExact.{legal_ends-sound}
use Rattle.move_rules.specs.Payoff.{points}
use Rattle.cube_actions.specs.declared.kind.Double.{Double}
use Rattle.cube_actions.specs.declared.kind.Taken.{Taken}
use Rattle.cube_actions.specs.Stakes.{Terms, kind_at}
use Rattle.turn_rule.specs.Looks.{MayFollow, MayFollowTurn}

-- a legal end that doesn't end the game
pub may-follow : (stakes : Terms) (p : Placement) (k : ℕ) (roll : Dice) (q : Placement) → IsRoll roll → Among q (legal_ends p roll) → points q ≡ None → MayFollow stakes p k (swap q) (kind_at stakes k).next
may-follow stakes p k roll q right m on = record {
  roll = roll;
  right = right;
  end = q;
  legal = legal_ends-sound p roll q (Among-Contains q (legal_ends p roll) m);
  left = record { goes_on = on; sides = refl; kind = refl };
}

-- what may follow an answer to the double may follow the turn
pub answer-follows : (stakes : Terms) (p : Placement) (k : ℕ) (double : Double) → (kind_at stakes k).double ≡ Some double → (taken : Taken) → Among taken double.answers.items → (q : Placement) (j : ℕ) → MayFollow stakes p taken.kind q j → MayFollowTurn stakes p k q j
answer-follows stakes p k double is taken m q j may = inr (record { double = double; right = is; taken = taken; answer = Among-Contains taken double.answers.items m; after = may })
