-- What the advised plays leave, for each state and roll.
use Rattle.std.specs.Prelude.{◌≡◌, ◌<◌, ℕ, zero, suc, ◌+◌, ◌-◌, ◌*◌, List, length, Option, Some, None, slice_index_or}
use Rattle.position_rank.specs.Placement.{Placement, swap}
use Rattle.position_rank.specs.LiveRanks.{live_rank_of}
use Rattle.roll_table.specs.Rolls.{Dice, all_rolls}
use Rattle.move_rules.specs.declared.payoff.Won.{Won}
use Rattle.move_rules.specs.declared.payoff.Won.TheVariants.{Single, Gammon, Backgammon}
use Rattle.move_rules.specs.Payoff.{points}
use Rattle.turn_rule.specs.Games.{kinds_of}
use Rattle.turn_rule.specs.States.{IsState}
use Rattle.interval_words.specs.Numbers.{state_of}
use Rattle.interval_words.specs.WordLists.{WordList}
use Rattle.best_reply.specs.declared.outcome.Outcome.{Outcome}
use Rattle.best_reply.specs.Tables.{policy_of}

-- the first three numbers stand for wins
abbrev pub win_of_number : ℕ → Option Won
win_of_number zero = Some Single
win_of_number (suc zero) = Some Gammon
win_of_number (suc (suc zero)) = Some Backgammon
win_of_number (suc (suc (suc rank))) = None

-- how the play has won
abbrev pub won_in : Outcome → Option Won
won_in outcome = win_of_number outcome.number

-- the live rank of the other side's position, where the play hasn't won
abbrev pub rank_in : Outcome → ℕ
rank_in outcome = outcome.number - 3

-- how the play that left this won, or else the live rank of the other side's position
pub record IsOutcomeOf (end : Placement) (outcome : Outcome) : Type 0 where
  pub won : won_in outcome ≡ points end
  pub rank : points end ≡ None → rank_in outcome ≡ live_rank_of (swap end)

-- where the outcome of a state and of a roll stands, 21 for each state
abbrev pub outcome_place : ℕ → Placement → ℕ → ℕ → ℕ
outcome_place kinds p k i = state_of kinds p k * 21 + i

-- what stands at the place of a state and of a roll is the outcome of the play that the words advise
abbrev pub AreAdvised : WordList → List Outcome → Type 0
AreAdvised words outcomes =
    (p : Placement) (k i : ℕ) (roll : Dice × ℕ) (none : Outcome)
    → IsState words.game p k → i < length all_rolls → roll ≡ slice_index_or all_rolls i roll
    → outcome_place (kinds_of words.game) p k i < length outcomes
    → IsOutcomeOf (policy_of words p k roll.0)
    (slice_index_or outcomes (outcome_place (kinds_of words.game) p k i) none)

-- those of all states of the positions with a lower live rank than this one, and of each roll
pub record IsAdvisedTo (words : WordList) (rank : ℕ) (outcomes : List Outcome) : Type 0 where
  pub advised : AreAdvised words outcomes
  pub many : length outcomes ≡ rank * kinds_of words.game * 21
