-- How many checkers a side a position has, and how many are asked for.
use Rattle.std.specs.Prelude.{◌≡◌, ◌≢◌, ℕ, sum}
use Rattle.position_rank.specs.Placement.{Placement}
use Rattle.cube_actions.specs.declared.name.MoneyRule.TheVariants.{Cubeless}
use Rattle.cube_actions.specs.declared.name.StakesName.TheVariants.{Unlimited}
use Rattle.equity_report.specs.declared.refusal.Refusal.{Refusal}
use Rattle.equity_report.specs.declared.refusal.Refusal.TheVariants.{Base}
use Rattle.equity_report.specs.declared.refusal.Wanted.TheVariants.{Checkers}

-- the position's number is wanted, and what is found is the game without a cube of the number that is asked for
abbrev pub other_checkers : ℕ → Placement → Refusal
other_checkers checkers p =
    Base (Checkers (sum p.mover))
    (record { checkers = checkers; stakes = Unlimited Cubeless; match_length = 1 })

-- the two differ, and this refusal tells it
pub record IsOfOtherCheckers (checkers : ℕ) (p : Placement) (refusal : Refusal) : Type 0 where
  pub other : sum p.mover ≢ checkers
  pub told : refusal ≡ other_checkers checkers p
