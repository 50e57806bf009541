-- The end of a play, kept as the other side sees it.
use Rattle.std.specs.Prelude.{◌≡◌, ℕ, Option}
use Rattle.position_rank.specs.Placement.{Placement, swap}
use Rattle.position_rank.specs.Ranks.{square_rank_of}
use Rattle.move_rules.specs.declared.payoff.Won.{Won}
use Rattle.move_rules.specs.Payoff.{points}

-- the end as the mover sees it
abbrev pub mover_view : Placement → Placement
mover_view theirs = swap theirs

-- how the game was won, and the other side's square rank
pub record IsPlayEnd (won : Option Won) (theirs : Placement) (square : ℕ) : Type 0 where
  pub won_is : won ≡ points (mover_view theirs)
  pub square_is : square ≡ square_rank_of theirs
