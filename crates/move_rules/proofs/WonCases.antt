-- How a game was won, case by case.
use Rattle.std.proofs.Common.{◌≡◌, ◌<◌, ◌≤◌, Bool, cond, nat_lt, slice_index, sum, Option, Some, None}
use Rattle.std.proofs.lemmas.Bool.{lt-ltb, le-ltb}
use Rattle.move_rules.specs.declared.payoff.Won.{Won}
use Rattle.move_rules.specs.declared.payoff.Won.TheVariants.{Single, Gammon, Backgammon}
use Rattle.move_rules.specs.Payoff.{points}
use Rattle.position_rank.specs.Placement.{Placement, above}

-- the answer to three tests: a checker of the mover isn't off, the other side has one off, it has one in the winner's home
abbrev won_by : Bool → Bool → Bool → Option Won
won_by left off home = cond left None (cond off (Some Single) (cond home (Some Backgammon) (Some Gammon)))

module _ (p : Placement) where
  abbrev off : Bool
  off = nat_lt 0 (slice_index p.other 0)

  abbrev home : Bool
  home = nat_lt 0 (above p.other 18)

  pub not-won : slice_index p.mover 0 < sum p.mover → points p ≡ None
  not-won some = λ i. won_by (lt-ltb (slice_index p.mover 0) (sum p.mover) some i) off home

  pub single : sum p.mover ≤ slice_index p.mover 0 → 0 < slice_index p.other 0 → points p ≡ Some Single
  single all one = λ i. won_by (le-ltb (slice_index p.mover 0) (sum p.mover) all i) (lt-ltb 0 (slice_index p.other 0) one i) home

  pub backgammon : sum p.mover ≤ slice_index p.mover 0 → slice_index p.other 0 ≤ 0 → 0 < above p.other 18 → points p ≡ Some Backgammon
  backgammon all none one = λ i. won_by (le-ltb (slice_index p.mover 0) (sum p.mover) all i) (le-ltb 0 (slice_index p.other 0) none i) (lt-ltb 0 (above p.other 18) one i)

  pub gammon : sum p.mover ≤ slice_index p.mover 0 → slice_index p.other 0 ≤ 0 → above p.other 18 ≤ 0 → points p ≡ Some Gammon
  gammon all none outside = λ i. won_by (le-ltb (slice_index p.mover 0) (sum p.mover) all i) (le-ltb 0 (slice_index p.other 0) none i) (le-ltb 0 (above p.other 18) outside i)
