-- The game without a cube: its stakes are valid, and one of its states has one checker a side, each on its point 1.
use Rattle.std.proofs.Common.{rules, [], ◌∷◌, refl, arith}
use Rattle.position_rank.specs.Placement.{Placement, IsLayout, IsLive}
use Rattle.position_rank.specs.Packed.{counts_of}
use Rattle.position_rank.specs.LiveRanks.{are_apart}
use Rattle.position_rank.proofs.LiveLaws.{live-from}
use Rattle.position_rank.specs.Examples.{placed}
use Rattle.cube_actions.specs.Money.{cubeless}
use Rattle.cube_actions.specs.Stakes.{IsValid}
use Rattle.turn_rule.specs.Games.{game_of}
use Rattle.turn_rule.specs.States.{IsState}

pub cubeless-valid : IsValid cubeless
cubeless-valid = search rules

abbrev pub one_each : Placement
one_each = placed (1 ∷ []) (1 ∷ [])

one_on_its_1 : IsLayout (counts_of (1 ∷ []))
unfolding counts_of
one_on_its_1 = record { places = refl; at_least_one = omega arith; at_most_three = omega arith }

live : IsLive one_each
unfolding counts_of are_apart
live = live-from one_each refl

pub one_each-state : IsState (game_of 1 cubeless) one_each 0
unfolding counts_of
one_each-state = record { position = record { mover = one_on_its_1; other = one_on_its_1; same = refl }; many = refl; live = live; kind = omega arith }
