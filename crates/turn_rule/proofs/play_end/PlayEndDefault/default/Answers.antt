-- By computation.
use Rattle.std.proofs.Common.{refl, None, sym, subst}
use Rattle.position_rank.specs.Placement.{Placement}
use Rattle.position_rank.specs.Packed.{counts_of, start_counts}
use Rattle.position_rank.specs.Ranks.{choose, rising_places}
use Rattle.turn_rule.specs.PlayEnds.{IsPlayEnd}
use Rattle.turn_rule.proofs.play_end.PlayEndDefault.default.Goals as goal

one_each : IsPlayEnd None (record { mover = start_counts 1; other = start_counts 1 }) 648
unfolding counts_of choose rising_places
one_each = record { won_is = refl; square_is = refl }

pub invariant_of-result : goal.invariant_of-result
invariant_of-result c = subst (λ (p : Placement). IsPlayEnd None p 648) (sym c.start.ensures.start) one_each
