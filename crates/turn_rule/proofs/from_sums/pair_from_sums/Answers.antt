use Rattle.directed_fixed.specs.declared.bounds.End.{End}
use Rattle.directed_fixed.specs.declared.bounds.End.TheVariants.{Lower, Upper}
use Rattle.turn_rule.specs.Turn.{Words, turn}
use Rattle.turn_rule.specs.Looks.{MayFollowTurn}
use Rattle.turn_rule.proofs.Values.{found-looked, paired, turn-order}
use Rattle.turn_rule.proofs.from_sums.pair_from_sums.Goals as goal

pub returns : goal.returns
returns c = record {
  turn = λ s noted p fits state within lower upper.
      let stakes = c.args.stakes.now in
      let k = c.args.kind in
      let states = MayFollowTurn stakes p k in
      let low = found-looked (λ damage. ⊥) Lower s noted states s.bound (λ (u : Words). turn stakes u Lower p k) c.turn_from_sums.result (c.turn_from_sums.ensures.found s noted p fits lower) in
      let high = found-looked (λ damage. ⊥) Upper s noted states s.bound (λ (u : Words). turn stakes u Upper p k) c.turn_from_sums-2.result (c.turn_from_sums-2.ensures.found s noted p fits upper) in
      (paired (λ damage. ⊥) s states s.bound (λ (end : End) (u : Words). turn stakes u end p k) noted noted noted 0 0 0 c.turn_from_sums.result c.turn_from_sums-2.result c.pair_of.result c.pair_of.ensures.lower c.pair_of.ensures.upper
      (λ told. turn-order s stakes c.bound-bound.ensures.valid fits noted.words (within told) p k state) low high).answer;
}
