use Rattle.std.proofs.Common.{◌<◌, ◌+◌, ◌*◌, ◌∙◌, ℕ, length, get_or, set, get_or-set_same, get_or-set_other, below_more, sym, subst, arith}
use Rattle.std.proofs.lemmas.List.{length-set}
use Rattle.directed_fixed.specs.declared.bounds.End.TheVariants.{Lower, Upper}
use Rattle.cube_actions.specs.Stakes.{nothing}
use Rattle.turn_rule.specs.Looks.{IsTurnPair}
use Rattle.column_turns.specs.Turns.{place_in}
use Rattle.column_turns.proofs.Places.{places-same, place-below}
use Rattle.column_turns.proofs.SlicesFound.{slice-found}
use Rattle.column_turns.proofs.turns.pair_position.Goals as goal

pub returns-clause-turns : goal.returns-clause-turns
returns-clause-turns c = λ source noted place many here summed k below.
    c.loop-kind.invariant.turns source noted place many here summed k (omega (arith, below, c.loop-kind-test.false, c.kinds-kinds.ensures.kinds))

pub loop-kind-preserved : goal.loop-kind-preserved
loop-kind-preserved c =
    let stakes = c.args.stakes.now in
    let kinds = length stakes.kinds in
    let i = c.args.i in
    let kind = c.loop-kind.kind in
    let before = c.loop-kind.invariant in
    let pairs = c.loop-kind.pairs in
    let x = c.pair_from_sums.result in
    let in_kinds : kind < kinds = omega (arith, c.loop-kind-test.true, c.kinds-kinds.ensures.kinds) in
    let inside : place_in kinds i kind < (i + 1) * kinds = place-below kinds i (i + 1) kind (omega arith) in_kinds in
    let fits : place_in kinds i kind < length pairs = omega (arith, inside, c.requires.pairs, before.room) in
    rw c.kinds-kinds.ensures.kinds
    (record {
      room = length-set pairs (place_in kinds i kind) x ∙ before.room;
      turns = λ source noted place many here summed.
          below_more (λ (k : ℕ). IsTurnPair stakes (place i) k source noted (get_or (set pairs (place_in kinds i kind) x) (place_in kinds i k) nothing)) kind
          (λ k below.
          let within : k < kinds = omega (arith, below, in_kinds) in
          subst (IsTurnPair stakes (place i) k source noted)
          (sym (get_or-set_other pairs (place_in kinds i kind) (place_in kinds i k) x nothing (λ e. let same = places-same kinds i i k kind within in_kinds e in omega (arith, below, same.1))))
          (before.turns source noted place many here summed k below))
          (subst (IsTurnPair stakes (place i) kind source noted) (sym (get_or-set_same pairs (place_in kinds i kind) x nothing fits))
          (c.pair_from_sums.ensures.turn source noted (place i) summed.fits (summed.states i kind here in_kinds) summed.within
          (slice-found Lower source noted stakes place many i c.kinds-kinds.result c.args.lower.now here c.kinds-kinds.ensures.kinds summed.low)
          (slice-found Upper source noted stakes place many i c.kinds-kinds.result c.args.upper.now here c.kinds-kinds.ensures.kinds summed.high)));
      same = λ a k below apart.
          get_or-set_other pairs (place_in kinds i kind) (place_in kinds a k) x nothing (λ e. apart (places-same kinds a i k kind below in_kinds e).0) ∙ before.same a k below apart;
    })
