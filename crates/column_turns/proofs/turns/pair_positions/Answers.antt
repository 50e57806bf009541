use Rattle.std.proofs.Common.{◌≡◌, ◌≢◌, ◌∙◌, ℕ, length, get_or, inl, inr, sym, subst, arith}
use Rattle.std.proofs.lemmas.Bool.{cases_lt}
use Rattle.cube_actions.specs.Stakes.{nothing}
use Rattle.turn_rule.specs.Looks.{IsTurnPair}
use Rattle.column_turns.specs.Turns.{place_in}
use Rattle.column_turns.proofs.turns.pair_positions.Goals as goal

pub returns-clause-turns : goal.returns-clause-turns
returns-clause-turns c = λ source noted place summed i k here below.
    c.loop-i.invariant.turns source noted place summed i k (omega (arith, here, c.loop-i-test.false)) below

pub loop-i-preserved : goal.loop-i-preserved
loop-i-preserved c =
    let stakes = c.args.stakes.now in
    let kinds = length stakes.kinds in
    let last = c.loop-i.i in
    let before = c.loop-i.invariant in
    record {
      room = c.pair_position.ensures.room ∙ before.room;
      turns = λ source noted place summed i k here below. elim (cases_lt i last) [
        | inl earlier ↦ (
            let apart : i ≢ last = omega (arith, earlier) in
            subst (IsTurnPair stakes (place i) k source noted) (sym (c.pair_position.ensures.same i k below apart)) (before.turns source noted place summed i k earlier below))
        | inr from ↦ (
            let is : last ≡ i = omega (arith, here, from) in
            subst (λ (n : ℕ). IsTurnPair stakes (place n) k source noted (get_or c.pair_position.new.pairs (place_in kinds n k) nothing)) is
            (c.pair_position.ensures.turns source noted place c.args.many c.loop-i-test.true summed k below))
      ];
    }
