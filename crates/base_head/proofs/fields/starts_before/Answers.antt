use Rattle.std.proofs.Common.{◌≤◌, ℕ, subst, arith}
use Rattle.cube_actions.specs.declared.name.StakesName.{StakesName}
use Rattle.cube_actions.specs.Scores.{MatchScore}
use Rattle.cube_actions.specs.Starts.{ladder_place}
use Rattle.base_head.specs.Headers.{HasScore, IsLengthOf}
use Rattle.base_head.proofs.Counts.{ladder-few}
use Rattle.base_head.proofs.fields.starts_before.Goals as goal

few : (match_length : ℕ) (score : MatchScore) → HasScore match_length score → ladder_place match_length score ≤ 17
few match_length score has = omega (arith, has.listed, ladder-few match_length has.from has.to)

pub overflow_cast-result : goal.overflow_cast-result
overflow_cast-result c =
    let has = subst (λ (name : StakesName). IsLengthOf name c.args.match_length) c.in-Match.is c.requires in
    omega (arith, c.ladder_place.ensures, few c.args.match_length c.in-Match.score has)

pub returns-in-Match-clause-few : goal.returns-in-Match-clause-few
returns-in-Match-clause-few c =
    let has = subst (λ (name : StakesName). IsLengthOf name c.args.match_length) c.in-Match.is c.requires in
    omega (arith, c.ladder_place.ensures, few c.args.match_length c.in-Match.score has)
