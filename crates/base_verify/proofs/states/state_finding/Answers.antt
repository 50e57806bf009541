use Rattle.std.proofs.Common.{◌≤ℤ◌, ◌<ℤ◌, arith}
use Rattle.std.proofs.lemmas.Int.{ints}
use Rattle.base_verify.proofs.Found.{upper-found}
use Rattle.base_verify.proofs.states.state_finding.Goals as goal

pub returns-then-units-2 : goal.returns-then-units-2
returns-then-units-2 c =
    let stored = c.pair-stored.result in
    let turn = c.turn_of-turn.result in
    let order : stored.lower ≤ℤ turn.lower = grind (arith, ints) in
    let less : stored.upper <ℤ turn.upper = grind (arith, ints) in
    rw c.position-then-units-2.ensures (upper-found c.args.words.now c.args.ends.now c.args.kind stored turn c.upper-then-units-2.result c.upper-then-units-2-2.result c.requires (rw (← c.position.ensures) c.pair-stored.ensures.pair) c.turn_of-turn.ensures c.upper-then-units-2.ensures.upper c.upper-then-units-2-2.ensures.upper order less)
