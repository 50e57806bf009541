use Rattle.std.proofs.Common.{◌≡◌, None, Some, inr}
use Rattle.std.proofs.lemmas.Result.{err_from_is_err_and}
use Rattle.cube_actions.specs.Stakes.{kind_at}
use Rattle.turn_rule.proofs.Found.{then-err}
use Rattle.turn_rule.proofs.Values.{turn-plain, turn-doubled}
use Rattle.turn_rule.proofs.value.turn_at.Goals as goal

pub returns-in_err-doubled-in-Some-clause-found : goal.returns-in_err-doubled-in-Some-clause-found
returns-in_err-doubled-in-Some-clause-found g c =
    let s = (g.P.Pairs.seen c.args.pairs.now).source in
    let some : (kind_at c.args.stakes.now c.args.number).double ≡ Some c.in-Some.double = rw (← c.kind.ensures.kind) c.in-Some.is in
    let p = err_from_is_err_and c.from_residual-in_err-doubled-in-Some.result c.from_residual-in_err-doubled-in-Some.ensures.1 in
    rw (p.1, p.2) (then-err s _ _ _ _ _ _ _ _ _ _ _ _ c.in_ok-plain.plain _ c.in_ok-plain.ensures.found (rw c.in_ok-plain.ensures.source at c.in_err-doubled-in-Some.ensures.found)
    (λ damage told met. record { first = inr (c.in_ok-plain.ensures.found.answer.right told, record { double = c.in-Some.double; right = some; meets = met }) }))

pub returns-in-None-clause-found : goal.returns-in-None-clause-found
returns-in-None-clause-found g c =
    let none : (kind_at c.args.stakes.now c.args.number).double ≡ None = rw (← c.kind.ensures.kind) c.in-None.is in
    turn-plain c.args.end (g.P.Pairs.seen c.args.pairs.now).source c.args.stakes.now c.args.ends.now c.args.number _ _ _ _ _ c.in_ok-plain.plain none c.in_ok-plain.ensures.found

pub returns-in_ok-doubled-in-Some-clause-found : goal.returns-in_ok-doubled-in-Some-clause-found
returns-in_ok-doubled-in-Some-clause-found g c =
    let s = (g.P.Pairs.seen c.args.pairs.now).source in
    let some : (kind_at c.args.stakes.now c.args.number).double ≡ Some c.in-Some.double = rw (← c.kind.ensures.kind) c.in-Some.is in
    turn-doubled c.args.end s c.args.stakes.now c.args.ends.now c.args.number _ _ _ _ _ _ _ c.in-Some.double c.in_ok-plain.plain c.in_ok-doubled-in-Some.doubled _ some c.max.ensures
    (rw c.in_ok-plain.ensures.source at c.in_ok-doubled-in-Some.ensures.most) c.in_ok-plain.ensures.found (rw c.in_ok-plain.ensures.source at c.in_ok-doubled-in-Some.ensures.found)
