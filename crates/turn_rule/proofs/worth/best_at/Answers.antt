use Rattle.std.proofs.Common.{◌≡◌, ◌∙◌, take, sym, subst, arith}
use Rattle.std.proofs.lemmas.List.{take_all}
use Rattle.std.proofs.lemmas.Result.{err_from_is_err_and}
use Rattle.turn_rule.specs.Found.{LeavesState}
use Rattle.turn_rule.proofs.Found.{then-err}
use Rattle.turn_rule.proofs.Plays.{first-play, next-play, stopped-play}
use Rattle.turn_rule.proofs.worth.best_at.Goals as goal

pub worth_at-requires-clause-state : goal.worth_at-requires-clause-state
worth_at-requires-clause-state g c =
    let s = (g.P.Pairs.seen c.args.pairs.now).source in
    subst (LeavesState s c.args.kind.now.next) (sym c.index-ends-0.is) (c.requires.states 0 c.index-ends-0.result c.requires.some)

pub worth_at-requires-clause-wins : goal.worth_at-requires-clause-wins
worth_at-requires-clause-wins g c = c.requires.wins

pub returns-in_err-best-clause-source : goal.returns-in_err-best-clause-source
returns-in_err-best-clause-source g c = c.worth_at.ensures.source

pub returns-in_err-best-clause-stays : goal.returns-in_err-best-clause-stays
returns-in_err-best-clause-stays g c = c.worth_at.ensures.stays

pub worth_at-requires-in-loop-i-clause-state : goal.worth_at-requires-in-loop-i-clause-state
worth_at-requires-in-loop-i-clause-state g c =
    let s = (g.P.Pairs.seen c.args.pairs.now).source in
    rw c.loop-i.invariant.source (subst (LeavesState s c.args.kind.now.next) (sym c.index-ends-i.is) (c.requires.states c.loop-i.i c.index-ends-i.result c.loop-i-test.true))

pub worth_at-requires-in-loop-i-clause-wins : goal.worth_at-requires-in-loop-i-clause-wins
worth_at-requires-in-loop-i-clause-wins g c = rw c.loop-i.invariant.source c.requires.wins

pub returns-in_err-worth_at-clause-source : goal.returns-in_err-worth_at-clause-source
returns-in_err-worth_at-clause-source g c = c.worth_at-in-loop-i.ensures.source ∙ c.loop-i.invariant.source

pub returns-in_err-worth_at-clause-stays : goal.returns-in_err-worth_at-clause-stays
returns-in_err-worth_at-clause-stays g c = c.worth_at-in-loop-i.ensures.stays ∙ c.loop-i.invariant.stays

pub returns-clause-source : goal.returns-clause-source
returns-clause-source g c = c.loop-i.invariant.source

pub returns-clause-stays : goal.returns-clause-stays
returns-clause-stays g c = c.loop-i.invariant.stays

pub returns-in_err-worth_at-clause-found : goal.returns-in_err-worth_at-clause-found
returns-in_err-worth_at-clause-found g c =
    let s = (g.P.Pairs.seen c.args.pairs.now).source in
    let p = err_from_is_err_and c.from_residual-in_err-worth_at.result c.from_residual-in_err-worth_at.ensures.1 in
    rw (p.1, p.2) (then-err s _ _ _ _ _ _ _ _ _ _ _ _ c.loop-i.best _ c.loop-i.invariant.found (rw c.loop-i.invariant.source at c.in_err-worth_at.ensures.found)
    (λ damage told met. stopped-play c.args.end s c.args.kind.now c.args.ends.now c.loop-i.i c.index-ends-i.result damage c.loop-i-test.true c.index-ends-i.is (c.loop-i.invariant.found.answer.right told) met))

pub loop-i-preserved : goal.loop-i-preserved
loop-i-preserved g c =
    let s = (g.P.Pairs.seen c.args.pairs.now).source in
    record {
      source = c.worth_at-in-loop-i.ensures.source ∙ c.loop-i.invariant.source;
      stays = c.worth_at-in-loop-i.ensures.stays ∙ c.loop-i.invariant.stays;
      found = next-play c.args.end s c.args.kind.now c.args.ends.now _ _ _ _ _ _ _ c.loop-i.i c.index-ends-i.result c.loop-i.best c.in_ok-worth_at.field-0 _ (omega (arith, c.loop-i.auto.i)) c.loop-i-test.true c.index-ends-i.is c.max-best.ensures
          c.loop-i.invariant.found (rw c.loop-i.invariant.source at c.in_ok-worth_at.ensures.found);
    }

pub returns-clause-found : goal.returns-clause-found
returns-clause-found g c =
    let ends = c.args.ends.now in
    let all : take c.loop-i.i ends ≡ ends = take_all c.loop-i.i ends c.loop-i-test.false in
    rw all at c.loop-i.invariant.found

pub loop-i-init : goal.loop-i-init
loop-i-init g c =
    let s = (g.P.Pairs.seen c.args.pairs.now).source in
    record {
      source = c.worth_at.ensures.source;
      stays = c.worth_at.ensures.stays;
      found = first-play c.args.end s c.args.kind.now c.args.ends.now _ _ _ _ _ c.index-ends-0.result c.in_ok-best.best c.requires.some c.index-ends-0.is c.in_ok-best.ensures.found;
    }
