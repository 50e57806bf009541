use Rattle.std.proofs.Common.{◌≡◌, ◌≤◌, List, Option, Some, inr, length, subst, sym, arith}
use Rattle.std.proofs.lemmas.Result.{err_from_is_err_and}
use Rattle.directed_fixed.specs.Bounds.{Bounds}
use Rattle.cube_actions.specs.declared.kind.Double.{Double}
use Rattle.cube_actions.specs.Stakes.{kind_at}
use Rattle.turn_rule.specs.Looks.{of_roll}
use Rattle.turn_rule.proofs.Found.{then-err, then-ok}
use Rattle.play_analyser.specs.Advice.{IsActionBy, IsAdviceOn, taken_of}
use Rattle.play_analyser.specs.Sought.{ArePairsFor, of_answer}
use Rattle.play_analyser.proofs.PairLists.{pair-later, pairs-length}
use Rattle.play_analyser.proofs.CubeLosses.{each-state, right-double, roll-tightens, taken-near}
use Rattle.play_analyser.proofs.advice.cube_advice_of.Goals as goal

pub returns-in_err-taken-in-Some-clause-looked : goal.returns-in_err-taken-in-Some-clause-looked
returns-in_err-taken-in-Some-clause-looked g c =
    let s = (g.P.Pairs.seen c.args.pairs.now).source in
    let some : (kind_at c.args.stakes.now c.args.kind).double ≡ Some c.in-Some.double = rw (← c.kind.ensures.kind) c.in-Some.is in
    let p = err_from_is_err_and c.from_residual-in_err-taken-in-Some.result c.from_residual-in_err-taken-in-Some.ensures.1 in
    rw (p.1, p.2) (then-err s _ _ _ _ _ _ _ _ _ _ _ _ c.in_ok-no_double.no_double _ c.in_ok-no_double.ensures.looked (rw c.in_ok-no_double.ensures.source at c.in_err-taken-in-Some.ensures.looked)
    (λ damage told met. record { first = inr (c.in_ok-no_double.ensures.looked.answer.right told, record { double = c.in-Some.double; right = some; meets = met }) }))

pub action_of-action-requires-clause-taken : goal.action_of-action-requires-clause-taken
action_of-action-requires-clause-taken g c =
    let some : (kind_at c.args.stakes.now c.args.kind).double ≡ Some c.in-Some.double = rw (← c.kind.ensures.kind) c.in-Some.is in
    rw c.as_slice.ensures.value (taken-near (g.P.Pairs.seen c.args.pairs.now).source c.args.stakes.now c.kind.ensures.valid c.requires.stakes c.args.ends.now c.args.kind c.requires.state c.in-Some.double some _ c.in_ok-taken-in-Some.taken.items
    (rw c.in_ok-no_double.ensures.source at c.in_ok-taken-in-Some.ensures.looked).answer)

pub action_of-action-requires-clause-some : goal.action_of-action-requires-clause-some
action_of-action-requires-clause-some g c =
    let s = (g.P.Pairs.seen c.args.pairs.now).source in
    let some : (kind_at c.args.stakes.now c.args.kind).double ≡ Some c.in-Some.double = rw (← c.kind.ensures.kind) c.in-Some.is in
    let right = right-double s c.args.stakes.now c.kind.ensures.valid c.requires.stakes c.args.ends.now c.args.kind c.requires.state c.in-Some.double some in
    let many = pairs-length s (of_answer c.args.stakes.now c.args.ends.now) c.in-Some.double.answers.items _ c.in_ok-taken-in-Some.taken.items (rw c.in_ok-no_double.ensures.source at c.in_ok-taken-in-Some.ensures.looked).answer in
    let one : 1 ≤ length c.in_ok-taken-in-Some.taken.items = omega (arith, many, right.some) in
    rw c.as_slice.ensures.value one

pub returns-in_ok-taken-in-Some-clause-looked : goal.returns-in_ok-taken-in-Some-clause-looked
returns-in_ok-taken-in-Some-clause-looked g c =
    let s = (g.P.Pairs.seen c.args.pairs.now).source in
    let stakes = c.args.stakes.now in
    let p = c.args.ends.now in
    let k = c.args.kind in
    let double = c.in-Some.double in
    let last = (g.P.Pairs.seen c.answer_pairs.new.pairs).notes in
    let action = c.action_of-action.result in
    let rolling = c.in_ok-no_double.no_double in
    let some : (kind_at stakes k).double ≡ Some double = rw (← c.kind.ensures.kind) c.in-Some.is in
    let taken_is : taken_of action ≡ c.in_ok-taken-in-Some.taken.items = rw (← c.as_slice.ensures.value) c.action_of-action.ensures.taken in
    then-ok s _ _ _ _ _ _ _ _ _ _ _ _ rolling c.in_ok-taken-in-Some.taken _ c.in_ok-no_double.ensures.looked
    (rw c.in_ok-no_double.ensures.source at c.in_ok-taken-in-Some.ensures.looked)
    (λ tighter one are. record {
      no_double = pair-later s (of_roll stakes p k 1) (roll-tightens s stakes c.kind.ensures.valid c.requires.stakes p (each-state s stakes c.kind.ensures.valid c.requires.stakes p k c.requires.state double some) k 1 c.requires.state.kind) _ last tighter rolling one;
      action = subst (λ (o : Option Double). IsAdviceOn o (Some action) (λ d a. IsActionBy (λ answers pairs. ArePairsFor (of_answer stakes p) answers s last pairs) rolling d a)) (sym some)
          (record {
            taken = subst (λ (pairs : List Bounds). ArePairsFor (of_answer stakes p) double.answers.items s last pairs) (sym taken_is) are;
            pass = c.action_of-action.ensures.pass;
            advised = c.action_of-action.ensures.action;
          });
    })
