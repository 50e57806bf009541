use Rattle.std.proofs.Common.{◌<◌, ◌≤◌, ◌∙◌, ◌∷◌, [], length, length-append, List, ap, sym, subst, arith}
use Rattle.position_rank.specs.Placement.{Placement}
use Rattle.turn_rule.specs.States.{IsState}
use Rattle.best_reply.specs.Outcomes.{IsOutcomeOf}
use Rattle.best_reply.specs.Tables.{RollAt, policy_of, weighted_kept}
use Rattle.best_reply.proofs.OutcomeLemmas.{advised-more}
use Rattle.best_reply.proofs.RollSums.{IsKept, kept-at, kept-many}
use Rattle.best_reply.proofs.position_lefts.PositionLefts.push_advised.Goals as goal

pub advised-requires : goal.advised-requires
advised-requires c =
    let kept : IsKept c.self.inside.position c.loop-one.one-index c.one-item.result = kept-at c.self.inside.position c.self.inside.kept.items c.loop-one.one-index c.one-item.result c.self.invariant
    (subst (λ (xs : List RollAt). c.loop-one.one-index < length xs) c.as_slice-one-items.ensures.value c.loop-one-test.true) (rw (← c.as_slice-one-items.ensures.value) c.one-item.is) in
    subst (λ (p : Placement). IsState c.args.words.now.game p c.args.number) (sym c.self.view_is ∙ sym kept.position) c.requires.state

pub loop-one-preserved : goal.loop-one-preserved
loop-one-preserved c =
    let kept : IsKept c.self.inside.position c.loop-one.one-index c.one-item.result = kept-at c.self.inside.position c.self.inside.kept.items c.loop-one.one-index c.one-item.result c.self.invariant
    (subst (λ (xs : List RollAt). c.loop-one.one-index < length xs) c.as_slice-one-items.ensures.value c.loop-one-test.true) (rw (← c.as_slice-one-items.ensures.value) c.one-item.is) in
    let words = c.args.words.now in
    let one = c.one-item.result in
    let right : IsOutcomeOf (policy_of words c.args.self.now c.args.number one.roll) c.of.result =
    subst (λ (end : Placement). IsOutcomeOf end c.of.result) (c.advised.ensures.end ∙ ap (λ (p : Placement). policy_of words p c.args.number one.roll) (kept.position ∙ c.self.view_is)) c.of.ensures in
    record {
      advised = advised-more words c.loop-one.outcomes.items c.push.new.self.items c.args.self.now c.args.number c.loop-one.one-index (weighted_kept one) c.of.result c.loop-one.invariant.advised c.requires.state kept.here kept.weight c.loop-one.invariant.many right c.in_ok-push.ensures.items;
      many = omega (arith, ap length c.in_ok-push.ensures.items ∙ length-append c.loop-one.outcomes.items (c.of.result ∷ []), c.loop-one.invariant.many);
    }

pub returns-clause-many : goal.returns-clause-many
returns-clause-many c =
    let kept = c.self.inside.kept.items in
    let past : length kept ≤ c.loop-one.one-index = subst (λ (xs : List RollAt). length xs ≤ c.loop-one.one-index) c.as_slice-one-items.ensures.value c.loop-one-test.false in
    let upto : c.loop-one.one-index ≤ length kept = subst (λ (xs : List RollAt). c.loop-one.one-index ≤ length xs) c.as_slice-one-items.ensures.value c.loop-one.auto.one-index-end in
    omega (arith, past, upto, kept-many c.self.inside.position c.self.inside.kept.items c.self.invariant, c.loop-one.invariant.many)
