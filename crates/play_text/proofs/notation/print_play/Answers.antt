use Rattle.std.proofs.Common.{◌≡◌, rules, lit<, refl, arith}
use Rattle.std.proofs.lemmas.Bool.Decides.{nat_tests}
use Rattle.move_rules.proofs.FaultLaws.{next-of}
use Rattle.play_text.proofs.NotationPrints.{begins-with, print-start, print-one}
use Rattle.play_text.proofs.notation.print_play.Goals as goal
use Rattle.play_text.proofs.notation.print_play.Goals.{then-is_empty, else-is_empty}

pub loop-step-init : goal.loop-step-init
loop-step-init c =
    let moves = c.args.play.now.items in
    let all : c.deref-step-items.result.now ≡ moves = search rules in
    rw all (print-start c.args.position.now moves c.requires c.if-is_empty.text.bytes
    (λ none. elim c.if-is_empty.branch [
      | then-is_empty w ↦ (let dash = w.push.ensures.ascii (lit< tt) in rw (w.text-is, dash, c.new-text.ensures) refl)
      | else-is_empty w ↦ (let some = w.if-is_empty.ensures in absurd (grind (arith, nat_tests, none, some)))
    ])
    (λ more. elim c.if-is_empty.branch [
      | then-is_empty w ↦ (let none = w.if-is_empty.ensures in absurd (grind (arith, nat_tests, more, none)))
      | else-is_empty w ↦ rw (w.text-is, c.new-text.ensures) refl
    ]))

pub after-now-requires-clause-die : goal.after-now-requires-clause-die
after-now-requires-clause-die c =
    let next = next-of c.deref-step-items.result.now c.loop-step.step-index (record { from = 0; die = 0 }) c.loop-step-test.true in
    (begins-with _ _ _ (rw next at c.loop-step.invariant.later)).die

pub loop-step-preserved : goal.loop-step-preserved
loop-step-preserved c =
    let next = next-of c.deref-step-items.result.now c.loop-step.step-index (record { from = 0; die = 0 }) c.loop-step-test.true in
    print-one _ _ _ _ _ c.loop-step.step-index _ _ c.as_str.result.now _ _ c.loop-step.invariant next (search rules) (search rules) c.push_word.ensures c.after-now.ensures
