use Rattle.std.proofs.Common.{◌≤◌, length, All, arith}
use Rattle.play_analyser.specs.Sought.{IsNear}
use Rattle.play_analyser.proofs.CubeLosses.{negated-near, all-negated-near, near-at, two-near, two-answers}
use Rattle.play_analyser.proofs.answers.answer_loss.Goals as goal

pub take_loss-requires-clause-taken : goal.take_loss-requires-clause-taken
take_loss-requires-clause-taken c = rw c.as_slice-taken.ensures.value (all-negated-near c.args.taken.now c.for_other_side-theirs.result.items c.for_other_side-theirs.ensures c.requires.taken)

pub loss_among-requires-clause-chosen : goal.loss_among-requires-clause-chosen
loss_among-requires-clause-chosen c =
    let theirs = c.as_slice-taken.result.now in
    let are : All IsNear theirs = rw c.as_slice-taken.ensures.value (all-negated-near c.args.taken.now c.for_other_side-theirs.result.items c.for_other_side-theirs.ensures c.requires.taken) in
    let two : 2 ≤ length theirs = rw c.as_slice-taken.ensures.value (two-answers c.args.taken.now c.for_other_side-theirs.result.items c.args.answer c.in-Beaver.is c.requires.answer c.for_other_side-theirs.ensures) in
    near-at theirs 1 c.index-taken-1.result are two c.index-taken-1.is

pub loss_among-requires-clause-others : goal.loss_among-requires-clause-others
loss_among-requires-clause-others c =
    let theirs = c.as_slice-taken.result.now in
    let are : All IsNear theirs = rw c.as_slice-taken.ensures.value (all-negated-near c.args.taken.now c.for_other_side-theirs.result.items c.for_other_side-theirs.ensures c.requires.taken) in
    let two : 2 ≤ length theirs = rw c.as_slice-taken.ensures.value (two-answers c.args.taken.now c.for_other_side-theirs.result.items c.args.answer c.in-Beaver.is c.requires.answer c.for_other_side-theirs.ensures) in
    two-near c.index-taken-0.result c.neg-pass.result (near-at theirs 0 c.index-taken-0.result are (omega (arith, two)) c.index-taken-0.is) (rw c.neg-pass.ensures (negated-near c.args.pass c.requires.pass))

pub loss_among-requires-in-Pass-clause-others : goal.loss_among-requires-in-Pass-clause-others
loss_among-requires-in-Pass-clause-others c = rw c.as_slice-taken.ensures.value (all-negated-near c.args.taken.now c.for_other_side-theirs.result.items c.for_other_side-theirs.ensures c.requires.taken)
