use Rattle.std.proofs.lemmas.Bool.{iff_false}
use Rattle.interval_words.specs.WordLists.{words_in_list}
use Rattle.play_analyser.specs.Regrets.{play_pair}
use Rattle.best_reply.specs.Tables.{LeavesStateOfGame}
use Rattle.best_reply.proofs.Lefts.{best-changes, best-of_all, best-of_first, best-stays, item-end}
use Rattle.best_reply.proofs.roll_lefts.first_best.Goals as goal
use Rattle.best_reply.proofs.roll_lefts.first_best.Goals.{then-is_better, else-is_better}

pub left_over-most-requires-clause-state : goal.left_over-most-requires-clause-state
left_over-most-requires-clause-state c = item-end (LeavesStateOfGame c.args.words.now.game c.args.kind.now.next) c.args.lefts.now c.requires.states 0 c.index-lefts-0.result c.requires.some c.index-lefts-0.is

pub left_over-pair-requires-clause-state : goal.left_over-pair-requires-clause-state
left_over-pair-requires-clause-state c = item-end (LeavesStateOfGame c.args.words.now.game c.args.kind.now.next) c.args.lefts.now c.requires.states c.loop-i.i c.index-lefts-i.result c.loop-i-test.true c.index-lefts-i.is

pub loop-i-init : goal.loop-i-init
loop-i-init c = best-of_first (play_pair c.args.kind.now (words_in_list c.args.words.now)) c.args.lefts.now c.index-lefts-0.result c.left_over-most.result c.requires.some c.index-lefts-0.is c.left_over-most.ensures

pub loop-i-preserved : goal.loop-i-preserved
loop-i-preserved c =
    let pair = play_pair c.args.kind.now (words_in_list c.args.words.now) in
    let lefts = c.args.lefts.now in
    let i = c.loop-i.i in
    let test = c.is_better.ensures in
    elim c.if-is_better.branch [
      | then-is_better w ↦ rw (w.place-is, w.most-is) (best-changes pair lefts i c.loop-i.place c.loop-i.most c.loop-i.invariant c.index-lefts-i.result c.left_over-pair.result c.loop-i-test.true c.index-lefts-i.is c.left_over-pair.ensures (test.0 w.if-is_better.true))
      | else-is_better w ↦ rw (w.place-is, w.most-is) (best-stays pair lefts i c.loop-i.place c.loop-i.most c.loop-i.invariant c.index-lefts-i.result c.left_over-pair.result c.loop-i-test.true c.index-lefts-i.is c.left_over-pair.ensures (iff_false test w.if-is_better.false))
    ]

pub returns : goal.returns
returns c = best-of_all (play_pair c.args.kind.now (words_in_list c.args.words.now)) c.args.lefts.now c.loop-i.i c.loop-i.place c.loop-i.most c.loop-i-test.false c.loop-i.invariant
