use Rattle.std.proofs.Common.{[], ◌∷◌, ◌++◌, map, ap, sym, arith, inl}
use Rattle.std.proofs.lemmas.List.{append-nil, drop_all}
use Rattle.std.proofs.lemmas.Result.{err_from_is_err_and}
use Rattle.game_record.specs.declared.line.Line.TheVariants.{Acted}
use Rattle.game_record.specs.Lines.{ending_line}
use Rattle.game_record.proofs.GoOn.{act-keeps, acts-left, can-tell, next-item, on-ends, on-line, on-same, stops-here}
use Rattle.game_record.proofs.moment.Moment.play.Goals as goal

-- the action is the next of the lines that are left
pub act-requires-clause-can : goal.act-requires-clause-can
act-requires-clause-can c =
    let inv = c.loop-action.invariant in
    let left = next-item c.as_slice-action-items.result.now c.loop-action.action-index c.action-item.result c.loop-action-test.true c.action-item.is in
    let on = on-same _ _ _ _ _ _ _ inv.on (acts-left _ _ c.action-item.result c.args.game.now.ending left) in
    can-tell _ _ _ on.ready.0 inv.named inv.score

pub returns-in_err-moment-2-clause-err : goal.returns-in_err-moment-2-clause-err
returns-in_err-moment-2-clause-err c =
    let p = err_from_is_err_and c.from_residual-in_err-moment-2.result c.from_residual-in_err-moment-2.ensures.1 in
    let left = next-item c.as_slice-action-items.result.now c.loop-action.action-index c.action-item.result c.loop-action-test.true c.action-item.is in
    let on = on-same _ _ _ _ _ _ _ c.loop-action.invariant.on (acts-left _ _ c.action-item.result c.args.game.now.ending left) in
    rw (p.1, p.2) (stops-here _ _ _ _ _ _ _ c.in_err-moment-2.field-0.0 on c.in_err-moment-2.ensures.err)

pub loop-action-preserved : goal.loop-action-preserved
loop-action-preserved c =
    let inv = c.loop-action.invariant in
    let left = next-item c.as_slice-action-items.result.now c.loop-action.action-index c.action-item.result c.loop-action-test.true c.action-item.is in
    let on = on-same _ _ _ _ _ _ _ inv.on (acts-left _ _ c.action-item.result c.args.game.now.ending left) in
    let told = c.in_ok-moment-2.ensures.ok in
    let keeps = act-keeps c.loop-action.moment c.action-item.result.player c.action-item.result.what told.0 c.in_ok-moment-2.moment told.2 in
    record {
      on = on-line _ _ _ _ (Acted c.action-item.result) _ _ _ _ _ on told.2 told.1;
      named = rw (keeps.0, keeps.1) inv.named;
      score = rw (keeps.0, keeps.1) inv.score;
    }

pub returns-in_err-next-clause-err : goal.returns-in_err-next-clause-err
returns-in_err-next-clause-err c =
    let p = err_from_is_err_and c.from_residual-in_err-next.result c.from_residual-in_err-next.ensures.1 in
    let left = drop_all c.loop-action.action-index c.as_slice-action-items.result.now (omega arith) in
    let on = on-same _ _ _ _ _ _ _ c.loop-action.invariant.on (ap (λ xs. map Acted xs ++ ending_line c.args.game.now.ending ∷ []) left) in
    rw (p.1, p.2) (on.breaks c.in_err-next.field-0.0 (inl c.in_err-next.ensures.err))

pub returns-clause-ok : goal.returns-clause-ok
returns-clause-ok c =
    let left = drop_all c.loop-action.action-index c.as_slice-action-items.result.now (omega arith) in
    let on = on-same _ _ _ _ _ _ _ c.loop-action.invariant.on (ap (λ xs. map Acted xs ++ ending_line c.args.game.now.ending ∷ []) left) in
    on-ends _ _ _ _ _ (on-line _ _ _ _ (ending_line c.args.game.now.ending) [] c.loop-action.decisions [] c.loop-action.decisions c.in_ok-next.next on c.in_ok-next.ensures.ok (sym (append-nil c.loop-action.decisions)))
