use Rattle.std.proofs.Common.{◌∙◌, ◌+◌, ◌<◌, length, take, sym, subst, arith}
use Rattle.std.proofs.lemmas.List.{drop-set-lt}
use Rattle.std.proofs.lemmas.List.Elements.{All-set}
use Rattle.std.proofs.lemmas.Result.{err_from_is_err_and}
use Rattle.turn_rule.proofs.Found.{then-ok, then-err}
use Rattle.turn_rule.proofs.MetFirst.{met-at}
use Rattle.record_analysis.specs.declared.analysis.Judged.{Judged}
use Rattle.record_analysis.specs.Analyses.{BestCanBeMade, IsSmallJudged}
use Rattle.record_analysis.specs.Judging.{CanBeJudged, IsAt, MeetsOnDecision}
use Rattle.record_analysis.proofs.Judgings.{drop-next, judged-undamaged, judges-more, judges-some, rest-at}
use Rattle.record_analysis.proofs.judging.judge_list.Goals as goal

pub judged_by-requires-clause-can : goal.judged_by-requires-clause-can
judged_by-requires-clause-can g c =
    let s = (g.P.Pairs.seen c.args.pairs.now).source in
    let olds = c.args.list.now in
    let news = c.loop-i.list in
    let i = c.loop-i.i in
    let d = c.index-list-i.result in
    let there : i < length news = omega (arith, c.loop-i.auto.list, c.loop-i-test.true) in
    let here : i < length olds = omega (arith, c.loop-i.auto.list, c.loop-i-test.true) in
    rw c.loop-i.invariant.source
    (subst (λ (x : Judged). IsAt c.args.score x → CanBeJudged s c.args.stakes.now x.decision) (rest-at olds news i d here there c.loop-i.invariant.rest) (c.requires.can i d here))

pub returns-in_err-list-clause-looked : goal.returns-in_err-list-clause-looked
returns-in_err-list-clause-looked g c =
    let s = (g.P.Pairs.seen c.args.pairs.now).source in
    let olds = c.args.list.now in
    let news = c.loop-i.list in
    let i = c.loop-i.i in
    let d = c.index-list-i.result in
    let there : i < length news = omega (arith, c.loop-i.auto.list, c.loop-i-test.true) in
    let here : i < length olds = omega (arith, c.loop-i.auto.list, c.loop-i-test.true) in
    let p = err_from_is_err_and c.from_residual.result c.from_residual.ensures.1 in
    rw (p.1, p.2) (then-err s _ _ _ _ _ _ _ _ _ _ _ _ tt _ c.loop-i.invariant.found (rw c.loop-i.invariant.source at c.in_err-list.ensures.looked)
    (λ damage told met. met-at s _ _ damage olds i d here (c.index-list-i.is ∙ sym (rest-at olds news i d here there c.loop-i.invariant.rest))
    (judged-undamaged s c.args.stakes.now c.requires.valid c.requires.stakes c.args.score _ told (take i olds) (take i news) c.loop-i.invariant.found.answer)
    (subst (λ (x : Judged). MeetsOnDecision c.args.score c.args.stakes.now x s damage) (sym c.index-list-i.is) met)))

pub returns-in_err-list-clause-stopped : goal.returns-in_err-list-clause-stopped
returns-in_err-list-clause-stopped g c =
    let s = (g.P.Pairs.seen c.args.pairs.now).source in
    let p = err_from_is_err_and c.from_residual.result c.from_residual.ensures.1 in
    let looked = rw c.loop-i.invariant.source at c.in_err-list.ensures.looked in
    rw p.1 (judges-some s c.args.stakes.now c.requires.valid c.requires.stakes c.args.score _ _ looked.notes c.args.list.now c.loop-i.list c.loop-i.i c.requires.can c.loop-i.invariant.rest c.loop-i.invariant.found.answer)

pub loop-i-preserved : goal.loop-i-preserved
loop-i-preserved g c =
    let s = (g.P.Pairs.seen c.args.pairs.now).source in
    let olds = c.args.list.now in
    let news = c.loop-i.list in
    let i = c.loop-i.i in
    let d = c.index-list-i.result in
    let new = c.in_ok-list.field-0 in
    let there : i < length news = omega (arith, c.loop-i.auto.list, c.loop-i-test.true) in
    let here : i < length olds = omega (arith, c.loop-i.auto.list, c.loop-i-test.true) in
    let looked = rw c.loop-i.invariant.source at c.in_ok-list.ensures.looked in
    record {
      source = c.judged_by.ensures.source ∙ c.loop-i.invariant.source;
      stays = c.judged_by.ensures.stays ∙ c.loop-i.invariant.stays;
      small = All-set IsSmallJudged news i new c.in_ok-list.ensures.small c.loop-i.invariant.small;
      made = All-set BestCanBeMade news i new c.in_ok-list.ensures.made c.loop-i.invariant.made;
      rest = drop-set-lt (i + 1) news i new (omega arith) ∙ drop-next news olds i c.loop-i.invariant.rest;
      found = then-ok s _ _ _ _ _ _ _ _ _ _ _ _ tt new tt c.loop-i.invariant.found looked
          (λ tighter before one. judges-more s c.args.stakes.now c.requires.valid c.requires.stakes c.args.score _ _ tighter olds news i d new c.requires.can here there c.loop-i.invariant.rest before one);
    }
