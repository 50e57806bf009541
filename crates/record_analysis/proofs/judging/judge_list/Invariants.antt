use Rattle.std.proofs.Common.{◌≡◌, take, drop, All, Ok}
use Rattle.turn_rule.specs.Looks.{Looked}
use Rattle.turn_rule.proofs.Found.{look}
use Rattle.record_analysis.specs.Analyses.{BestCanBeMade, IsSmallJudged}
use Rattle.record_analysis.specs.Judging.{JudgesAll, MeetsOnDecisions}
use Rattle.record_analysis.proofs.judging.judge_list.Given as goal

-- those before the place were judged, and the rest are as they were
abbrev pub invariant-loop-i : goal.invariant-loop-i
invariant-loop-i g l =
    let first = g.P.Pairs.seen l.fn.pairs in
    let now = g.P.Pairs.seen l.pairs in
    record {
      source : now.source ≡ first.source;
      stays : g.P.Pairs.stays l.pairs ≡ g.P.Pairs.stays l.fn.pairs;
      small : All IsSmallJudged l.list;
      made : All BestCanBeMade l.list;
      rest : drop l.i l.list ≡ drop l.i l.fn.list;
      found : Looked (look first.source first.notes now.notes first.faults now.faults) (MeetsOnDecisions l.score l.stakes l.fn.list first.source) (λ (_ : Unit {0}). JudgesAll l.score l.stakes first.source now.notes (take l.i l.fn.list) (take l.i l.list)) (Ok tt);
    }
