use Rattle.std.proofs.Common.{ap, get_or}
use Rattle.cube_actions.specs.declared.kind.Kind.{Kind}
use Rattle.match_plan.proofs.Centred.{centred-inside, centred-kind}
use Rattle.match_plan.proofs.values.wins_of.Goals as goal

pub kind-kind-requires : goal.kind-kind-requires
kind-kind-requires c = centred-inside c.args.score c.args.starts.now c.args.side c.of_score-stakes.result c.centred.result c.of_score-stakes.ensures c.centred.ensures

pub returns-clause-one : goal.returns-clause-one
returns-clause-one c =
    let kind = centred-kind c.args.score c.args.starts.now c.args.side c.of_score-stakes.result c.centred.result c.of_score-stakes.ensures c.centred.ensures c.kind-kind.result.now c.kind-kind.ensures.kind in
    ap (λ (kind : Kind). get_or kind.win 0 c.index-kind-0.result) kind

pub returns-clause-two : goal.returns-clause-two
returns-clause-two c =
    let kind = centred-kind c.args.score c.args.starts.now c.args.side c.of_score-stakes.result c.centred.result c.of_score-stakes.ensures c.centred.ensures c.kind-kind.result.now c.kind-kind.ensures.kind in
    ap (λ (kind : Kind). get_or kind.win 1 c.index-kind-1.result) kind
