use Rattle.std.proofs.Common.{◌≡◌, ◌∙◌, ap, length, arith}
use Rattle.std.proofs.lemmas.List.{take_all}
use Rattle.std.specs.List.{filter}
use Rattle.cube_actions.specs.MatchKinds.{can_come, match_kinds}
use Rattle.cube_actions.proofs.LadderOfFive.{kept_few}
use Rattle.cube_actions.proofs.match_kind.match_kinds.Goals as goal

pub push-requires : goal.push-requires
push-requires c =
    let kept = c.loop-kind.invariant in
    let long : length c.every_kind-kind-items.result ≡ 14 = ap length kept.all in
    let few = kept_few (can_come c.args.score) c.every_kind-kind-items.result c.loop-kind.kind-index (omega arith) in
    omega (arith, ap length kept.kept)

pub returns : goal.returns
unfolding match_kinds
returns c =
    let kept = c.loop-kind.invariant in
    let long : length c.every_kind-kind-items.result ≡ 14 = ap length kept.all in
    kept.kept ∙ ap (filter (can_come c.args.score)) (take_all c.loop-kind.kind-index c.every_kind-kind-items.result (omega arith) ∙ kept.all)
