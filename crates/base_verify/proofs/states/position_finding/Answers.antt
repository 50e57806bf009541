use Rattle.std.proofs.Common.{◌≡◌, ◌∙◌, length, ap, arith}
use Rattle.cube_actions.specs.Stakes.{Terms}
use Rattle.turn_rule.specs.Games.{kinds_of}
use Rattle.base_verify.proofs.Parts.{all-kinds, kind-found, kind-more, no-kind}
use Rattle.base_verify.proofs.states.position_finding.Goals as goal

pub loop-kind-init : goal.loop-kind-init
loop-kind-init c = no-kind c.args.words.now c.args.ends.now

pub returns-in-Some : goal.returns-in-Some
returns-in-Some c =
    let words = c.args.words.now in
    let kinds : c.kinds-kind-end.result ≡ kinds_of words.game = c.kinds-kind-end.ensures.kinds ∙ ap (λ (t : Terms). length t.kinds) c.stakes.ensures in
    let state = c.requires c.loop-kind.kind (omega (arith, kinds, c.loop-kind-test.true)) in
    kind-found words c.args.ends.now c.loop-kind.kind state c.in-Some.finding c.loop-kind.invariant c.in-Some.ensures

pub loop-kind-preserved : goal.loop-kind-preserved
loop-kind-preserved c =
    let words = c.args.words.now in
    let kinds : c.kinds-kind-end.result ≡ kinds_of words.game = c.kinds-kind-end.ensures.kinds ∙ ap (λ (t : Terms). length t.kinds) c.stakes.ensures in
    let state = c.requires c.loop-kind.kind (omega (arith, kinds, c.loop-kind-test.true)) in
    kind-more words c.args.ends.now c.loop-kind.kind state c.loop-kind.invariant c.in_default.ensures

pub returns : goal.returns
returns c =
    let kinds : c.kinds-kind-end.result ≡ kinds_of c.args.words.now.game = c.kinds-kind-end.ensures.kinds ∙ ap (λ (t : Terms). length t.kinds) c.stakes.ensures in
    all-kinds c.args.words.now c.args.ends.now c.loop-kind.kind (omega (arith, kinds, c.loop-kind-test.false, c.loop-kind.auto.kind-end)) c.loop-kind.invariant
