use Rattle.std.proofs.Common.{◌<◌, ◌∙◌, All, sym, subst, arith}
use Rattle.base_scan.specs.Found.{AreScanned, IsFoundState}
use Rattle.base_scan.proofs.scanning.scan.Goals as goal

pub returns-clause-found : goal.returns-clause-found
returns-clause-found g c =
    let words = c.args.words.now in
    let groups = c.args.condition.now in
    let some : 0 < c.args.team.now = omega arith in
    let are = subst (AreScanned words groups c.args.team.now) (sym c.deref.ensures.value) c.in_ok-parts.ensures in
    c.new.ensures ∙ (c.in_ok-joined.ensures words groups c.args.team.now some are).all

pub returns-clause-right : goal.returns-clause-right
returns-clause-right g c =
    let words = c.args.words.now in
    let groups = c.args.condition.now in
    let some : 0 < c.args.team.now = omega arith in
    let are = subst (AreScanned words groups c.args.team.now) (sym c.deref.ensures.value) c.in_ok-parts.ensures in
    subst (All (IsFoundState words.game)) (sym c.new.ensures) (c.in_ok-joined.ensures words groups c.args.team.now some are).right
