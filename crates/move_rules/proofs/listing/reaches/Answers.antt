use Rattle.std.proofs.Common.{◌≡◌, subst, refl, true, false, List}
use Rattle.move_rules.specs.Listing.{HasEnd, lines_of}
use Rattle.move_rules.specs.declared.play.Entry.{Entry}
use Rattle.move_rules.proofs.LinesAdded.{reaches-at, reaches-more}
use Rattle.move_rules.proofs.listing.reaches.Goals as goal

pub returns-then-same : goal.returns-then-same
returns-then-same c =
    let entries = c.deref-entry-items.result.now in
    let there : HasEnd (lines_of entries) c.args.end.now =
    reaches-at entries c.loop-entry.entry-index c.entry-item.result c.args.end.now c.loop-entry-test.true c.entry-item.is (c.if-same.ensures.0 refl) in
    (λ _. subst (λ (xs : List Entry). HasEnd (lines_of xs) c.args.end.now) c.deref-entry-items.ensures.0 there, λ _. refl)

pub loop-entry-preserved : goal.loop-entry-preserved
loop-entry-preserved c =
    reaches-more c.deref-entry-items.result.now c.loop-entry.entry-index c.entry-item.result c.args.end.now c.loop-entry-test.true c.entry-item.is c.loop-entry.invariant (λ e. let h : false ≡ true = c.if-same.ensures.1 e in cc)
