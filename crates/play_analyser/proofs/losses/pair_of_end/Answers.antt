use Rattle.std.proofs.Common.{◌≢◌, ◌∙◌, List, All, sym, subst}
use Rattle.std.proofs.lemmas.List.{take_all}
use Rattle.std.proofs.lemmas.List.Elements.{All-more}
use Rattle.play_analyser.specs.declared.ranking.PlayRow.{PlayRow}
use Rattle.play_analyser.proofs.OtherPlays.{other-is}
use Rattle.play_analyser.proofs.losses.pair_of_end.Goals as goal

pub loop-row-preserved : goal.loop-row-preserved
loop-row-preserved c =
    let row = c.row-item.result in
    All-more (λ (r : PlayRow). r.entry.end ≢ c.args.end.now) c.args.rows.now c.loop-row.row-index row c.loop-row-test.true c.loop-row.invariant
    (subst (λ (r : PlayRow). r.entry.end ≢ c.args.end.now) c.row-item.is (other-is row.entry.end c.args.end.now (sym c.same.ensures ∙ c.if-same.false)))

pub unreachable-requires : goal.unreachable-requires
unreachable-requires c =
    let (i, row, below, at, leaves) = c.requires in
    let all = subst (λ (rows : List PlayRow). All (λ (r : PlayRow). r.entry.end ≢ c.args.end.now) rows) (take_all c.loop-row.row-index c.args.rows.now c.loop-row-test.false) c.loop-row.invariant in
    subst (λ (r : PlayRow). r.entry.end ≢ c.args.end.now) at (all i row below) leaves
