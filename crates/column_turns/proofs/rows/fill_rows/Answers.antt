use Rattle.std.proofs.Common.{◌∙◌, refl}
use Rattle.column_sums.specs.Leaps.{layout_at}
use Rattle.column_turns.proofs.Laters.{later-trans}
use Rattle.column_turns.proofs.RowsFound.{layers-more}
use Rattle.column_turns.proofs.rows.fill_rows.Goals as goal

pub loop-layer-preserved : goal.loop-layer-preserved
loop-layer-preserved g c =
    let old = g.P.Pairs.seen c.args.pairs.now in
    let mid = g.P.Pairs.seen c.loop-layer.pairs in
    let new = g.P.Pairs.seen c.fill_layer.new.pairs in
    let before = c.loop-layer.invariant in
    let filled = c.fill_layer.ensures in
    let stakes = c.args.stakes.now in
    let column = c.args.column.now in
    let layer = c.loop-layer.layer in
    let other = layout_at column.others layer in
    record {
      rows = filled.rows;
      found = λ end. layers-more end old stakes column.layouts other column.needed column.others mid new c.loop-layer.rows c.fill_layer.new.rows layer before.later filled.later filled.few refl (before.found end)
          (rw before.later.source at (filled.found end));
      later = later-trans old mid new before.later filled.later;
      stays = filled.stays ∙ before.stays;
    }
