use Rattle.std.proofs.Common.{◌∙◌, map, take, ap, arith}
use Rattle.race_table.specs.declared.race.Race.{Race}
use Rattle.race_table.specs.FreePlays.{against}
use Rattle.race_table.specs.Tables.{best_race, better}
use Rattle.race_table.proofs.Bests.{best-more}
use Rattle.race_table.proofs.fill.best_of.Goals as goal

pub loop-i-preserved : goal.loop-i-preserved
loop-i-preserved c =
    let races = c.args.races.now in
    let other = c.args.other.now in
    let ends = c.args.ends.now in
    let i = c.loop-i.i in
    let so_far = best_race races (map (against other) (take i ends)) in
    c.better-best.ensures
    ∙ (ap (λ (race : Race). better race c.after_play.result) c.loop-i.invariant
    ∙ (ap (better so_far) c.after_play.ensures ∙ best-more races other ends i c.index-ends-i.result (omega (arith, c.loop-i.auto.i)) c.loop-i-test.true c.index-ends-i.is))
