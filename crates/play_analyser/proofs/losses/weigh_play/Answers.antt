use Rattle.turn_rule.proofs.Found.{mapped-ok}
use Rattle.play_analyser.proofs.LossPairs.{loss-positive}
use Rattle.play_analyser.proofs.Weighing.{chosen-near, first-made, leaves, others-near, play-weighed}
use Rattle.play_analyser.proofs.losses.weigh_play.Goals as goal

pub pair_of_end-chosen-requires : goal.pair_of_end-chosen-requires
pair_of_end-chosen-requires g c =
    let s = (g.P.Pairs.seen c.args.pairs.now).source in
    rw c.as_slice-rows.ensures.value (leaves s c.args.stakes.now c.requires.valid c.requires.stakes c.args.position.now c.args.kind c.requires.state c.args.roll c.requires.roll _ c.in_ok-ranking.ranking c.in_ok-ranking.ensures.looked.answer c.args.end.now c.requires.legal)

pub loss_among-requires-clause-chosen : goal.loss_among-requires-clause-chosen
loss_among-requires-clause-chosen g c =
    let s = (g.P.Pairs.seen c.args.pairs.now).source in
    chosen-near s c.args.stakes.now c.requires.valid c.requires.stakes c.args.position.now c.args.kind c.requires.state c.args.roll c.requires.roll _ c.in_ok-ranking.ranking c.in_ok-ranking.ensures.looked.answer c.args.end.now c.pair_of_end-chosen.result
    (rw c.as_slice-rows.ensures.value at c.pair_of_end-chosen.ensures)

pub loss_among-requires-clause-others : goal.loss_among-requires-clause-others
loss_among-requires-clause-others g c =
    let s = (g.P.Pairs.seen c.args.pairs.now).source in
    rw (c.as_slice.ensures.value, c.other_pairs-others.ensures, c.as_slice-rows.ensures.value)
    (others-near s c.args.stakes.now c.requires.valid c.requires.stakes c.args.position.now c.args.kind c.requires.state c.args.roll c.requires.roll _ c.in_ok-ranking.ranking c.in_ok-ranking.ensures.looked.answer c.args.end.now)

pub returns-clause-looked : goal.returns-clause-looked
returns-clause-looked g c =
    let s = (g.P.Pairs.seen c.args.pairs.now).source in
    let lost = rw (c.as_slice.ensures.value, c.other_pairs-others.ensures, c.as_slice-rows.ensures.value) at c.loss_among.ensures in
    mapped-ok s _ _ _ _ _ _ _ _ c.in_ok-ranking.ranking _ c.in_ok-ranking.ensures.looked
    (λ is. record {
      loss = rw lost (play-weighed s c.args.stakes.now c.requires.valid c.requires.stakes c.args.position.now c.args.kind c.requires.state c.args.roll c.requires.roll _ c.in_ok-ranking.ranking is c.args.end.now c.pair_of_end-chosen.result (rw c.as_slice-rows.ensures.value at c.pair_of_end-chosen.ensures));
      best = (c.in_ok-ranking.ranking, is, rw c.as_slice-rows.ensures.value at c.first_row.ensures);
    })

pub returns-clause-from : goal.returns-clause-from
returns-clause-from g c = rw c.loss_among.ensures (loss-positive (record { chosen = c.pair_of_end-chosen.result; others = c.as_slice.result.now }))

pub returns-clause-made : goal.returns-clause-made
returns-clause-made g c =
    first-made c.args.position.now c.args.roll c.requires.roll c.in_ok-ranking.ranking.rows.items c.in_ok-ranking.ensures.looked.answer.first c.first_row.result (rw c.as_slice-rows.ensures.value at c.first_row.ensures)
