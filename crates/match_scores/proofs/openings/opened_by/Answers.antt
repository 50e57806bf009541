use Rattle.std.proofs.Common.{◌∙◌, ◌↔◌, Contains, ap, subst, sym}
use Rattle.position_rank.specs.Placement.{Placement}
use Rattle.position_rank.specs.Packed.{start_placement}
use Rattle.roll_table.specs.Rolls.{Dice}
use Rattle.move_rules.specs.Order.{ends_of}
use Rattle.move_rules.specs.Sequences.{IsLegalEnd}
use Rattle.directed_fixed.specs.Bounds.{other}
use Rattle.cube_actions.specs.Scores.{other_side}
use Rattle.turn_rule.specs.Games.{kinds_of}
use Rattle.interval_words.specs.WordLists.{words_in_list}
use Rattle.match_scores.specs.Openings.{opening_worth, centred_in}
use Rattle.match_scores.proofs.Centred.{centred-kind, bound-of-match}
use Rattle.match_scores.proofs.OpeningSums.{listed-states, roll-at, roll-next, within-next}
use Rattle.match_scores.proofs.openings.opened_by.Goals as goal

pub best_at-requires-clause-states : goal.best_at-requires-clause-states
best_at-requires-clause-states c =
    let game = c.args.words.now.game in
    let roll = roll-at _ c.loop-roll.roll-index c.roll-item.result c.openings.ensures c.loop-roll-test.true c.roll-item.is in
    let legal = subst (λ (p : Placement). (q : Placement) → Contains (ends_of c.plays.new.list.items) q ↔ IsLegalEnd p c.roll-item.result q) (c.start-start.ensures.start ∙ ap start_placement c.checkers.ensures.checkers)
    (subst (λ (roll : Dice). (q : Placement) → Contains (ends_of c.plays.new.list.items) q ↔ IsLegalEnd c.start-start.result roll q) (sym c.roll-item.is) c.plays.ensures.ends) in
    rw (c.as_slice.ensures.value)
    (listed-states c.opening_plays_go_on.ensures game.checkers (kinds_of game) (rw c.checkers.ensures.checkers at c.checkers.ensures.low) (rw c.checkers.ensures.checkers at c.checkers.ensures.high)
    (centred_in c.args.score (other_side c.args.side)) (centred-kind game.stakes c.args.score (other_side c.args.side) c.requires.name (rw c.stakes.ensures at (sym c.kinds-kinds.ensures.kinds ∙ c.kinds-kinds.ensures.named)))
    c.roll-item.result roll.2 (ends_of c.plays.new.list.items) (λ q listed. (legal q).0 listed))

pub loop-roll-preserved : goal.loop-roll-preserved
loop-roll-preserved c =
    let game = c.args.words.now.game in
    let f = opening_worth (words_in_list c.args.words.now (other c.args.end)) c.args.score c.args.side in
    let p = start_placement game.checkers in
    let i = c.loop-roll.roll-index in
    let roll = roll-at _ i c.roll-item.result c.openings.ensures c.loop-roll-test.true c.roll-item.is in
    let legal = subst (λ (p : Placement). (q : Placement) → Contains (ends_of c.plays.new.list.items) q ↔ IsLegalEnd p c.roll-item.result q) (c.start-start.ensures.start ∙ ap start_placement c.checkers.ensures.checkers)
    (subst (λ (roll : Dice). (q : Placement) → Contains (ends_of c.plays.new.list.items) q ↔ IsLegalEnd c.start-start.result roll q) (sym c.roll-item.is) c.plays.ensures.ends) in
    record {
      sum = roll-next f p i c.roll-item.result (ends_of c.plays.new.list.items) c.loop-roll.sum c.best_at.result c.add-sum.result roll.0 roll.1 legal c.add-sum.ensures c.loop-roll.invariant.sum (rw c.as_slice.ensures.value at c.best_at.ensures.best);
      within = within-next i game.stakes.bound c.loop-roll.sum c.best_at.result c.add-sum.result (bound-of-match game.stakes c.args.score c.right.ensures.game.stakes c.requires.name) c.loop-roll.invariant.within c.best_at.ensures.within c.add-sum.ensures;
    }
