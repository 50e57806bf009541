use Rattle.std.proofs.Common.{subst, sym, arith}
use Rattle.position_rank.specs.Placement.{Placement, swap}
use Rattle.directed_fixed.specs.Bounds.{IsWithinUnits, other}
use Rattle.cube_actions.specs.Scores.{other_side}
use Rattle.turn_rule.specs.States.{IsState}
use Rattle.interval_words.specs.WordLists.{words_in_list}
use Rattle.match_scores.specs.Openings.{centred_in, opening_worth}
use Rattle.match_scores.proofs.OpeningSums.{best-next, max-within, listed-state}
use Rattle.match_scores.proofs.openings.best_at.Goals as goal

pub worth_at-requires : goal.worth_at-requires
worth_at-requires c = record {
  state = listed-state c.args.entries.now c.loop-i.i c.index-entries-i.result (λ (left : Placement). IsState c.args.words.now.game (swap left) (centred_in c.args.score (other_side c.args.side))) c.loop-i-test.true c.requires.states;
}

pub loop-i-preserved : goal.loop-i-preserved
loop-i-preserved c = record {
  best = best-next (opening_worth (words_in_list c.args.words.now (other c.args.end)) c.args.score c.args.side) c.args.entries.now c.loop-i.i c.index-entries-i.result c.loop-i.best c.worth_at.result c.max-best.result (omega (arith, c.loop-i.auto.i)) c.loop-i-test.true c.max-best.ensures
      c.loop-i.invariant.best c.worth_at.ensures.worth;
  within = subst (IsWithinUnits c.args.words.now.game.stakes.bound) (sym c.max-best.ensures) (max-within c.args.words.now.game.stakes.bound c.loop-i.best c.worth_at.result c.loop-i.invariant.within c.worth_at.ensures.within);
}
