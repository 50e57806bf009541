use Rattle.std.proofs.Common.{◌<◌, length, arith, refl, sym, subst, ◌∙◌}
use Rattle.position_rank.specs.Placement.{Placement}
use Rattle.turn_rule.specs.States.{IsState}
use Rattle.interval_words.specs.Seats.{GameTable}
use Rattle.interval_words.proofs.SeatNotes.{keeps-trans, keeps-refl}
use Rattle.worker_sweep.proofs.columns.fetch_words.Goals as goal

pub loop-i-init : goal.loop-i-init
loop-i-init c = record { board = refl; kept = keeps-refl _; work = refl }

pub fetch-requires-clause-state : goal.fetch-requires-clause-state
fetch-requires-clause-state c =
    let here : c.loop-i.i < length c.args.turns.now.movers = omega (arith, c.loop-i-test.true, c.len-i-end.ensures) in
    let is = subst (λ (p : Placement). IsState c.args.pairs.now.board.now.game p 0) (sym c.position.ensures.position) (c.requires.states c.loop-i.i here) in
    subst (λ (b : GameTable). IsState b.game c.position.result 0) (sym c.loop-i.invariant.board) is

pub loop-i-preserved : goal.loop-i-preserved
loop-i-preserved c = record {
  board = c.fetch.ensures.board ∙ c.loop-i.invariant.board;
  kept = keeps-trans _ _ _ c.loop-i.invariant.kept c.fetch.ensures.kept;
  work = c.fetch.ensures.work ∙ c.loop-i.invariant.work;
}
