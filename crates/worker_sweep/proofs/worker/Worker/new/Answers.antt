use Rattle.std.proofs.Common.{length, ap, subst, ◌∙◌}
use Rattle.turn_rule.specs.Layouts.{AreLayouts}
use Rattle.column_turns.specs.Columns.{IsRoomOf}
use Rattle.worker_sweep.proofs.TakeIn.{none-marked, has-room}
use Rattle.worker_sweep.proofs.worker.Worker.new.Goals as goal

pub invariant_of-result : goal.invariant_of-result
invariant_of-result c =
    let room : IsRoomOf c.args.board.now.game c.in_ok-turns.turns = record {
      layouts = subst (λ n. AreLayouts n c.in_ok-turns.turns.layouts) c.checkers.ensures.checkers c.in_ok-turns.ensures.layouts;
      kinds = c.in_ok-turns.ensures.kinds ∙ ap (λ s. length s.kinds) c.stakes.ensures;
    } in
    (none-marked _ _ (c.in_ok-swept.ensures.items_if_clones_equal (λ y same. same)), has-room c.args.board.now c.args.board_seat _ c.requires room)
