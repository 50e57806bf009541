use Rattle.std.proofs.Common.{ap, subst, sym}
use Rattle.turn_rule.specs.States.{AreNoLooser}
use Rattle.interval_words.specs.Core.{noted}
use Rattle.interval_words.specs.WordLists.{WordList, words_in_list}
use Rattle.interval_words.proofs.Closing.{right-of-last, closed-of-last, noted-of-last}
use Rattle.interval_words.proofs.board.Board.close.Goals as goal

pub new-requires-clause-right : goal.new-requires-clause-right
new-requires-clause-right c =
    right-of-last _ _ c.self.invariant.same c.seat.inside.seat.id c.seat.inside.seat.me c.args.seat.view (ap (λ s. s.view) c.seat.view_is) c.args.rounds c.requires.rounds _ _ _ c.close_with-last.ensures.values.2 c.in_ok-list.ensures

pub new-requires-clause-closed : goal.new-requires-clause-closed
new-requires-clause-closed c =
    closed-of-last _ _ c.self.invariant.same c.seat.inside.seat.id c.seat.inside.seat.me c.args.seat.view (ap (λ s. s.view) c.seat.view_is) c.args.rounds c.requires.rounds _ _ _ c.close_with-last.ensures.values.2 c.in_ok-list.ensures

pub returns-clause-noted : goal.returns-clause-noted
returns-clause-noted c =
    let tight = noted-of-last _ _ c.self.invariant.same c.seat.inside.seat.id c.seat.inside.seat.me c.args.seat.view (ap (λ s. s.view) c.seat.view_is) c.args.rounds c.requires.rounds _ _ _ c.close_with-last.ensures.values.2 c.in_ok-list.ensures in
    subst (λ (w : WordList). AreNoLooser w.game (words_in_list w) (noted w.game c.args.seat.view.notes)) (sym c.new.ensures) tight
