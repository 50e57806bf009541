use Rattle.std.proofs.Common.{ap, arith, sym, ◌∙◌, subst}
use Rattle.turn_rule.specs.Games.{IsGame}
use Rattle.turn_rule.specs.declared.game.Game.{Game}
use Rattle.interval_words.specs.declared.view.View.{View}
use Rattle.interval_words.specs.Core.{joined}
use Rattle.interval_words.specs.Seats.{Knows}
use Rattle.interval_words.proofs.Calls.{word-zero, knows-joined}
use Rattle.interval_words.proofs.Allowed.{joins}
use Rattle.interval_words.proofs.board.Board.join.Goals as goal

pub join_seat-requires : goal.join_seat-requires
join_seat-requires c = (
  ap (λ s. s.table) c.seat.view_is ∙ c.requires.seat.table ∙ sym (ap (λ b. b.table) c.self.view_is),
  ap (λ s. s.table) c.other.view_is ∙ c.requires.other.table ∙ sym (ap (λ b. b.table) c.self.view_is),
  c.other.invariant.0,
  omega (arith, word-zero _ c.self.invariant.valid, c.self.invariant.wide),
  joins _ _ _ _ _,
)

pub invariant_of-seat : goal.invariant_of-seat
invariant_of-seat c =
    let seat_names = ap (λ s. s.view.game) c.seat.view_is ∙ c.requires.seat.game in
    let other_names = ap (λ s. s.view.game) c.other.view_is ∙ c.requires.other.game in
    let is : IsGame c.args.self.now.game = subst (λ (g : Game). IsGame g) (ap (λ b. b.game) c.self.view_is) c.self.invariant.valid in
    let both : Knows (joined c.seat.inside.seat.me.0 c.other.inside.seat.me.0) = knows-joined c.args.self.now.game is c.seat.inside.seat.me.0 c.other.inside.seat.me.0 seat_names other_names c.seat.invariant.1 c.other.invariant.1 in
    (ap (λ m. m.1) c.join_seat.ensures.2 ∙ c.seat.invariant.0, subst (λ (v : View). Knows v) (sym (ap (λ m. m.0) c.join_seat.ensures.2)) both)
