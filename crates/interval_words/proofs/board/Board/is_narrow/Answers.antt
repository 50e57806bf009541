use Rattle.std.proofs.Common.{rules, ◌≡◌, ◌<◌, false, arith, ap, subst}
use Rattle.turn_rule.specs.Games.{game_of, kinds_of}
use Rattle.turn_rule.specs.declared.game.Game.{Game}
use Rattle.interval_words.specs.Core.{known}
use Rattle.interval_words.specs.Seats.{IsNumber}
use Rattle.interval_words.specs.WordLists.{states_of}
use Rattle.interval_words.proofs.Calls.{is-number}
use Rattle.interval_words.proofs.Places.{state-in}
use Rattle.interval_words.proofs.Narrow.{known-kept, narrow-tighter}
use Rattle.interval_words.proofs.board.Board.is_narrow.Goals as goal

pub is_narrow_at-requires-clause-state : goal.is_narrow_at-requires-clause-state
is_narrow_at-requires-clause-state c =
    let game = game_of c.self.inside.index c.self.inside.stakes in
    let below : c.loop-state.state < states_of game = omega (arith, c.loop-state-test.true, c.state_count-state-end.ensures.count) in
    subst (λ (g : Game). IsNumber g c.loop-state.state) (ap (λ b. b.game) c.self.view_is) (is-number game c.self.invariant.valid c.loop-state.state below)

pub returns-then-not-is_narrow_at-clause-wide : goal.returns-then-not-is_narrow_at-clause-wide
returns-then-not-is_narrow_at-clause-wide c = λ so narrow.
    let game = c.args.self.now.game in
    let free : c.is_narrow_at.result ≡ false = search rules in
    let now = known-kept game c.args.seat.now c.loop-state.seat c.loop-state.invariant.keeps c.requires.game in
    c.is_narrow_at.ensures.wide free (λ p k is at. narrow-tighter game (known game c.loop-state.seat.view) (known game c.args.seat.now.view) c.args.width now narrow p k is)

pub returns-clause-narrow : goal.returns-clause-narrow
returns-clause-narrow c = λ so p k is.
    let game = c.args.self.now.game in
    let many = ap (λ b. states_of b.game) c.self.view_is in
    c.loop-state.invariant.narrow p k is (omega (arith, state-in game.checkers (kinds_of game) p k is, many, c.state_count-state-end.ensures.count, c.loop-state-test.false))
