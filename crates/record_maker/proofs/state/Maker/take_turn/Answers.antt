use Rattle.std.proofs.Common.{◌∙◌, ◌≤◌, ◌+◌, ap, sym, subst, arith}
use Rattle.rand_pcg.specs.Lcg.{Lcg}
use Rattle.game_record.specs.declared.player.Player.{Player}
use Rattle.game_record.specs.declared.progress.Progress.{Progress}
use Rattle.record_maker.specs.declared.due.Due.TheVariants.{Turn}
use Rattle.record_maker.specs.declared.size.Size.{Size}
use Rattle.record_maker.specs.Makers.{moment_at}
use Rattle.record_maker.specs.Making.{Doubles, Rolls, TakesTurn, deed_line, due_after, undoubled_words}
use Rattle.record_maker.specs.Sizes.{with_line}
use Rattle.record_maker.proofs.Turning.{turn-rolls}
use Rattle.record_maker.proofs.state.Maker.take_turn.Goals as goal

pub returns-then-not-doubles : goal.returns-then-not-doubles
returns-then-not-doubles c =
    let now = moment_at c.args.self.now (Turn c.args.player) in
    let action = c.roll.result in
    let next = moment_at c.roll.new.self (due_after action.player action.what) in
    let none : Doubles now c.args.player → ⊥ = λ doubled. absurd (grind (arith, c.doubles.ensures.doubles.1 doubled, c.if-not-doubles.true)) in
    let rolls = c.roll.ensures.rolls (due_after action.player action.what) in
    let by_words = subst (λ (words : Lcg). Rolls c.doubles.new.self.game c.args.player words action.what next) c.doubles.ensures.words rolls in
    let by_game = subst (λ (game : Progress). Rolls game c.args.player (undoubled_words now c.args.player) action.what next) c.doubles.ensures.game by_words in
    record {
      done = (c.roll.ensures.player, subst (λ (player : Player). TakesTurn now player action.what next) (sym c.roll.ensures.player) (turn-rolls now c.args.player action.what next none by_game));
      size = c.roll.ensures.size ∙ ap (λ (size : Size). with_line size (deed_line action)) c.doubles.ensures.size;
      short = subst (λ (size : Size). c.roll.new.self.size.bytes ≤ size.bytes + 60) c.doubles.ensures.size c.roll.ensures.short;
    }
