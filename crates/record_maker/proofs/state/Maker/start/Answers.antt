use Rattle.std.proofs.Common.{◌≡◌, sym, subst}
use Rattle.game_record.specs.declared.player.Player.{Player}
use Rattle.record_maker.specs.Draws.{Start}
use Rattle.record_maker.specs.Makers.{moment_at}
use Rattle.record_maker.specs.Making.{Plays, due_after}
use Rattle.record_maker.proofs.state.Maker.start.Goals as goal

pub returns : goal.returns
returns c =
    let game = c.args.self.now.game in
    let action = c.play.result in
    let next = moment_at c.play.new.self (due_after action.player action.what) in
    let plays = subst (λ (player : Player). Plays game player c.draw_start-player.result.1 c.draw_start-player.new.words action.what next) (sym c.play.ensures.player) (c.play.ensures.plays (due_after action.player action.what)) in
    record {
      done = subst (λ (start : Start). (action.player ≡ start.player) × Plays game action.player start.roll start.after action.what next) c.draw_start-player.ensures (c.play.ensures.player, plays);
      size = c.play.ensures.size;
      short = c.play.ensures.short;
    }
