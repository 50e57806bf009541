use Rattle.std.proofs.Common.{sym, subst}
use Rattle.game_record.specs.declared.player.Player.{Player}
use Rattle.record_maker.specs.Makers.{moment_at}
use Rattle.record_maker.specs.Making.{Rolls, due_after}
use Rattle.record_maker.proofs.state.Maker.roll_on.Goals as goal

pub returns : goal.returns
returns c =
    let action = c.roll.result in
    let next = moment_at c.roll.new.self (due_after action.player action.what) in
    record {
      done = (c.roll.ensures.player, subst (λ (player : Player). Rolls c.args.self.now.game player c.args.self.now.words action.what next) (sym c.roll.ensures.player) (c.roll.ensures.rolls (due_after action.player action.what)));
      size = c.roll.ensures.size;
      short = c.roll.ensures.short;
    }
