use Rattle.std.proofs.Common.{◌∙◌, length, ap}
use Rattle.cube_actions.specs.Stakes.{Terms}
use Rattle.best_reply.proofs.Filling.{opening-ready}
use Rattle.best_reply.proofs.reply_table.ReplyTable.new.Goals as goal

pub invariant_of-result : goal.invariant_of-result
invariant_of-result c =
    let now = c.in_ok-opening.ensures in
    record {
      game = now.game;
      advised = c.in_ok-of.ensures;
      columns = record {
        layouts = rw c.checkers.ensures.checkers at c.in_ok-new.ensures.layouts;
        kinds = c.in_ok-new.ensures.kinds ∙ ap (λ (s : Terms). length s.kinds) c.stakes.ensures;
      };
      right = opening-ready c.args.words.now now.game c.in_ok-opening.field-0 now.banks now.rounds;
      room = c.in_ok-opening-2.ensures.banks;
    }
