use Rattle.std.proofs.Common.{add-one}
use Rattle.best_reply.proofs.Filling.{all-swept, round-more, swept-right}
use Rattle.best_reply.proofs.reply_table.ReplyTable.sweep_all.Goals as goal

pub invariant_of-self : goal.invariant_of-self
invariant_of-self c =
    let self = c.self.inside in
    let ready = c.self.invariant in
    let new = c.sweep.new.new in
    let right = swept-right self.words.now ready.game self.current new ready.right c.sweep.ensures.swept in
    rw (c.swap.ensures.x_after, c.swap.ensures.y_after) (record {
      game = ready.game;
      advised = ready.advised;
      columns = c.sweep.ensures.room;
      right = right;
      room = record { follow = ready.right.follow.full; reply = ready.right.reply.full };
    })

pub returns-clause-turned : goal.returns-clause-turned
returns-clause-turned c =
    let self = c.self.inside in
    rw (← c.self.view_is, c.swap.ensures.x_after) (all-swept self.words.now c.self.invariant.game self.current c.sweep.new.new c.sweep.ensures.swept)

pub returns-clause-rounds : goal.returns-clause-rounds
returns-clause-rounds c =
    let self = c.self.inside in
    rw (← c.self.view_is, c.swap.ensures.x_after) (λ r has. rw (add-one r) (round-more self.words.now c.self.invariant.game self.current c.sweep.new.new r c.sweep.ensures.swept has))
