use Rattle.std.proofs.Common.{◌<◌, ◌∙◌, ℕ, ap, sym, subst, arith}
use Rattle.position_rank.specs.LiveRanks.{live_positions}
use Rattle.turn_rule.specs.States.{IsState, pair_of}
use Rattle.best_reply.specs.Replies.{Replier}
use Rattle.best_reply.specs.ReplyPairs.{reply_rounds}
use Rattle.best_reply.specs.Sides.{ReplyState}
use Rattle.best_reply.specs.Tables.{policy_of, words_by}
use Rattle.best_reply.proofs.Filling.{bank-place, looked-up, same-pair}
use Rattle.best_reply.proofs.reply_table.ReplyTable.reply.Goals as goal

pub pair-requires : goal.pair-requires
pair-requires c =
    let self = c.self.inside in
    let game = self.words.now.game in
    let full = c.self.invariant.right.reply.full in
    let state = subst (λ (s : ReplyState). IsState s.words.game c.args.position.now c.args.kind) (sym c.self.view_is) c.requires in
    let below : c.rank-rank.result < live_positions game.checkers = subst (λ (n : ℕ). c.rank-rank.result < live_positions n) c.index.ensures c.rank-rank.ensures.below in
    let kind : c.args.kind < self.current.reply.kinds = omega (arith, state.kind, full.kinds) in
    bank-place game self.current.reply c.rank-rank.result full below c.args.kind kind

pub returns-clause-pair : goal.returns-clause-pair
returns-clause-pair c =
    looked-up c.self.inside.current.reply c.args.position.now c.args.kind c.rank-rank.result c.pair.result c.rank-rank.ensures.rank c.pair.ensures
    ∙ ap (λ (s : ReplyState). pair_of (words_by s.both.reply) c.args.position.now c.args.kind) c.self.view_is

pub returns-clause-rounds : goal.returns-clause-rounds
returns-clause-rounds c = λ r has.
    let p = c.args.position.now in
    let k = c.args.kind in
    let words = c.args.self.now.words in
    let is = looked-up c.self.inside.current.reply p k c.rank-rank.result c.pair.result c.rank-rank.ensures.rank c.pair.ensures
    ∙ ap (λ (s : ReplyState). pair_of (words_by s.both.reply) p k) c.self.view_is in
    same-pair (words_by c.args.self.now.both.reply) (reply_rounds (policy_of words) words.game.stakes r Replier) p k c.pair.result is (λ end. has Replier end p k c.requires)
