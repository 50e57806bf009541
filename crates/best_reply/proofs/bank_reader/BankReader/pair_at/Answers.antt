use Rattle.std.proofs.Common.{◌<◌, ℕ, subst, arith}
use Rattle.position_rank.specs.LiveRanks.{live_positions}
use Rattle.best_reply.proofs.Filling.{bank-place, looked-up}
use Rattle.best_reply.proofs.bank_reader.BankReader.pair_at.Goals as goal

pub pair-requires : goal.pair-requires
pair-requires c =
    let reader = c.args.self.now in
    let game = reader.words.now.game in
    let full = reader.right.full in
    let below : c.rank_at-rank.result < live_positions game.checkers = subst (λ (n : ℕ). c.rank_at-rank.result < live_positions n) c.index.ensures c.rank_at-rank.ensures.below in
    let kind : c.args.kind < reader.bank.now.kinds = omega (arith, c.requires.state.kind, full.kinds) in
    bank-place game reader.bank.now c.rank_at-rank.result full below c.args.kind kind

pub returns : goal.returns
returns c = looked-up c.args.self.now.bank.now c.args.position.now c.args.kind c.rank_at-rank.result c.pair.result c.rank_at-rank.ensures.rank c.pair.ensures
