use Rattle.std.proofs.Common.{◌<◌, ℕ, sym, subst}
use Rattle.position_rank.specs.LiveRanks.{live_positions}
use Rattle.best_reply.proofs.Filling.{some-position}
use Rattle.best_reply.proofs.advice.Advice.of.Goals as goal

pub unrank-first-requires : goal.unrank-first-requires
unrank-first-requires c =
    subst (λ (n : ℕ). 0 < live_positions n) (sym c.index.ensures) (some-position c.args.words.now.game c.states-states.result c.states-states.ensures.states c.states-states.ensures.some)
