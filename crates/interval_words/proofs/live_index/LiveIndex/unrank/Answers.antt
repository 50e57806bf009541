use Rattle.std.proofs.Common.{◌∙◌}
use Rattle.interval_words.proofs.IndexLemmas.{last-live, last-rank}
use Rattle.interval_words.proofs.live_index.LiveIndex.unrank.Goals as goal

pub returns-clause-live : goal.returns-clause-live
returns-clause-live c =
    let found = c.square_unrank.ensures in
    last-live c.args.self.now c.square.result c.args.rank _ found.valid (found.checkers ∙ c.self.view_is) found.rank c.square.ensures.from c.square.ensures.to

pub returns-clause-rank : goal.returns-clause-rank
returns-clause-rank c =
    let found = c.square_unrank.ensures in
    last-rank c.args.self.now c.square.result c.args.rank _ found.valid (found.checkers ∙ c.self.view_is) found.rank c.square.ensures.from c.square.ensures.to
