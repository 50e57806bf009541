use Rattle.std.proofs.Common.{◌∙◌, sym}
use Rattle.plain_table.proofs.GameLemmas.{all-turned, turned-within, one-round}
use Rattle.plain_table.proofs.plain_table.PlainTable.sweep_all.Goals as goal

pub invariant_of-self : goal.invariant_of-self
invariant_of-self c =
    let self = c.self.inside in
    let ready = c.self.invariant in
    let swept = c.sweep_columns.ensures in
    let turned = all-turned self.stakes self.current c.sweep_columns.new.new _ ready.over.layouts.many swept.turned in
    rw (c.swap.ensures.x_after, c.swap.ensures.y_after) (record {
      valid = ready.valid;
      over = record {
        layouts = rw (swept.alike.checkers, swept.layouts) ready.over.layouts;
        kinds = swept.kinds ∙ ready.over.kinds;
        kinds_too = swept.alike.kinds ∙ ready.over.kinds_too;
        within = rw swept.alike.checkers (turned-within self.stakes self.current c.sweep_columns.new.new ready.valid ready.over.within turned);
      };
      alike = record { checkers = sym swept.alike.checkers; kinds = sym swept.alike.kinds };
      full_now = swept.full;
      full_next = ready.full_now;
    })

pub returns-clause-turned : goal.returns-clause-turned
returns-clause-turned c =
    let self = c.self.inside in
    rw (← c.self.view_is, c.swap.ensures.x_after) (all-turned self.stakes self.current c.sweep_columns.new.new _ c.self.invariant.over.layouts.many c.sweep_columns.ensures.turned)

pub returns-clause-rounds : goal.returns-clause-rounds
returns-clause-rounds c =
    let self = c.self.inside in
    let ready = c.self.invariant in
    let turned = all-turned self.stakes self.current c.sweep_columns.new.new _ ready.over.layouts.many c.sweep_columns.ensures.turned in
    rw (← c.self.view_is, c.swap.ensures.x_after, c.sweep_columns.ensures.alike.checkers) (λ r has. one-round self.stakes self.current c.sweep_columns.new.new r ready.valid turned has)
