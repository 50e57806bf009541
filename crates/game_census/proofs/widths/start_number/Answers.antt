use Rattle.std.proofs.Common.{◌∙◌, ◌<◌, length, subst}
use Rattle.cube_actions.specs.Stakes.{Terms}
use Rattle.game_census.proofs.widths.start_number.Goals as goal

pub number-requires : goal.number-requires
number-requires c = record {
  position = c.start.ensures.valid;
  many = c.start.ensures.checkers ∙ c.checkers.ensures.checkers;
  live = c.start.ensures.live;
  kind = subst (λ (t : Terms). 0 < length t.kinds) c.stakes.ensures c.kinds-kinds.ensures.valid.some;
}
