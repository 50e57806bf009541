use Rattle.std.proofs.Common.{◌≡◌}
use Rattle.cube_actions.specs.Stakes.{kind_at}
use Rattle.turn_rule.specs.Looks.{IsPairFor}
use Rattle.turn_rule.specs.Found.{of_play}
use Rattle.play_analyser.specs.declared.ranking.PlayRow.{PlayRow}
use Rattle.play_analyser.specs.Regrets.{play_pair}
use Rattle.play_analyser.proofs.AdvisedLosses.{first-loses, over-tighter}
use Rattle.play_analyser.proofs.LossPairs.{pair-notes}
use Rattle.play_analyser.proofs.RowLemmas.{member}
use Rattle.play_analyser.proofs.look_laws.best_plays_lose_at_most_their_bounds.Goals as goal

pub returns-clause-over : goal.returns-clause-over
returns-clause-over c = λ game scoring turns u words p k state roll is_roll ranking is.
    first-loses game scoring turns u words p k state roll is_roll ranking.rows.items ranking.loss_bound is.some is.ends is.distinct
    (λ row m. over-tighter (play_pair (kind_at game.stakes k) u row.entry.end) row.pair (member (λ (r : PlayRow). r.pair ≡ play_pair (kind_at game.stakes k) u r.entry.end) ranking.rows.items is.pairs row m)) is.bound

pub returns-clause-looked : goal.returns-clause-looked
returns-clause-looked c = λ game scoring turns noted words p k state roll is_roll source ranking told is.
    first-loses game scoring turns noted.words words p k state roll is_roll ranking.rows.items ranking.loss_bound is.some is.ends is.distinct
    (λ row m. pair-notes source (of_play (kind_at game.stakes k) row.entry.end) noted row.pair (member (λ (r : PlayRow). IsPairFor (of_play (kind_at game.stakes k) r.entry.end) source noted r.pair) ranking.rows.items is.pairs row m) told) is.bound
