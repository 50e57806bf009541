use Rattle.std.proofs.Common.{◌∙◌, sym}
use Rattle.turn_rule.specs.Games.{kinds_of}
use Rattle.interval_words.specs.WordLists.{words_in_list}
use Rattle.interval_words.proofs.Lists.{right-within}
use Rattle.match_scores.proofs.Centred.{centred-kind}
use Rattle.match_scores.proofs.Starts.{start-in_order}
use Rattle.match_scores.proofs.openings.start_pair.Goals as goal

pub new-requires : goal.new-requires
new-requires c =
    let game = c.args.words.now.game in
    rw (c.start_at-lower.ensures.start, c.start_at-upper.ensures.start)
    (start-in_order c.opening_plays_go_on.ensures game.checkers (kinds_of game) c.right.ensures.game.low c.right.ensures.game.high c.args.score
    (λ side. centred-kind game.stakes c.args.score side c.requires.name (rw c.stakes.ensures at (sym c.kinds-kinds.ensures.kinds ∙ c.kinds-kinds.ensures.named))) (words_in_list c.args.words.now)
    (λ p k state. (right-within c.args.words.now c.right.ensures.right p k state).in_order))
