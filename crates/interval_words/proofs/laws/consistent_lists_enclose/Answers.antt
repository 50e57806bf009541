use Rattle.turn_rule.proofs.Enclosing.{consistent-enclose}
use Rattle.interval_words.specs.WordLists.{words_in_list}
use Rattle.interval_words.proofs.laws.consistent_lists_enclose.Goals as goal

pub returns : goal.returns
returns c = λ words is right consistent scoring within ends turns. consistent-enclose words.game is.stakes (words_in_list words) consistent scoring within.wins within.passes ends turns
