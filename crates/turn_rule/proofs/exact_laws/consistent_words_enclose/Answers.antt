use Rattle.turn_rule.proofs.Enclosing.{consistent-enclose}
use Rattle.turn_rule.proofs.exact_laws.consistent_words_enclose.Goals as goal

pub returns : goal.returns
returns c = λ game right u consistent scoring wins passes ends turns. consistent-enclose game right.stakes u consistent scoring wins passes ends turns
