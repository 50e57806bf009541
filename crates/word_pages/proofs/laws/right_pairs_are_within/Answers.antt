use Rattle.word_pages.proofs.Within.{none-within, within-none, within-fit}
use Rattle.word_pages.proofs.laws.right_pairs_are_within.Goals as goal

pub returns-clause-exactly : goal.returns-clause-exactly
returns-clause-exactly c = λ version bound at words. (none-within version bound at words, within-none version bound at words)

pub returns-clause-fit : goal.returns-clause-fit
returns-clause-fit c = within-fit
