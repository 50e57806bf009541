use Rattle.word_pages.specs.Words.{word_size}
use Rattle.word_pages.proofs.Texts.{length-cells, length-words_of}
use Rattle.word_pages.proofs.Seals.{length-sealed}
use Rattle.word_pages.proofs.PageTexts.{length-page, length-pages}
use Rattle.word_pages.proofs.laws.lengths_are_known.Goals as goal

pub returns-clause-words : goal.returns-clause-words
returns-clause-words c = λ version words. length-cells (word_size version) words

pub returns-clause-read : goal.returns-clause-read
returns-clause-read c = length-words_of

pub returns-clause-sealed : goal.returns-clause-sealed
returns-clause-sealed c = length-sealed

pub returns-clause-page : goal.returns-clause-page
returns-clause-page c = length-page

pub returns-clause-pages : goal.returns-clause-pages
returns-clause-pages c = length-pages
