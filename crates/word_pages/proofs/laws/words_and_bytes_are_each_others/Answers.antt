use Rattle.word_pages.proofs.Back.{words_of-text, text-words_of, words_of-fit}
use Rattle.word_pages.proofs.laws.words_and_bytes_are_each_others.Goals as goal

pub returns-clause-read : goal.returns-clause-read
returns-clause-read c = words_of-text

pub returns-clause-written : goal.returns-clause-written
returns-clause-written c = λ version count bytes are long. text-words_of version count bytes long are

pub returns-clause-fit : goal.returns-clause-fit
returns-clause-fit c = words_of-fit
