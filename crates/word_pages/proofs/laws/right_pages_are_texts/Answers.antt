use Rattle.word_pages.proofs.PageFlaws.{page_flaw-take}
use Rattle.word_pages.proofs.PageTexts.{page-exactly, page-right}
use Rattle.word_pages.proofs.laws.right_pages_are_texts.Goals as goal

pub returns-clause-exactly : goal.returns-clause-exactly
returns-clause-exactly c = page-exactly

pub returns-clause-page : goal.returns-clause-page
returns-clause-page c = page-right

pub returns-clause-front : goal.returns-clause-front
returns-clause-front c = page_flaw-take
