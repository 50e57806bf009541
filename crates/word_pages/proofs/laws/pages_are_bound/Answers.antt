use Rattle.word_pages.proofs.Bound.{binding-one, page-twice}
use Rattle.word_pages.proofs.laws.pages_are_bound.Goals as goal

pub returns-clause-pages : goal.returns-clause-pages
returns-clause-pages c = page-twice

pub returns-clause-bindings : goal.returns-clause-bindings
returns-clause-bindings c = binding-one
