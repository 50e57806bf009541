use Rattle.std.proofs.Common.{arith}
use Rattle.database_file.proofs.PageLists.{pages-exactly, pages-right}
use Rattle.database_file.proofs.laws.right_pages_are_their_words.Goals as goal

pub returns-clause-exactly : goal.returns-clause-exactly
returns-clause-exactly c = λ pages half all bytes some size count are long bound. pages-exactly pages half all bytes (omega (arith, some, size)) size count are long bound

pub returns-clause-pages : goal.returns-clause-pages
returns-clause-pages c = λ pages half words rest some size count fit within. pages-right pages half words rest (omega (arith, some, size)) size count fit within
