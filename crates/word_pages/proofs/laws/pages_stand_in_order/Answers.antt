use Rattle.word_pages.proofs.PageTexts.{page-stands}
use Rattle.word_pages.proofs.laws.pages_stand_in_order.Goals as goal

pub returns : goal.returns
returns c = page-stands
