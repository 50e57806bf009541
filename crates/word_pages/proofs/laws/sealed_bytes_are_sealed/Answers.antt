use Rattle.word_pages.proofs.PageTexts.{is_sealed-sealed, sealed-one}
use Rattle.word_pages.proofs.laws.sealed_bytes_are_sealed.Goals as goal

pub returns-clause-told : goal.returns-clause-told
returns-clause-told c = is_sealed-sealed

pub returns-clause-one : goal.returns-clause-one
returns-clause-one c = sealed-one
