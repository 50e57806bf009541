use Rattle.std.proofs.Common.{◌∙◌, ℕ, List, length, sym, ap}
use Rattle.database_file.proofs.Batches.{page_right, page_wrong}
use Rattle.database_file.proofs.batch.read_one.Goals as goal

pub returns-in_err-read_page-clause-words : goal.returns-in_err-read_page-clause-words
returns-in_err-read_page-clause-words c = λ all are.
    page_wrong c.args.pages.now c.args.page _ _ _ c.args.bytes.now all c.in_err-read_page.field-0.0 c.from_residual-in_err-read_page.result
    (ap (λ (words : List ℕ). length words) c.deref_mut.ensures.value ∙ sym c.resize.new.self.ok.0 ∙ c.in_ok-resize.ensures.len ∙ c.words_on.ensures.words) c.place_of-place.ensures.place (c.as_slice.ensures.value ∙ c.binding_on-binding.ensures) are c.in_err-read_page.ensures.flaw c.from_residual-in_err-read_page.ensures.1

pub returns-clause-words : goal.returns-clause-words
returns-clause-words c = λ all are.
    page_right c.args.pages.now c.args.page _ _ c.resize.new.self.len _ c.args.bytes.now all c.read_page.new.words c.resize.new.self.items
    (ap (λ (words : List ℕ). length words) c.deref_mut.ensures.value ∙ sym c.resize.new.self.ok.0 ∙ c.in_ok-resize.ensures.len ∙ c.words_on.ensures.words) c.place_of-place.ensures.place (c.as_slice.ensures.value ∙ c.binding_on-binding.ensures) c.resize.new.self.ok.0
    (sym (ap (λ (words : List ℕ). length words) c.deref_mut.ensures.value)) are c.in_ok-read_page.ensures.flaw c.in_ok-read_page.ensures.words
