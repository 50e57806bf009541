use Rattle.std.proofs.Common.{◌∙◌, ◌*◌, ◌+◌, ℕ, List, min, length, sym, ap, subst}
use Rattle.std.proofs.lemmas.List.{take_rest}
use Rattle.database_file.specs.Batches.{AreOnPage}
use Rattle.database_file.proofs.Batches.{on_page}
use Rattle.database_file.proofs.batch.read_in_batch.Goals as goal

pub returns-clause-words : goal.returns-clause-words
returns-clause-words c = λ all are.
    let from = c.min-from.ensures ∙ ap (λ whole. min (c.args.number * whole) (length c.args.bytes.now)) c.page_size-whole.ensures in
    c.read_one.ensures.words all (subst (λ (bytes : List ℕ). AreOnPage c.args.pages.now (c.args.batch.first + c.args.number) bytes all) (sym (take_rest c.args.bytes.now c.min-from.result))
    (on_page c.args.pages.now c.args.batch c.args.number c.min-from.result c.args.bytes.now all c.requires.number from are))
