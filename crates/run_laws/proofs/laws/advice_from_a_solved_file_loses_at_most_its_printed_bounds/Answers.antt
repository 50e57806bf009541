use Rattle.run_laws.proofs.TwoRuns.{good-advice}
use Rattle.run_laws.proofs.laws.advice_from_a_solved_file_loses_at_most_its_printed_bounds.Goals as goal

pub returns : goal.returns
returns c = λ solve advise before after put_before put_after old new right solved advised.
    good-advice c.texts_are_read_back.ensures.held solve advise before after put_before put_after old new right solved advised
