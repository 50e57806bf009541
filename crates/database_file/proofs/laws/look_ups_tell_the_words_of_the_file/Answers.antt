use Rattle.database_file.specs.Paged.{flaw_at}
use Rattle.database_file.proofs.PageWords.{answer-exact, damage-is, word-among}
use Rattle.database_file.proofs.laws.look_ups_tell_the_words_of_the_file.Goals as goal

pub returns-clause-exact : goal.returns-clause-exact
returns-clause-exact c = λ base held end p k value answer. answer-exact base held end p k value answer

pub returns-clause-damaged : goal.returns-clause-damaged
returns-clause-damaged c = λ base held p k damage is. damage-is (flaw_at base.header (held base.name) p) damage is

pub returns-clause-among : goal.returns-clause-among
returns-clause-among c = λ header bytes end p k valid is. word-among header bytes end p k valid is
