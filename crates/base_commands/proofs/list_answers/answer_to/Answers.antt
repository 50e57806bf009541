use Rattle.base_commands.proofs.list_answers.answer_to.Goals as goal

pub returns-in-Pairs-clause-told : goal.returns-in-Pairs-clause-told
returns-in-Pairs-clause-told g c = rw c.in-Pairs.is c.show_line.ensures.told

pub returns-in-Play-clause-told : goal.returns-in-Play-clause-told
returns-in-Play-clause-told g c = rw c.in-Play.is c.advise_line.ensures.told
