use Rattle.base_commands.proofs.list_answers.add_line.Goals as goal

pub returns-in-Ok-clause-added : goal.returns-in-Ok-clause-added
returns-in-Ok-clause-added g c = record { answer = c.in_ok-answer.answer; answers = c.in_ok-answer.ensures.told; added = c.in-Ok.ensures }
