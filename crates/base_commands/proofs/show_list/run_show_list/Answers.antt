use Rattle.base_commands.proofs.show_list.run_show_list.Goals as goal

pub returns-clause-tells : goal.returns-clause-tells
returns-clause-tells g c = rw (c.as_str-file.ensures, c.as_str-list.ensures) at c.run_list.ensures.tells
