use Rattle.base_commands.proofs.show.run_show.Goals as goal

pub returns-in-Ok-clause-tells : goal.returns-in-Ok-clause-tells
returns-in-Ok-clause-tells g c =
    let (head, of, file) = c.in_ok-shown.ensures.told in
    record { head = head; rows = c.in_ok-shown.shown.rows.items; file = file; report = rw (of.game, of.rounds, c.as_slice-rows.ensures.value) at c.in-Ok.ensures }
