use Rattle.run_endings.proofs.note.put_line.Goals as goal

pub returns : goal.returns
returns g c =
    (c.line_of.result.items, c.line_of.ensures, (c.put.result, rw c.as_slice.ensures.value at c.put.ensures))
