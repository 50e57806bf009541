use Rattle.whole_file_commands.proofs.verify.run_verify.Goals as goal

pub returns-in-Ok-clause-tells : goal.returns-in-Ok-clause-tells
returns-in-Ok-clause-tells g c =
    let told = rw (c.as_str-name.ensures) at c.in_ok-base.ensures.told in
    record { base = c.in_ok-base.base; read = told.0; verified = told.1; report = rw (c.head.ensures.head) at c.in-Ok.ensures }

pub returns-clause-tells : goal.returns-clause-tells
returns-clause-tells g c =
    let told = rw (c.as_str-name.ensures) at c.in_ok-base.ensures.told in
    record { base = c.in_ok-base.base; read = told.0; verified = told.1; report = (_, rw (c.head.ensures.head) at c.in-Err.ensures) }
