use Rattle.std.proofs.Common.{inl, inr}
use Rattle.whole_file_commands.proofs.verify.load_verified.Goals as goal

pub returns-in-Err-clause-told : goal.returns-in-Err-clause-told
returns-in-Err-clause-told g c =
    let read = c.in_ok-base.ensures.told in
    (read.0, read.1, elim c.in-Err.ensures.told [ inl memory ↦ inl (rw memory tt) | inr is ↦ inr (record { base = c.in_ok-base.base; read = read.2; is = is }) ])
