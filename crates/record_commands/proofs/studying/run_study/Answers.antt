use Rattle.std.proofs.Common.{inl, inr, refl}
use Rattle.record_commands.proofs.studying.run_study.Goals as goal

pub returns-in-Err-clause-tells : goal.returns-in-Err-clause-tells
returns-in-Err-clause-tells g c = (λ told. inl (rw (c.as_str.ensures) at c.in-Err.ensures.told told), refl)

pub returns-in_default-clause-tells : goal.returns-in_default-clause-tells
returns-in_default-clause-tells g c = (λ told. inr (record { replayed = c.in-Ok.replayed; record_file = rw (c.as_str.ensures) at c.in-Ok.ensures.told told; line = refl }), refl)

pub returns-in-Ok-write_shown-clause-tells : goal.returns-in-Ok-write_shown-clause-tells
returns-in-Ok-write_shown-clause-tells g c = record {
  list = c.in-Ok-study_replayed.analysis;
  studied = record { replayed = c.in-Ok.replayed; record_file = λ told. rw (c.as_str.ensures) at c.in-Ok.ensures.told told; studied = c.in-Ok-study_replayed.ensures.studied };
  report = c.in-Ok-write_shown.ensures;
}

pub returns-clause-tells : goal.returns-clause-tells
returns-clause-tells g c = record {
  list = c.in-Ok-study_replayed.analysis;
  studied = record { replayed = c.in-Ok.replayed; record_file = λ told. rw (c.as_str.ensures) at c.in-Ok.ensures.told told; studied = c.in-Ok-study_replayed.ensures.studied };
  report = (c.in-Err-write_shown.field-0, c.in-Err-write_shown.ensures);
}
