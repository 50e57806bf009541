use Rattle.std.proofs.Common.{[], ◌∷◌, ◌++◌, inl, inr}
use Rattle.outside_log.specs.Log.{GivenUp, Started}
use Rattle.outside_log.specs.Readings.{ReadsOn}
use Rattle.outside_log.proofs.Logs.{leaves-both, leaves-one}
use Rattle.outside_log.proofs.Readings.{completed-before}
use Rattle.record_commands.proofs.make.run_make.Goals as goal

pub returns-in_default-clause-leaves : goal.returns-in_default-clause-leaves
returns-in_default-clause-leaves g c = leaves-both _ _ _ c.begin.ensures.leaves (leaves-one (g.F.Files.log c.begin.new.files) (g.F.Files.log c.give_up.new.self) (GivenUp _) tt c.give_up.ensures)

pub returns-in-Ok-complete-clause-makes : goal.returns-in-Ok-complete-clause-makes
returns-in-Ok-complete-clause-makes g c =
    let before = g.F.Files.log c.args.files.now in
    let begun = g.F.Files.log c.begin.new.files in
    let name = c.args.task.now.file in
    let made = c.in-Ok-make_and_study.made in
    let begins : ReadsOn (before ++ Started name ∷ []) begun = rw (c.as_str-name.ensures) at c.in-Ok.ensures.begun in (
      record {
        made = made;
        is_made = c.in-Ok-make_and_study.ensures.made;
        file = record { begun = begun; begins = begins; completes = rw (c.as_str-name.ensures) at c.in-Ok-complete.ensures.file };
        report = c.in-Ok-complete.ensures.told;
      },
      λ told. rw (c.as_str-name.ensures) at c.in-Ok.ensures.may (completed-before c.in-Ok-complete.ensures.file told),
    )

pub returns-clause-makes : goal.returns-clause-makes
returns-clause-makes g c = elim c.in-Err-complete.ensures.front [
  | inl same ↦ inl same
  | inr put ↦ inr (record { made = c.in-Ok-make_and_study.made; is_made = c.in-Ok-make_and_study.ensures.made; report = put })
]

pub returns-clause-leaves : goal.returns-clause-leaves
returns-clause-leaves g c = leaves-both _ _ _ c.begin.ensures.leaves c.in-Err-complete.ensures.leaves
