use Rattle.std.proofs.Common.{[], ◌∷◌, ◌++◌, Ok, inl, inr, refl, arith}
use Rattle.outside_log.specs.Log.{GivenUp, Started, standing}
use Rattle.outside_log.proofs.Logs.{leaves-both, leaves-one, stay}
use Rattle.word_pages.specs.declared.version.Version.TheVariants.{One}
use Rattle.database_file.specs.Bases.{AnswersFrom}
use Rattle.whole_file_commands.specs.Verifies.{RefusesVerifying}
use Rattle.run_endings.proofs.Beginning.{of-file-before}
use Rattle.outside_log.specs.Readings.{ReadsOn, is_faithful}
use Rattle.outside_log.proofs.Readings.{completed-before, grown-before, leaves-before, leaves-faults, reads-both, reads-failures, reads-leave}
use Rattle.whole_file_commands.proofs.migrate.run_migrate.Goals as goal

pub returns-in-Err-clause-migrates : goal.returns-in-Err-clause-migrates
returns-in-Err-clause-migrates g c =
    let task = c.args.task.now in
    let before = g.F.Files.log c.args.files.now in
    let begun = g.F.Files.log c.begin.new.files in (
      inr (of-file-before (is_faithful (g.F.Files.log c.give_up.new.self)) (is_faithful (g.F.Files.log c.load_verified.new.files)) (standing before task.old) (standing begun task.old)
          (RefusesVerifying One task.old c.in-Err.refusal) (grown-before _ _ (GivenUp _ ∷ []) c.give_up.ensures) (stay before begun c.begin.ensures.leaves task.old)
          (rw (c.as_str-old.ensures) at c.in-Err.ensures.told)),
      refl,
    )

pub returns-in-Err-clause-leaves : goal.returns-in-Err-clause-leaves
returns-in-Err-clause-leaves g c =
    leaves-both _ _ _ c.begin.ensures.leaves (leaves-both _ _ _ (reads-leave c.load_verified.ensures.reads) (leaves-one _ _ (GivenUp _) tt c.give_up.ensures))

pub returns-in-Ok-complete-clause-migrates : goal.returns-in-Ok-complete-clause-migrates
returns-in-Ok-complete-clause-migrates g c =
    let task = c.args.task.now in
    let before = g.F.Files.log c.args.files.now in
    let begun = g.F.Files.log c.begin.new.files in
    let begins : ReadsOn (before ++ Started task.new ∷ []) begun = rw (c.as_str-new.ensures) at c.in_ok-begin.ensures.begun in
    let read = rw (c.as_str-old.ensures) at c.in-Ok.ensures.told in
    let base = c.in-Ok.base in (
      record {
        base = base;
        read = of-file-before _ _ _ _ (λ file. AnswersFrom One file (Ok base)) (completed-before c.in-Ok-complete.ensures.file) (stay before begun c.begin.ensures.leaves task.old) read.0;
        verified = read.1;
        file = record { begun = g.F.Files.log c.load_verified.new.files; begins = reads-both _ _ _ begins c.load_verified.ensures.reads; completes = c.in-Ok-complete.ensures.file };
        report = c.in-Ok-complete.ensures.told;
      },
      λ all. rw (c.as_str-new.ensures) at c.in_ok-begin.ensures.may (leaves-before (reads-leave c.load_verified.ensures.reads) (completed-before c.in-Ok-complete.ensures.file all)),
    )

pub returns-clause-migrates : goal.returns-clause-migrates
returns-clause-migrates g c =
    let task = c.args.task.now in
    let before = g.F.Files.log c.args.files.now in
    let begun = g.F.Files.log c.begin.new.files in
    let read = rw (c.as_str-old.ensures) at c.in-Ok.ensures.told in
    let base = c.in-Ok.base in
    elim c.in-Err-complete.ensures.front [
      | inl same ↦ inl same
      | inr put ↦ inr (record {
        base = base;
        read = of-file-before _ _ _ _ (λ file. AnswersFrom One file (Ok base)) (leaves-before c.in-Err-complete.ensures.leaves) (stay before begun c.begin.ensures.leaves task.old) read.0;
        verified = read.1;
        report = put;
      })
    ]

pub returns-clause-leaves : goal.returns-clause-leaves
returns-clause-leaves g c = leaves-both _ _ _ c.begin.ensures.leaves (leaves-both _ _ _ (reads-leave c.load_verified.ensures.reads) c.in-Err-complete.ensures.leaves)

pub returns-clause-cause : goal.returns-clause-cause
returns-clause-cause g c is =
    let first = c.begin.ensures.later in
    let same = reads-failures c.load_verified.ensures.reads in
    elim c.in-Err-complete.ensures.cause.failed [
      | inl files ↦ inl (omega (arith, first, same, files))
      | inr puts ↦ inr puts
    ]

pub returns-in-Err-clause-read_cause : goal.returns-in-Err-clause-read_cause
returns-in-Err-clause-read_cause g c is =
    let first = c.begin.ensures.read_later in
    let rose = c.in-Err.ensures.cause (cc) in
    let last = leaves-faults (leaves-one _ _ (GivenUp _) tt c.give_up.ensures) in
    omega (arith, first, rose, last)
