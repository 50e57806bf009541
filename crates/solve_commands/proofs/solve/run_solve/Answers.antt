use Rattle.std.proofs.Common.{[], ◌∷◌, ◌++◌, inl, inr}
use Rattle.outside_log.specs.Log.{GivenUp, Started, standing}
use Rattle.outside_log.specs.Readings.{ReadsOn, is_faithful}
use Rattle.outside_log.proofs.Logs.{leaves-both, leaves-one}
use Rattle.outside_log.proofs.Readings.{completed-before}
use Rattle.solve_commands.specs.Solves.{Solves}
use Rattle.solve_commands.proofs.Residuals.{at-err, on-err}
use Rattle.solve_commands.proofs.solve.run_solve.Goals as goal

pub returns-in_default-clause-leaves : goal.returns-in_default-clause-leaves
returns-in_default-clause-leaves g c = leaves-both _ _ _ c.begin.ensures.leaves (leaves-one _ _ (GivenUp _) tt c.give_up.ensures)

pub returns-in_err-complete-clause-leaves : goal.returns-in_err-complete-clause-leaves
returns-in_err-complete-clause-leaves g c = on-err _ (leaves-both _ _ _ c.begin.ensures.leaves c.in_err-complete.ensures.leaves)

pub returns-in_err-complete-clause-solves : goal.returns-in_err-complete-clause-solves
returns-in_err-complete-clause-solves g c =
    let task = c.args.task.now in
    let before = g.F.Files.log c.args.files.now in
    let after = g.F.Files.log c.complete.new.files in
    let front = rw c.words-words.ensures.words at c.in_err-complete.ensures.front in
    at-err (Solves task (is_faithful after) (standing before task.file) before after (g.O.Sink.output c.args.out.now) (g.O.Sink.output c.complete.new.out)) _ _ c.from_residual-in_err-complete.ensures.1 (elim front [
      | inl same ↦ inl same
      | inr put ↦ inr (record {
        words = c.in-Ok.closed;
        solved = c.in-Ok.ensures;
        widest = c.widest.result;
        is_widest = rw c.words-words.ensures.words at c.widest.ensures;
        report = put;
      })
    ])

pub returns-clause-solves : goal.returns-clause-solves
returns-clause-solves g c =
    let task = c.args.task.now in
    let named = c.as_str-name.ensures in
    let begun = g.F.Files.log c.begin.new.files in
    let begins : ReadsOn (g.F.Files.log c.args.files.now ++ Started task.file ∷ []) begun = rw named at c.in_ok-begin.ensures.begun in
    let completes = c.in_ok-complete.ensures in (
      record {
        words = c.in-Ok.closed;
        solved = c.in-Ok.ensures;
        file = record { begun = begun; begins = begins; completes = rw c.words-words.ensures.words at completes.file };
        widest = c.widest.result;
        is_widest = rw c.words-words.ensures.words at c.widest.ensures;
        report = rw c.words-words.ensures.words at completes.told;
      },
      λ all. rw named at c.in_ok-begin.ensures.may (completed-before completes.file all),
    )
