-- Each command's clauses are the run's.
use Rattle.std.proofs.Common.{refl}
use Rattle.top_call.proofs.top.perform.Goals as goal

pub returns-in-Bound-clause-ends : goal.returns-in-Bound-clause-ends
returns-in-Bound-clause-ends g c = rw c.in-Bound.is (c.run_bound.ensures.ends)

pub returns-in-Bound-clause-has_run : goal.returns-in-Bound-clause-has_run
returns-in-Bound-clause-has_run g c = rw c.in-Bound.is (c.run_bound.ensures.tells)

pub returns-in-Bound-clause-untouched : goal.returns-in-Bound-clause-untouched
returns-in-Bound-clause-untouched g c = λ leaves. refl

pub returns-in-Bound-clause-noted : goal.returns-in-Bound-clause-noted
returns-in-Bound-clause-noted g c = rw c.in-Bound.is (refl)

pub returns-in-Race-clause-ends : goal.returns-in-Race-clause-ends
returns-in-Race-clause-ends g c = rw c.in-Race.is (c.run_race.ensures.ends)

pub returns-in-Race-clause-has_run : goal.returns-in-Race-clause-has_run
returns-in-Race-clause-has_run g c = rw c.in-Race.is (c.run_race.ensures.tells)

pub returns-in-Race-clause-untouched : goal.returns-in-Race-clause-untouched
returns-in-Race-clause-untouched g c = λ leaves. refl

pub returns-in-Race-clause-noted : goal.returns-in-Race-clause-noted
returns-in-Race-clause-noted g c = rw c.in-Race.is (refl)

pub returns-in-Solve-clause-ends : goal.returns-in-Solve-clause-ends
returns-in-Solve-clause-ends g c = rw c.in-Solve.is (c.run_solve.ensures.ends)

pub returns-in-Solve-clause-has_run : goal.returns-in-Solve-clause-has_run
returns-in-Solve-clause-has_run g c = rw c.in-Solve.is (c.run_solve.ensures.solves)

pub returns-in-Solve-clause-cause : goal.returns-in-Solve-clause-cause
returns-in-Solve-clause-cause g c = c.run_solve.ensures.cause

pub returns-in-Solve-clause-read_cause : goal.returns-in-Solve-clause-read_cause
returns-in-Solve-clause-read_cause g c = c.run_solve.ensures.read_cause

pub returns-in-Solve-clause-kept : goal.returns-in-Solve-clause-kept
returns-in-Solve-clause-kept g c = rw c.in-Solve.is (c.run_solve.ensures.leaves)

pub returns-in-Solve-clause-untouched : goal.returns-in-Solve-clause-untouched
returns-in-Solve-clause-untouched g c = rw c.in-Solve.is (λ leaves. absurd leaves)

pub returns-in-Solve-clause-noted : goal.returns-in-Solve-clause-noted
returns-in-Solve-clause-noted g c = rw c.in-Solve.is (refl)

pub returns-in-Show-clause-ends : goal.returns-in-Show-clause-ends
returns-in-Show-clause-ends g c = rw c.in-Show.is (c.run_show.ensures.ends)

pub returns-in-Show-clause-has_run : goal.returns-in-Show-clause-has_run
returns-in-Show-clause-has_run g c = rw c.in-Show.is (c.run_show.ensures.tells)

pub returns-in-Show-clause-read_cause : goal.returns-in-Show-clause-read_cause
returns-in-Show-clause-read_cause g c = c.run_show.ensures.read_cause

pub returns-in-Show-clause-kept : goal.returns-in-Show-clause-kept
returns-in-Show-clause-kept g c = rw c.in-Show.is (c.run_show.ensures.reads)

pub returns-in-Show-clause-untouched : goal.returns-in-Show-clause-untouched
returns-in-Show-clause-untouched g c = rw c.in-Show.is (λ leaves. absurd leaves)

pub returns-in-Show-clause-noted : goal.returns-in-Show-clause-noted
returns-in-Show-clause-noted g c = rw c.in-Show.is (refl)

pub returns-in-ShowList-clause-ends : goal.returns-in-ShowList-clause-ends
returns-in-ShowList-clause-ends g c = rw c.in-ShowList.is (c.run_show_list.ensures.ends)

pub returns-in-ShowList-clause-has_run : goal.returns-in-ShowList-clause-has_run
returns-in-ShowList-clause-has_run g c = rw c.in-ShowList.is (c.run_show_list.ensures.tells)

pub returns-in-ShowList-clause-read_cause : goal.returns-in-ShowList-clause-read_cause
returns-in-ShowList-clause-read_cause g c = c.run_show_list.ensures.read_cause

pub returns-in-ShowList-clause-kept : goal.returns-in-ShowList-clause-kept
returns-in-ShowList-clause-kept g c = rw c.in-ShowList.is (c.run_show_list.ensures.reads)

pub returns-in-ShowList-clause-untouched : goal.returns-in-ShowList-clause-untouched
returns-in-ShowList-clause-untouched g c = rw c.in-ShowList.is (λ leaves. absurd leaves)

pub returns-in-ShowList-clause-noted : goal.returns-in-ShowList-clause-noted
returns-in-ShowList-clause-noted g c = rw c.in-ShowList.is (c.run_show_list.ensures.noted)

pub returns-in-Migrate-clause-ends : goal.returns-in-Migrate-clause-ends
returns-in-Migrate-clause-ends g c = rw c.in-Migrate.is (c.run_migrate.ensures.ends)

pub returns-in-Migrate-clause-has_run : goal.returns-in-Migrate-clause-has_run
returns-in-Migrate-clause-has_run g c = rw c.in-Migrate.is (c.run_migrate.ensures.migrates)

pub returns-in-Migrate-clause-cause : goal.returns-in-Migrate-clause-cause
returns-in-Migrate-clause-cause g c = c.run_migrate.ensures.cause

pub returns-in-Migrate-clause-read_cause : goal.returns-in-Migrate-clause-read_cause
returns-in-Migrate-clause-read_cause g c = c.run_migrate.ensures.read_cause

pub returns-in-Migrate-clause-kept : goal.returns-in-Migrate-clause-kept
returns-in-Migrate-clause-kept g c = rw c.in-Migrate.is (c.run_migrate.ensures.leaves)

pub returns-in-Migrate-clause-untouched : goal.returns-in-Migrate-clause-untouched
returns-in-Migrate-clause-untouched g c = rw c.in-Migrate.is (λ leaves. absurd leaves)

pub returns-in-Migrate-clause-noted : goal.returns-in-Migrate-clause-noted
returns-in-Migrate-clause-noted g c = rw c.in-Migrate.is (refl)

pub returns-in-Advise-clause-ends : goal.returns-in-Advise-clause-ends
returns-in-Advise-clause-ends g c = rw c.in-Advise.is (c.run_advise.ensures.ends)

pub returns-in-Advise-clause-has_run : goal.returns-in-Advise-clause-has_run
returns-in-Advise-clause-has_run g c = rw c.in-Advise.is (c.run_advise.ensures.tells)

pub returns-in-Advise-clause-read_cause : goal.returns-in-Advise-clause-read_cause
returns-in-Advise-clause-read_cause g c = c.run_advise.ensures.read_cause

pub returns-in-Advise-clause-kept : goal.returns-in-Advise-clause-kept
returns-in-Advise-clause-kept g c = rw c.in-Advise.is (c.run_advise.ensures.reads)

pub returns-in-Advise-clause-untouched : goal.returns-in-Advise-clause-untouched
returns-in-Advise-clause-untouched g c = rw c.in-Advise.is (λ leaves. absurd leaves)

pub returns-in-Advise-clause-noted : goal.returns-in-Advise-clause-noted
returns-in-Advise-clause-noted g c = rw c.in-Advise.is (refl)

pub returns-in-AdviseList-clause-ends : goal.returns-in-AdviseList-clause-ends
returns-in-AdviseList-clause-ends g c = rw c.in-AdviseList.is (c.run_advise_list.ensures.ends)

pub returns-in-AdviseList-clause-has_run : goal.returns-in-AdviseList-clause-has_run
returns-in-AdviseList-clause-has_run g c = rw c.in-AdviseList.is (c.run_advise_list.ensures.tells)

pub returns-in-AdviseList-clause-read_cause : goal.returns-in-AdviseList-clause-read_cause
returns-in-AdviseList-clause-read_cause g c = c.run_advise_list.ensures.read_cause

pub returns-in-AdviseList-clause-kept : goal.returns-in-AdviseList-clause-kept
returns-in-AdviseList-clause-kept g c = rw c.in-AdviseList.is (c.run_advise_list.ensures.reads)

pub returns-in-AdviseList-clause-untouched : goal.returns-in-AdviseList-clause-untouched
returns-in-AdviseList-clause-untouched g c = rw c.in-AdviseList.is (λ leaves. absurd leaves)

pub returns-in-AdviseList-clause-noted : goal.returns-in-AdviseList-clause-noted
returns-in-AdviseList-clause-noted g c = rw c.in-AdviseList.is (c.run_advise_list.ensures.noted)

pub returns-in-Verify-clause-ends : goal.returns-in-Verify-clause-ends
returns-in-Verify-clause-ends g c = rw c.in-Verify.is (c.run_verify.ensures.ends)

pub returns-in-Verify-clause-has_run : goal.returns-in-Verify-clause-has_run
returns-in-Verify-clause-has_run g c = rw c.in-Verify.is (c.run_verify.ensures.tells)

pub returns-in-Verify-clause-read_cause : goal.returns-in-Verify-clause-read_cause
returns-in-Verify-clause-read_cause g c = c.run_verify.ensures.read_cause

pub returns-in-Verify-clause-kept : goal.returns-in-Verify-clause-kept
returns-in-Verify-clause-kept g c = rw c.in-Verify.is (c.run_verify.ensures.reads)

pub returns-in-Verify-clause-untouched : goal.returns-in-Verify-clause-untouched
returns-in-Verify-clause-untouched g c = rw c.in-Verify.is (λ leaves. absurd leaves)

pub returns-in-Verify-clause-noted : goal.returns-in-Verify-clause-noted
returns-in-Verify-clause-noted g c = rw c.in-Verify.is (refl)

pub returns-in-Ladder-clause-ends : goal.returns-in-Ladder-clause-ends
returns-in-Ladder-clause-ends g c = rw c.in-Ladder.is (c.run_ladder.ensures.ends)

pub returns-in-Ladder-clause-has_run : goal.returns-in-Ladder-clause-has_run
returns-in-Ladder-clause-has_run g c = rw c.in-Ladder.is (c.run_ladder.ensures.solves)

pub returns-in-Ladder-clause-cause : goal.returns-in-Ladder-clause-cause
returns-in-Ladder-clause-cause g c = c.run_ladder.ensures.cause

pub returns-in-Ladder-clause-read_cause : goal.returns-in-Ladder-clause-read_cause
returns-in-Ladder-clause-read_cause g c = c.run_ladder.ensures.read_cause

pub returns-in-Ladder-clause-kept : goal.returns-in-Ladder-clause-kept
returns-in-Ladder-clause-kept g c = rw c.in-Ladder.is (tt)

pub returns-in-Ladder-clause-untouched : goal.returns-in-Ladder-clause-untouched
returns-in-Ladder-clause-untouched g c = rw c.in-Ladder.is (λ leaves. absurd leaves)

pub returns-in-Ladder-clause-noted : goal.returns-in-Ladder-clause-noted
returns-in-Ladder-clause-noted g c = rw c.in-Ladder.is (refl)

pub returns-in-Study-clause-ends : goal.returns-in-Study-clause-ends
returns-in-Study-clause-ends g c = rw c.in-Study.is (c.run_study.ensures.ends)

pub returns-in-Study-clause-has_run : goal.returns-in-Study-clause-has_run
returns-in-Study-clause-has_run g c = rw c.in-Study.is (c.run_study.ensures.tells)

pub returns-in-Study-clause-read_cause : goal.returns-in-Study-clause-read_cause
returns-in-Study-clause-read_cause g c = c.run_study.ensures.read_cause

pub returns-in-Study-clause-kept : goal.returns-in-Study-clause-kept
returns-in-Study-clause-kept g c = rw c.in-Study.is (c.run_study.ensures.reads)

pub returns-in-Study-clause-untouched : goal.returns-in-Study-clause-untouched
returns-in-Study-clause-untouched g c = rw c.in-Study.is (λ leaves. absurd leaves)

pub returns-in-Study-clause-noted : goal.returns-in-Study-clause-noted
returns-in-Study-clause-noted g c = rw c.in-Study.is (refl)

pub returns-in-Make-clause-ends : goal.returns-in-Make-clause-ends
returns-in-Make-clause-ends g c = rw c.in-Make.is (c.run_make.ensures.ends)

pub returns-in-Make-clause-has_run : goal.returns-in-Make-clause-has_run
returns-in-Make-clause-has_run g c = rw c.in-Make.is (c.run_make.ensures.makes)

pub returns-in-Make-clause-cause : goal.returns-in-Make-clause-cause
returns-in-Make-clause-cause g c = c.run_make.ensures.cause

pub returns-in-Make-clause-read_cause : goal.returns-in-Make-clause-read_cause
returns-in-Make-clause-read_cause g c = c.run_make.ensures.read_cause

pub returns-in-Make-clause-kept : goal.returns-in-Make-clause-kept
returns-in-Make-clause-kept g c = rw c.in-Make.is (c.run_make.ensures.leaves)

pub returns-in-Make-clause-untouched : goal.returns-in-Make-clause-untouched
returns-in-Make-clause-untouched g c = rw c.in-Make.is (λ leaves. absurd leaves)

pub returns-in-Make-clause-noted : goal.returns-in-Make-clause-noted
returns-in-Make-clause-noted g c = rw c.in-Make.is (refl)

pub returns-in-Analyse-clause-ends : goal.returns-in-Analyse-clause-ends
returns-in-Analyse-clause-ends g c = rw c.in-Analyse.is (c.run_analyse.ensures.ends)

pub returns-in-Analyse-clause-has_run : goal.returns-in-Analyse-clause-has_run
returns-in-Analyse-clause-has_run g c = rw c.in-Analyse.is (c.run_analyse.ensures.tells)

pub returns-in-Analyse-clause-read_cause : goal.returns-in-Analyse-clause-read_cause
returns-in-Analyse-clause-read_cause g c = c.run_analyse.ensures.read_cause

pub returns-in-Analyse-clause-kept : goal.returns-in-Analyse-clause-kept
returns-in-Analyse-clause-kept g c = rw c.in-Analyse.is (c.run_analyse.ensures.reads)

pub returns-in-Analyse-clause-untouched : goal.returns-in-Analyse-clause-untouched
returns-in-Analyse-clause-untouched g c = rw c.in-Analyse.is (λ leaves. absurd leaves)

pub returns-in-Analyse-clause-noted : goal.returns-in-Analyse-clause-noted
returns-in-Analyse-clause-noted g c = rw c.in-Analyse.is (refl)

pub returns-in-Plan-clause-ends : goal.returns-in-Plan-clause-ends
returns-in-Plan-clause-ends g c = rw c.in-Plan.is (c.run_plan.ensures.ends)

pub returns-in-Plan-clause-has_run : goal.returns-in-Plan-clause-has_run
returns-in-Plan-clause-has_run g c = rw c.in-Plan.is (c.run_plan.ensures.tells)

pub returns-in-Plan-clause-read_cause : goal.returns-in-Plan-clause-read_cause
returns-in-Plan-clause-read_cause g c = c.run_plan.ensures.read_cause

pub returns-in-Plan-clause-kept : goal.returns-in-Plan-clause-kept
returns-in-Plan-clause-kept g c = rw c.in-Plan.is (c.run_plan.ensures.reads)

pub returns-in-Plan-clause-untouched : goal.returns-in-Plan-clause-untouched
returns-in-Plan-clause-untouched g c = rw c.in-Plan.is (λ leaves. absurd leaves)

pub returns-in-Plan-clause-noted : goal.returns-in-Plan-clause-noted
returns-in-Plan-clause-noted g c = rw c.in-Plan.is (refl)

pub returns-in-Scan-clause-ends : goal.returns-in-Scan-clause-ends
returns-in-Scan-clause-ends g c = rw c.in-Scan.is (c.run_scan.ensures.ends)

pub returns-in-Scan-clause-has_run : goal.returns-in-Scan-clause-has_run
returns-in-Scan-clause-has_run g c = rw c.in-Scan.is (c.run_scan.ensures.tells)

pub returns-in-Scan-clause-read_cause : goal.returns-in-Scan-clause-read_cause
returns-in-Scan-clause-read_cause g c = c.run_scan.ensures.read_cause

pub returns-in-Scan-clause-kept : goal.returns-in-Scan-clause-kept
returns-in-Scan-clause-kept g c = rw c.in-Scan.is (c.run_scan.ensures.reads)

pub returns-in-Scan-clause-noted : goal.returns-in-Scan-clause-noted
returns-in-Scan-clause-noted g c = rw c.in-Scan.is (refl)

pub returns-in-Reply-clause-ends : goal.returns-in-Reply-clause-ends
returns-in-Reply-clause-ends g c = rw c.in-Reply.is (c.run_reply.ensures.ends)

pub returns-in-Reply-clause-has_run : goal.returns-in-Reply-clause-has_run
returns-in-Reply-clause-has_run g c = rw c.in-Reply.is (c.run_reply.ensures.tells)

pub returns-in-Reply-clause-read_cause : goal.returns-in-Reply-clause-read_cause
returns-in-Reply-clause-read_cause g c = c.run_reply.ensures.read_cause

pub returns-in-Reply-clause-kept : goal.returns-in-Reply-clause-kept
returns-in-Reply-clause-kept g c = rw c.in-Reply.is (c.run_reply.ensures.reads)

pub returns-in-Reply-clause-untouched : goal.returns-in-Reply-clause-untouched
returns-in-Reply-clause-untouched g c = rw c.in-Reply.is (λ leaves. absurd leaves)

pub returns-in-Reply-clause-noted : goal.returns-in-Reply-clause-noted
returns-in-Reply-clause-noted g c = rw c.in-Reply.is (refl)

pub returns-in-Board-clause-ends : goal.returns-in-Board-clause-ends
returns-in-Board-clause-ends g c = rw c.in-Board.is (c.run_board.ensures.ends)

pub returns-in-Board-clause-has_run : goal.returns-in-Board-clause-has_run
returns-in-Board-clause-has_run g c = rw c.in-Board.is (c.run_board.ensures.tells)

pub returns-in-Board-clause-untouched : goal.returns-in-Board-clause-untouched
returns-in-Board-clause-untouched g c = λ leaves. refl

pub returns-in-Board-clause-noted : goal.returns-in-Board-clause-noted
returns-in-Board-clause-noted g c = rw c.in-Board.is (refl)
