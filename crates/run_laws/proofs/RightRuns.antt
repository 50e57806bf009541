-- What right files make of a run.
use Rattle.std.proofs.Common.{◌≡◌, ◌≤◌, ℕ, List, Bool, true, Ok, Err, Option, sum, inl, inr, refl, sym, ap, subst, arith}
use Rattle.hyper_outside.specs.Causes.{Rose}
use Rattle.outside_log.specs.Files.{Contents}
use Rattle.outside_log.specs.Log.{Event, standing}
use Rattle.outside_log.specs.Readings.{is_faithful, read_faults}
use Rattle.outside_log.specs.Sink.{Output}
use Rattle.race_table.specs.Races.{IsRaceOf}
use Rattle.word_pages.specs.declared.version.Version.{Version}
use Rattle.word_pages.specs.declared.version.Version.TheVariants.{Three}
use Rattle.base_head.specs.Headers.{magic}
use Rattle.record_commands.specs.Makes.{title_line}
use Rattle.command_line.specs.declared.command.Advise.{Advise as AdviseTask}
use Rattle.command_line.specs.declared.command.Analyse.{Analyse as AnalyseTask}
use Rattle.command_line.specs.declared.command.Bound.{Bound as BoundTask}
use Rattle.command_line.specs.declared.command.Command.{Command}
use Rattle.command_line.specs.declared.command.Command.TheVariants.{Bound, Race, Solve, Show, ShowList, Migrate, Advise, AdviseList, Verify, Ladder, Analyse, Study, Make, Plan, Scan, Reply, Board}
use Rattle.command_line.specs.declared.command.Ladder.{Ladder as LadderTask}
use Rattle.command_line.specs.declared.command.Migrate.{Migrate as MigrateTask}
use Rattle.command_line.specs.declared.command.Plan.{Plan as PlanTask}
use Rattle.command_line.specs.declared.command.Race.{Race as RaceTask}
use Rattle.command_line.specs.declared.command.Reply.{Reply as ReplyTask}
use Rattle.command_line.specs.declared.command.Scan.{Scan as ScanTask}
use Rattle.command_line.specs.declared.command.Show.{Show as ShowTask}
use Rattle.command_line.specs.declared.command.Study.{Study as StudyTask}
use Rattle.equity_report.specs.declared.refusal.Refusal.{Refusal}
use Rattle.equity_report.specs.declared.refusal.Refusal.TheVariants.{Memory, Read}
use Rattle.run_endings.specs.Endings.{Ending, IsOutside, PutsEnding, status_at}
use Rattle.run_endings.specs.declared.ending.RunStop.TheVariants.{NotWritten, Refused}
use Rattle.base_commands.specs.Advises.{MayRefuseAdvice}
use Rattle.whole_file_commands.specs.Migrates.{MayRefuseMigrating}
use Rattle.whole_file_commands.specs.Plans.{MayRefusePlanning, first_file}
use Rattle.whole_file_commands.specs.Replies.{MayRefuseReplying}
use Rattle.run_laws.specs.RightFiles.{IsRightForAdvising, IsRightForMigrating, IsRightForPlanning, IsRightForReplying, IsRightForScanning, IsRightForListing, IsRightForShowing, IsRightForVerifying}
use Rattle.whole_file_commands.specs.Scans.{MayRefuseScanning}
use Rattle.base_commands.specs.ListAnswers.{RefusesListing}
use Rattle.base_commands.specs.Shows.{RefusesShowing}
use Rattle.whole_file_commands.specs.Verifies.{MayRefuseVerifying}
use Rattle.run_laws.proofs.RightFiles.{right-begun}
use Rattle.solve_commands.specs.Ladders.{MayRefuseLadder, file_of}
use Rattle.solve_commands.specs.Races.{RefusesRace}
use Rattle.solve_commands.specs.Truth.{RefusesBound}
use Rattle.record_commands.specs.Analyses.{MayRefuseAnalysis}
use Rattle.run_laws.specs.RightRecords.{IsRightForAnalysing, IsRightForStudying}
use Rattle.record_commands.specs.Studies.{MayRefuseStudy}
use Rattle.top_call.specs.Outcomes.{Does, HasRun, RunsAsAsked}
use Rattle.run_laws.specs.RightRuns.{AreAnswered, IsDoneUnlessHindered, IsRightFor, IsRightForLadder, WritingFailed}

-- ---- the laws of the families

pub record FileLaws : Type 0 where
  pub show : (task : ShowTask) (held : Option (List ℕ)) (refusal : Refusal) → IsRightForShowing task held → RefusesShowing task refusal held → IsOutside refusal
  pub list : (file list : List ℕ) (held : Contents) (refusal : Refusal) → IsRightForListing file list held → RefusesListing file list refusal held → IsOutside refusal
  pub advise : (task : AdviseTask) (held : Option (List ℕ)) (refusal : Refusal) → IsRightForAdvising task held → MayRefuseAdvice task true held refusal → IsOutside refusal
  pub verify : (oldest : Version) (name : List ℕ) (held : Option (List ℕ)) (refusal : Refusal) → IsRightForVerifying oldest held → MayRefuseVerifying oldest name true held refusal → IsOutside refusal
  pub migrate : (task : MigrateTask) (held : Contents) (refusal : Refusal) → IsRightForMigrating task held → MayRefuseMigrating task true held refusal → IsOutside refusal
  pub scan : (task : ScanTask) (held : Option (List ℕ)) (refusal : Refusal) → IsRightForScanning task held → MayRefuseScanning task true held refusal → IsOutside refusal
  pub reply : (task : ReplyTask) (held : Option (List ℕ)) (refusal : Refusal) → IsRightForReplying task held → MayRefuseReplying task true held refusal → IsOutside refusal
  pub plan : (task : PlanTask) (held : Option (List ℕ)) (refusal : Refusal) → IsRightForPlanning task held → MayRefusePlanning task true held refusal → IsOutside refusal

pub record RecordLaws : Type 0 where
  pub study : (task : StudyTask) (held : Option (List ℕ)) (refusal : Refusal) → IsRightForStudying task held → MayRefuseStudy task true held refusal → IsOutside refusal
  pub analyse : (task : AnalyseTask) (held : Contents) (refusal : Refusal) → IsRightForAnalysing task held → MayRefuseAnalysis task true held refusal → IsOutside refusal

-- ---- commands without a file that is read

no-memory : (refusal : Refusal) → refusal ≡ Memory → IsOutside refusal
no-memory refusal is = subst IsOutside (sym is) tt

right-bound : (task : BoundTask) (refusal : Refusal) → sum task.position.mover ≡ task.checkers → RefusesBound task refusal → IsOutside refusal
right-bound task refusal same (inl other) = absurd (other.other same)
right-bound task refusal same (inr memory) = no-memory refusal memory.1

right-race : (task : RaceTask) (refusal : Refusal) → IsRaceOf task.checkers task.position → RefusesRace task refusal → IsOutside refusal
right-race task refusal race (inl other) = absurd (other.other race.many)
right-race task refusal race (inr (inl contact)) = absurd (contact.contact race.race)
right-race task refusal race (inr (inr memory)) = no-memory refusal memory.1

right-ladder : (task : LadderTask) (held : Contents) (refusal : Refusal) → IsRightForLadder task held → MayRefuseLadder task true held refusal → IsOutside refusal
right-ladder task held refusal right stops =
    right-begun magic (file_of task stops.place) (held (file_of task stops.place)) refusal (right stops.place stops.inside) (stops.cause.1 refl)

-- ---- all commands

module _ (files : FileLaws) (records : RecordLaws) (before after : List Event) (old new : Output) (refusal : Refusal) (told : is_faithful after ≡ true) where
  -- of a refusal that comes where all answers were faithful
  faithfully : (May : Bool → Type 0) → May (is_faithful after) → May true
  faithfully May may = subst May told may

  not-refused : (command : Command) → IsRightFor command (standing before) → HasRun command before after old new (Err (Refused refusal)) → IsOutside refusal
  not-refused (Bound task) right run = right-bound task refusal right run.0
  not-refused (Race task) right run = right-race task refusal right run.0
  not-refused (Solve task) right run = right-begun magic task.file (standing before task.file) refusal right (run.0 told)
  not-refused (Show task) right run = files.show task (standing before task.file) refusal right (run.0 told)
  not-refused (ShowList task) right run = files.list task.file task.list (standing before) refusal right (run.0 told)
  not-refused (Migrate task) right run = files.migrate task (standing before) refusal right (faithfully (λ told. MayRefuseMigrating task told (standing before) refusal) run.0)
  not-refused (Advise task) right run = files.advise task (standing before task.file) refusal right (faithfully (λ told. MayRefuseAdvice task told (standing before task.file) refusal) run.0)
  not-refused (AdviseList task) right run = files.list task.file task.list (standing before) refusal right (run.0 told)
  not-refused (Verify task) right run = files.verify Three task.file (standing before task.file) refusal right (faithfully (λ told. MayRefuseVerifying Three task.file told (standing before task.file) refusal) run.0)
  not-refused (Ladder task) right (inl run) = no-memory refusal run.0
  not-refused (Ladder task) right (inr run) = right-ladder task (standing before) refusal right (faithfully (λ told. MayRefuseLadder task told (standing before) refusal) run.0)
  not-refused (Analyse task) right run = records.analyse task (standing before) refusal right (faithfully (λ told. MayRefuseAnalysis task told (standing before) refusal) run.0)
  not-refused (Study task) right run = records.study task (standing before task.rec) refusal right (faithfully (λ told. MayRefuseStudy task told (standing before task.rec) refusal) run.0)
  not-refused (Make task) right run = right-begun title_line task.file (standing before task.file) refusal right (run.0 told)
  not-refused (Plan task) right run = files.plan task (standing before (first_file task)) refusal right (faithfully (λ told. MayRefusePlanning task told (standing before (first_file task)) refusal) run.0)
  not-refused (Scan task) right run = files.scan task (standing before task.file) refusal right (faithfully (λ told. MayRefuseScanning task told (standing before task.file) refusal) run.0)
  not-refused (Reply task) right run = files.reply task (standing before task.file) refusal right (faithfully (λ told. MayRefuseReplying task told (standing before task.file) refusal) run.0)
  not-refused (Board task) right run = absurd run.0

-- ---- the status

abbrev refused : Refusal → Ending
refused refusal = Err (Refused refusal)

rose-on : (before now later : ℕ) → Rose before now → now ≤ later → Rose before later
rose-on before now later rose on = omega (arith, rose, on)

-- behind the command the output's count of faults doesn't fall
failed-on : (before after : List Event) (old behind new : Output) (ending : Ending) → PutsEnding ending behind new → WritingFailed before after old behind → WritingFailed before after old new
failed-on before after old behind new ending line (inl files) = inl files
failed-on before after old behind new (Ok done) line (inr output) = inr (subst (λ (out : Output). Rose old.faults out.faults) (sym line) output)
failed-on before after old behind new (Err NotWritten) line (inr output) = inr (rose-on old.faults behind.faults new.faults output line.1.cause.later)
failed-on before after old behind new (Err (Refused refusal)) line (inr output) = inr (rose-on old.faults behind.faults new.faults output line.1.cause.later)

module _ (files : FileLaws) (records : RecordLaws) (command : Command) (before after : List Event) (old new : Output) (answered : AreAnswered before after) (right : IsRightFor command (standing before)) where
  done-if : (behind : Output) (ending : Ending) → Does command before after old behind ending → PutsEnding ending behind new → IsDoneUnlessHindered before after old new (status_at ending)
  done-if behind (Ok done) does line = inl refl
  done-if behind (Err NotWritten) does line = inr (inl (refl, failed-on before after old behind new (Err NotWritten) line (does.cause refl)))
  done-if behind (Err (Refused refusal)) does line = by_refusal refusal (not-refused files records before after old behind refusal answered.faithful command right does.has_run) (λ is. does.read_cause (ap refused is)) where
    by_refusal : (refusal : Refusal) → IsOutside refusal → (refusal ≡ Read → Rose (read_faults before) (read_faults after)) → IsDoneUnlessHindered before after old new (status_at (refused refusal))
    by_refusal Read outside cause = absurd (answered.unfailed (cause refl))
    by_refusal Memory outside cause = inr (inr refl)
    by_refusal refusal outside cause = absurd outside

  pub right-run : (status : ℕ) (ending : Ending) → RunsAsAsked (Ok command) before after old new status ending → IsDoneUnlessHindered before after old new status
  right-run status ending runs = subst (IsDoneUnlessHindered before after old new) (sym runs.is_status) (elim runs.does [
    | inl does ↦ done-if runs.behind ending does runs.line
    | inr words ↦ subst (λ (e : Ending). IsDoneUnlessHindered before after old new (status_at e)) (sym words.refused) (inr (inr refl))
  ])
