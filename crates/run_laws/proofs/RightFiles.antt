-- Right files are refused for no fault of theirs.
use Rattle.std.proofs.Common.{◌≡◌, ◌∙◌, List, ℕ, true, Option, Some, None, inl, inr, refl, sym, subst, arith}
use Rattle.std.specs.Prelude.{IsFalse}
use Rattle.std.proofs.lemmas.Bool.{false≢true}
use Rattle.std.proofs.lemmas.Option.{none-some}
use Rattle.position_text.specs.Text.{words}
use Rattle.outside_log.specs.Files.{Contents}
use Rattle.outside_log.specs.Reading.{begins_otherwise}
use Rattle.turn_rule.specs.Truth.{AreConsistent}
use Rattle.interval_words.specs.WordLists.{words_in_list}
use Rattle.word_pages.specs.declared.version.Version.{Version}
use Rattle.word_pages.specs.declared.version.Version.TheVariants.{One, Three}
use Rattle.base_head.specs.Heads.{FileHead, stakes_of}
use Rattle.base_head.specs.Headers.{magic}
use Rattle.database_file.specs.Faults.{Read as FileRead, whole}
use Rattle.database_file.specs.FileBases.{FileBase}
use Rattle.command_line.specs.declared.command.Advise.{Advise as AdviseTask}
use Rattle.command_line.specs.declared.command.Migrate.{Migrate}
use Rattle.command_line.specs.declared.command.Plan.{Plan}
use Rattle.command_line.specs.declared.command.Reply.{Reply as ReplyTask}
use Rattle.command_line.specs.declared.command.Scan.{Scan}
use Rattle.command_line.specs.declared.command.Show.{Show as ShowTask}
use Rattle.equity_report.specs.declared.refusal.Refusal.{Refusal}
use Rattle.equity_report.specs.declared.refusal.Refusal.TheVariants.{Missing, Other, Read, Record, Memory}
use Rattle.run_endings.specs.Beginnings.{RefusesBeginning}
use Rattle.run_endings.specs.Endings.{IsOutside}
use Rattle.base_commands.specs.Advises.{MayRefuseAdvice, RestsOn}
use Rattle.run_endings.specs.Games.{IsKindAsked, WantsCheckers, WantsOther}
use Rattle.whole_file_commands.specs.Migrates.{MayRefuseMigrating}
use Rattle.whole_file_commands.specs.Plans.{MayRefusePlanning, RefusesPlanning, WantsFirst, first_file}
use Rattle.whole_file_commands.specs.Replies.{MayRefuseReplying, RefusesReplying}
use Rattle.run_laws.specs.RightFiles.{IsRightForAdvising, IsRightForMigrating, IsRightForPlanning, IsRightForReplying, IsRightForScanning, IsRightForListing, IsRightForShowing, IsRightForVerifying, HasRightFront, IsRightList}
use Rattle.whole_file_commands.specs.Scans.{MayRefuseScanning, RefusesScanning}
use Rattle.base_commands.specs.Lists.{RefusesList}
use Rattle.base_commands.specs.ListAnswers.{RefusesListing}
use Rattle.base_commands.specs.Shows.{RefusesShowing}
use Rattle.run_endings.specs.Pages.{RefusesOpening}
use Rattle.whole_file_commands.specs.Verifies.{MayRefuseVerifying, RefusesVerifying}
use Rattle.run_laws.proofs.RightLoads.{not-other, right-fits, right-front, right-loads, right-opens, right-page}

-- ---- files that are looked up

pub right-shown : (task : ShowTask) (held : Option (List ℕ)) (refusal : Refusal) → IsRightForShowing task held → RefusesShowing task refusal held → IsOutside refusal
right-shown task None refusal can refused = absurd can
right-shown task (Some bytes) refusal can (inl opening) =
    right-front bytes can (WantsCheckers task.position) task.file refusal (λ wants. wants.other can.fits) opening
right-shown task (Some bytes) refusal can (inr bad) = absurd (right-page bytes can task.position 0 refl refusal bad.page)

right-list : (name : List ℕ) (held : Option (List ℕ)) (refusal : Refusal) → IsRightList held → RefusesList name refusal held → IsOutside refusal
right-list name None refusal right refused = absurd right
right-list name (Some list) (Missing missing) right refused = absurd (none-some list (sym refused.1))
right-list name (Some list) (Record bad) right refused = absurd (omega (arith, right, refused.1))
right-list name (Some list) Read right refused = tt
right-list name (Some list) Memory right refused = tt
right-list name (Some list) refusal right refused = absurd refused

right-opened : (name : List ℕ) (held : Option (List ℕ)) (refusal : Refusal) → HasRightFront held → RefusesOpening name refusal held → IsOutside refusal
right-opened name None refusal right refused = absurd right
right-opened name (Some bytes) refusal right refused = right-opens name bytes right refusal refused

pub right-listed : (file list : List ℕ) (held : Contents) (refusal : Refusal) → IsRightForListing file list held → RefusesListing file list refusal held → IsOutside refusal
right-listed file list held refusal right (inl refused) = right-list list (held list) refusal right.0 refused
right-listed file list held refusal right (inr refused) = right-opened file (held file) refusal right.1 refused

pub right-advised : (task : AdviseTask) (held : Option (List ℕ)) (refusal : Refusal) → IsRightForAdvising task held → MayRefuseAdvice task true held refusal → IsOutside refusal
right-advised task None refusal can may = absurd can
right-advised task (Some bytes) refusal can may = elim (may refl) [
  | inl opening ↦ right-front bytes can (WantsOther task.position task.kind) task.file refusal (not-other task.position task.kind _ refusal can.fits) opening
  | inr bad ↦ (
      let page = bad.page in
      let asked = bad.asked in
      let rests = subst (λ (head : FileHead). RestsOn task.roll (stakes_of head) task.position bad.kind.number page.position page.kind) asked.head_is page.among in
      let kind = subst (λ (head : FileHead). IsKindAsked head task.kind bad.kind) asked.head_is asked.kind_is in
      absurd (right-page bytes can page.position page.kind (bad.kind, kind, rests) refusal page.page)
      )
]

-- ---- files that are loaded

pub right-verified : (oldest : Version) (name : List ℕ) (held : Option (List ℕ)) (refusal : Refusal) → IsRightForVerifying oldest held → MayRefuseVerifying oldest name true held refusal → IsOutside refusal
right-verified oldest name None refusal can may = absurd can
right-verified oldest name (Some bytes) refusal can may = by_cause (subst (λ (file : Option FileRead). RefusesVerifying oldest name refusal file) (may.1 refl) may.2) where
  by_cause : RefusesVerifying oldest name refusal (Some (whole bytes)) → IsOutside refusal
  by_cause (inl loads) = right-loads oldest name (whole bytes) can.base can.read refusal loads
  by_cause (inr holds) =
      let same : can.base ≡ holds.base = can.read.holds ∙ sym holds.read.holds in
      absurd (holds.is.inconsistent (subst (λ (b : FileBase). AreConsistent b.words.game (words_in_list b.words)) same can.fits))

pub right-searched : (task : Scan) (held : Option (List ℕ)) (refusal : Refusal) → IsRightForScanning task held → MayRefuseScanning task true held refusal → IsOutside refusal
right-searched task None refusal right may = absurd right.1
right-searched task (Some bytes) refusal right may = by_cause (subst (λ (file : Option FileRead). RefusesScanning task refusal file) (may.1 refl) may.2) where
  by_cause : RefusesScanning task refusal (Some (whole bytes)) → IsOutside refusal
  by_cause (inl bad) = absurd (bad.first.here (right.0.0, words task.condition, right.0.1, refl))
  by_cause (inr loading) = right-loads Three task.file (whole bytes) right.1.base right.1.read refusal loading.1

pub right-replied : (task : ReplyTask) (held : Option (List ℕ)) (refusal : Refusal) → IsRightForReplying task held → MayRefuseReplying task true held refusal → IsOutside refusal
right-replied task None refusal can may = absurd can
right-replied task (Some bytes) refusal can may =
    right-fits (WantsOther task.position task.kind) task.file (whole bytes) can.base can.read refusal (not-other task.position task.kind can.base.head refusal can.fits)
    (subst (λ (file : Option FileRead). RefusesReplying task refusal file) (may.1 refl) may.2)

pub right-planned : (task : Plan) (held : Option (List ℕ)) (refusal : Refusal) → IsRightForPlanning task held → MayRefusePlanning task true held refusal → IsOutside refusal
right-planned task None refusal can may = absurd can
right-planned task (Some bytes) refusal can may =
    right-fits (WantsFirst task.match_length) (first_file task) (whole bytes) can.base can.read refusal (λ wants. wants.other can.fits)
    (subst (λ (file : Option FileRead). RefusesPlanning task refusal file) (may.1 refl) may.2)

-- ---- files that are written

-- what may be replaced refuses no file that is to be begun
pub right-begun : (start name : List ℕ) (held : Option (List ℕ)) (refusal : Refusal) → IsFalse (begins_otherwise start held) → RefusesBeginning start name refusal held → IsOutside refusal
right-begun start name held (Other other) may r = absurd (false≢true (sym may ∙ r.1))
right-begun start name held Read may r = tt
right-begun start name held Memory may r = tt
right-begun start name held refusal may r = absurd r

pub right-migrated : (task : Migrate) (held : Contents) (refusal : Refusal) → IsRightForMigrating task held → MayRefuseMigrating task true held refusal → IsOutside refusal
right-migrated task held refusal right (inl beginning) = right-begun magic task.new (held task.new) refusal right.1 (beginning refl)
right-migrated task held refusal right (inr verifying) = right-verified One task.old (held task.old) refusal right.0 verifying
