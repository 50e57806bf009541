-- Right records and right files are refused for no fault of theirs.
use Rattle.std.proofs.Common.{◌≡◌, ◌∙◌, List, ℕ, map, length, ◌≤◌, arith, get_or, All, Bool, true, false, Contains, Option, Some, None, IfSome, IsSomeAnd, ◌⊎◌, inl, inr, refl, sym, ap, subst}
use Rattle.std.specs.Option.{option_map}
use Rattle.std.proofs.lemmas.Option.{none-some}
use Rattle.outside_log.specs.Files.{Contents}
use Rattle.cube_actions.specs.Ladder.{IsOfMatch}
use Rattle.cube_actions.specs.Scores.{MatchScore}
use Rattle.record_text.specs.Faults.{IsBad}
use Rattle.game_record.specs.Lines.{IsRecord}
use Rattle.record_text.specs.Texts.{IsRecordText}
use Rattle.game_record.specs.Replay.{IsBroken, IsReplay}
use Rattle.game_record.specs.RightDecisions.{IsRightDecision}
use Rattle.game_record.specs.Turns.{has_match}
use Rattle.game_record.specs.declared.decision.Decision.{Decision}
use Rattle.game_record.specs.declared.fault.BadRecord.{BadRecord}
use Rattle.game_record.specs.declared.fault.RecordStop.{RecordStop}
use Rattle.game_record.specs.declared.record.Record.{Record as RecordRead}
use Rattle.game_record.specs.declared.record.RecordStakes.TheVariants.{Match}
use Rattle.record_study.specs.Keeping.{IsDecisionInMatch}
use Rattle.record_study.proofs.Matches.{if-given}
use Rattle.record_study.proofs.Records.{Law, in-match}
use Rattle.word_pages.specs.declared.flaws.Flaw.{Flaw}
use Rattle.base_head.specs.Fronts.{bad_of}
use Rattle.database_file.specs.Faults.{fault_before_pages, whole}
use Rattle.database_file.specs.Texts.{game_in}
use Rattle.command_line.specs.declared.command.Analyse.{Analyse}
use Rattle.command_line.specs.declared.command.Study.{Study}
use Rattle.equity_report.specs.declared.text.GameName.{GameName}
use Rattle.equity_report.specs.declared.refusal.Refusal.{Refusal}
use Rattle.equity_report.specs.declared.refusal.Refusal.TheVariants.{Missing, File, Record, Read, Memory}
use Rattle.run_endings.specs.Endings.{IsOutside}
use Rattle.run_endings.specs.Pages.{OfHeld, RefusesOpening}
use Rattle.run_endings.specs.Scores.{score_file}
use Rattle.record_commands.specs.Analyses.{MayRefuseAnalysis, RefusesAnalysis, RefusesBy}
use Rattle.record_commands.specs.ByFile.{IsBadPageFor, IsDecisionFor, RefusesFile, RefusesFront, front_head}
use Rattle.record_commands.specs.MatchAnalyses.{RefusesMatch, game_at, score_there}
use Rattle.plain_record.specs.Plain.{line_numbers, plain_text}
use Rattle.record_commands.specs.Records.{HoldsRecord, IsRightReplayed, IsWrongPlain, RefusesRecord, at_line, game_recorded}
use Rattle.run_laws.specs.RightRecords.{CanJudge, CanJudgeAll, CanJudgeAtScore, CanJudgeBy, HasRightFrontFor, HasRightPages, IsRightForAnalysing, IsRightForStudying}
use Rattle.record_commands.specs.Studies.{MayRefuseStudy}
use Rattle.record_commands.specs.declared.record.Replayed.{Replayed}
use Rattle.record_commands.proofs.ReadRecords.{right-at-lines}
use Rattle.record_commands.proofs.Losses.{choice-state}
use Rattle.record_commands.proofs.Matches.{there}
use Rattle.record_commands.proofs.MatchTruth.{decision-at}
use Rattle.record_commands.proofs.Recorded.{plain-decision}

-- ---- records

-- the laws on texts and replays of records
abbrev NoFault : Type 0
NoFault = (text : List ℕ) (rec : RecordRead) (bad : BadRecord) → IsRecordText text rec → IsBad text bad → ⊥

abbrev OneRecord : Type 0
OneRecord = (text : List ℕ) (rec other : RecordRead) → IsRecordText text rec → IsRecordText text other → rec ≡ other

abbrev OneReplay : Type 0
OneReplay = (rec : RecordRead) (told others : List Decision) → IsReplay rec told → IsReplay rec others → told ≡ others

abbrev NoBreach : Type 0
NoBreach = (rec : RecordRead) (told : List Decision) (bad : BadRecord) → IsReplay rec told → IsBroken rec bad → ⊥

abbrev Holds : Option (List ℕ) → Replayed → Type 0
Holds held replayed = OfHeld held (λ bytes. HoldsRecord bytes replayed)

-- a right record is refused by no line of it
right-record : NoFault → OneRecord → NoBreach → (name : List ℕ) (held : Option (List ℕ)) (replayed : Replayed) → Holds held replayed → (refusal : Refusal) → RefusesRecord name refusal held → IsOutside refusal
right-record no_fault one no_breach name None replayed holds refusal r = absurd holds
right-record no_fault one no_breach name (Some bytes) replayed holds (Missing missing) r = absurd (none-some bytes (sym r.1))
right-record no_fault one no_breach name (Some bytes) replayed holds (Record bad) (inl long) = let short = holds.short in let more = long.0 in absurd (omega arith)
right-record no_fault one no_breach name (Some bytes) replayed holds (Record bad) (inr wrong) = by_cause wrong.wrong where
  by_cause : IsWrongPlain (plain_text bytes) wrong.plain → IsOutside (Record bad)
  by_cause (inl fault) = absurd (no_fault (plain_text bytes) replayed.rec wrong.plain holds.plain.text fault)
  by_cause (inr (rec, text, broken)) =
      absurd (no_breach replayed.rec holds.told wrong.plain holds.plain.replay (subst (λ (r : RecordRead). IsBroken r wrong.plain) (one (plain_text bytes) rec replayed.rec text holds.plain.text) broken))
right-record no_fault one no_breach name (Some bytes) replayed holds Memory r = tt
right-record no_fault one no_breach name (Some bytes) replayed holds Read r = tt
right-record no_fault one no_breach name (Some bytes) replayed holds refusal r = absurd r

-- a file holds one record, with one list of decisions
same-record : OneRecord → OneReplay → (held : Option (List ℕ)) (replayed other : Replayed) → Holds held replayed → Holds held other → replayed ≡ other
same-record one replay None replayed other holds also = absurd holds
same-record one replay (Some bytes) replayed other holds also =
    let rec = one (plain_text bytes) replayed.rec other.rec holds.plain.text also.plain.text in
    let told = replay other.rec holds.told also.told (subst (λ (r : RecordRead). IsReplay r holds.told) rec holds.plain.replay) also.plain.replay in
    let decisions : replayed.decisions ≡ other.decisions = holds.lines ∙ ap (map (at_line (line_numbers bytes))) told ∙ sym also.lines in
    λ i. record { rec = rec i; decisions = decisions i }

-- ---- files that can judge

right-opens : (name bytes : List ℕ) → fault_before_pages (whole bytes) ≡ None → (refusal : Refusal) → RefusesOpening name refusal (Some bytes) → IsOutside refusal
right-opens name bytes front (Missing missing) r = absurd (none-some bytes (sym r.1))
right-opens name bytes front (File bad) r = absurd (none-some bad (sym front ∙ r))
right-opens name bytes front Read r = tt
right-opens name bytes front Memory r = tt
right-opens name bytes front refusal r = absurd r

right-front : (wanted : GameName) (name : List ℕ) (held : Option (List ℕ)) (refusal : Refusal) → OfHeld held (HasRightFrontFor wanted) → RefusesFront wanted name refusal held → IsOutside refusal
right-front wanted name None refusal has r = absurd has
right-front wanted name (Some bytes) refusal has (inl r) = right-opens name bytes has.front refusal r
right-front wanted name (Some bytes) refusal has (inr other) = absurd (other.other.1 has.game)

right-page : (wanted : GameName) (decision : Decision) (held : Option (List ℕ)) (refusal : Refusal) → OfHeld held (CanJudge wanted decision) → OfHeld held (IsBadPageFor wanted decision refusal) → ⊥
right-page wanted decision None refusal can bad = can
right-page wanted decision (Some bytes) refusal can bad =
    none-some refusal (sym (ap (option_map (λ (flaw : Flaw). File (bad_of flaw))) (can.pages bad.page.position bad.page.kind bad.page.among)) ∙ bad.page.page)

-- what holds of all holds of one among them
at-one : (P : Decision → Type 0) (decisions : List Decision) (decision : Decision) → All P decisions → Contains decisions decision → P decision
at-one P decisions decision all (k, below, is) = subst P is (all k decision below)

right-file : (wanted : GameName) (name : List ℕ) (decisions : List Decision) (score : Option MatchScore) (held : Option (List ℕ)) (refusal : Refusal) → OfHeld held (CanJudgeAll wanted decisions)
    → RefusesFile wanted name score decisions refusal held → IsOutside refusal
right-file wanted name decisions score None refusal can r = absurd can
right-file wanted name decisions score (Some bytes) refusal can (inl front) = right-front wanted name (Some bytes) refusal can.front front
right-file wanted name decisions score (Some bytes) refusal can (inr one) =
    absurd (right-page wanted one.decision (Some bytes) refusal (at-one (λ (decision : Decision). CanJudge wanted decision bytes) decisions one.decision can.each one.among) one.cause)

module _ (prefix : List ℕ) (rec : RecordRead) (held : Contents) where
  -- the file of a score is of its game, and right up to its pages
  abbrev HasFront : Option MatchScore → Type 0
  HasFront score = IfSome score (λ score. OfHeld (held (score_file prefix score)) (HasRightFrontFor (game_at rec score)))

  front-of : (decision : Decision) (score : Option MatchScore) → IfSome score (λ score. OfHeld (held (score_file prefix score)) (CanJudge (game_at rec score) decision)) → HasFront score
  front-of decision None can = tt
  front-of decision (Some score) can = by_held (held (score_file prefix score)) can where
    by_held : (file : Option (List ℕ)) → OfHeld file (CanJudge (game_at rec score) decision) → OfHeld file (HasRightFrontFor (game_at rec score))
    by_held None can = absurd can
    by_held (Some bytes) can = can.front

  right-score : (score : Option MatchScore) (refusal : Refusal) → HasFront score → IsSomeAnd score (λ score. RefusesFront (game_at rec score) (score_file prefix score) refusal (held (score_file prefix score))) → IsOutside refusal
  right-score None refusal has r = absurd r
  right-score (Some score) refusal has r = right-front (game_at rec score) (score_file prefix score) (held (score_file prefix score)) refusal has r

  right-one : (decision : Decision) (score : Option MatchScore) (refusal : Refusal) → IfSome score (λ score. OfHeld (held (score_file prefix score)) (CanJudge (game_at rec score) decision))
      → IsSomeAnd score (λ score. OfHeld (held (score_file prefix score)) (IsBadPageFor (game_at rec score) decision refusal)) → ⊥
  right-one decision None refusal can bad = bad
  right-one decision (Some score) refusal can bad = right-page (game_at rec score) decision (held (score_file prefix score)) refusal can bad

  right-match : (decisions : List Decision) (refusal : Refusal) → All (CanJudgeAtScore prefix rec held) decisions → RefusesMatch prefix rec decisions refusal held → IsOutside refusal
  right-match decisions refusal can (inl first) =
      let fronts : All (λ (decision : Decision). HasFront decision.score) decisions = λ k d below. front-of _ _ (can k d below) in
      right-score (score_there decisions first.place) refusal (there HasFront tt decisions fronts first.place) first.cause
  right-match decisions refusal can (inr page) =
      absurd (right-one page.decision page.decision.score refusal (at-one (CanJudgeAtScore prefix rec held) decisions page.decision can page.among) page.cause)

right-judged : (in_match : Bool) (name : List ℕ) (replayed : Replayed) (held : Contents) (refusal : Refusal) → CanJudgeBy in_match name replayed held → RefusesBy in_match name replayed refusal held → IsOutside refusal
right-judged true name replayed held refusal can r = right-match name replayed.rec held replayed.decisions refusal can r
right-judged false name replayed held refusal can r = right-file (game_recorded replayed.rec) name replayed.decisions None (held name) refusal can r

-- ---- the commands

pub right-studied : NoFault → OneRecord → NoBreach → (task : Study) (held : Option (List ℕ)) (refusal : Refusal) → IsRightForStudying task held → MayRefuseStudy task true held refusal → IsOutside refusal
right-studied no_fault one no_breach task held refusal right may = elim (may refl) [
  | inl r ↦ right-record no_fault one no_breach task.rec held right.0 right.1 refusal r
  | inr lacks ↦ subst IsOutside (sym lacks.line) tt
]

pub right-analysed : NoFault → OneRecord → OneReplay → NoBreach → (task : Analyse) (held : Contents) (refusal : Refusal) → IsRightForAnalysing task held → MayRefuseAnalysis task true held refusal → IsOutside refusal
right-analysed no_fault one replay no_breach task held refusal right may = by_cause (may refl) where
  by_cause : RefusesAnalysis task refusal held → IsOutside refusal
  by_cause (inl r) = right-record no_fault one no_breach task.rec (held task.rec) right.replayed right.record_file refusal r
  by_cause (inr not) = by_files not.cause where
    by_files : IsOutside refusal ⊎ RefusesBy (has_match not.replayed.rec.stakes) task.base not.replayed refusal held → IsOutside refusal
    by_files (inl outside) = outside
    by_files (inr cause) =
        let same = same-record one replay (held task.rec) right.replayed not.replayed right.record_file not.record_file in
        let can = subst (λ (replayed : Replayed). CanJudgeBy (has_match replayed.rec.stakes) task.base replayed held) same right.base_files in
        right-judged (has_match not.replayed.rec.stakes) task.base not.replayed held refusal can cause

-- ---- files with right pages

-- a file of a decision's game can judge it
can-judge : (wanted : GameName) (decision : Decision) (bytes : List ℕ) → HasRightPages wanted bytes → IsDecisionFor wanted decision → CanJudge wanted decision bytes
can-judge wanted decision bytes has for_game =
    let of = for_game (front_head bytes) has.front.game has.game in
    record {
      front = has.front;
      pages = λ q j may. has.pages q j (choice-state (game_in (front_head bytes)) has.game decision.position decision.kind of.state decision.choice of.choice q j may);
    }

pub plain-can-judge : Law → (rec : RecordRead) (decisions : List Decision) (bytes : List ℕ) → All (IsRightDecision rec) decisions → has_match rec.stakes ≡ false → HasRightPages (game_recorded rec) bytes
    → CanJudgeAll (game_recorded rec) decisions bytes
plain-can-judge law rec decisions bytes right plain has =
    record { front = has.front; each = λ k d below. can-judge (game_recorded rec) _ bytes has (plain-decision law rec plain _ (right k d below)) }

pub match-can-judge : Law → (prefix : List ℕ) (rec : RecordRead) (decisions : List Decision) (held : Contents) (points : ℕ) → All (IsRightDecision rec) decisions → rec.stakes ≡ Match points
    → ((score : MatchScore) → IsOfMatch points score → OfHeld (held (score_file prefix score)) (HasRightPages (game_at rec score))) → All (CanJudgeAtScore prefix rec held) decisions
match-can-judge law prefix rec decisions held points rights is has k d below =
    let right = in-match law rec points is decisions rights k d below in
    one (get_or decisions k d) right (has right.score right.of_match)
  where
    one : (decision : Decision) → (right : IsDecisionInMatch rec.checkers points decision) → OfHeld (held (score_file prefix right.score)) (HasRightPages (game_at rec right.score)) → CanJudgeAtScore prefix rec held decision
    one decision right has = if-given (λ (score : MatchScore). OfHeld (held (score_file prefix score)) (CanJudge (game_at rec score) decision)) decision.score right.score right.at (by_held (held (score_file prefix right.score)) has) where
      by_held : (file : Option (List ℕ)) → OfHeld file (HasRightPages (game_at rec right.score)) → OfHeld file (CanJudge (game_at rec right.score) decision)
      by_held None has = absurd has
      by_held (Some bytes) has = can-judge (game_at rec right.score) decision bytes has (decision-at rec points right.score decision right right.at)

-- ---- records that are read

-- the laws on the decisions of a record
abbrev RightDecisions : Type 0
RightDecisions = (rec : RecordRead) (told : List Decision) → IsRecord rec → IsReplay rec told → All (IsRightDecision rec) told

abbrev FewDecisions : Type 0
FewDecisions = (rec : RecordRead) (told : List Decision) → IsRecord rec → IsReplay rec told → length told ≤ 131072

pub held-right : RightDecisions → FewDecisions → (bytes : List ℕ) (replayed : Replayed) → HoldsRecord bytes replayed → IsRightReplayed replayed
held-right decisions_right few bytes replayed holds =
    let valid = holds.plain.text.valid in
    right-at-lines replayed.rec (line_numbers bytes) holds.told replayed.decisions
    (record { valid = valid; right = decisions_right replayed.rec holds.told valid holds.plain.replay; few = few replayed.rec holds.told valid holds.plain.replay })
    holds.lines
