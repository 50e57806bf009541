-- A match is solved, and then a recorded match is analysed by the files that were written.
use Rattle.std.proofs.Common.{◌≡◌, ◌∙◌, ◌<◌, ◌≤◌, ◌-◌, Ok, ℕ, zero, suc, List, length, All, Contains, Bool, Option, Some, None, true, refl, sym, ap, subst, arith}
use Rattle.std.specs.Prelude.{◌↔◌, IfSome, get_or}
use Rattle.std.proofs.lemmas.List.{get_or-map, get_or_default, length-map, length-take-le}
use Rattle.outside_log.specs.Files.{Contents}
use Rattle.outside_log.specs.Log.{Event}
use Rattle.outside_log.specs.Sink.{Output}
use Rattle.cube_actions.specs.Ladder.{IsOfMatch, in_order, ladder}
use Rattle.cube_actions.specs.Scores.{MatchScore, last_game}
use Rattle.cube_actions.specs.Starts.{StartPairs}
use Rattle.game_record.specs.RightDecisions.{IsRightDecision, IsScoreIn}
use Rattle.game_record.specs.declared.record.Record.{Record}
use Rattle.game_record.specs.declared.record.RecordStakes.{RecordStakes}
use Rattle.game_record.specs.declared.record.RecordStakes.TheVariants.{Match}
use Rattle.directed_fixed.specs.Bounds.{Bounds}
use Rattle.turn_rule.specs.Truth.{Encloses}
use Rattle.match_scores.specs.Ladders.{score_at, starts_till}
use Rattle.match_scores.proofs.WholeLadder.{pair-till}
use Rattle.record_analysis.specs.declared.analysis.Judged.{Judged}
use Rattle.record_study.specs.Keeping.{decisions_in}
use Rattle.record_study.specs.Matches.{AreTrueStarts}
use Rattle.base_head.specs.Heads.{FileHead}
use Rattle.interval_words.specs.WordLists.{words_in_list}
use Rattle.equity_report.specs.declared.refusal.Refusal.{Refusal}
use Rattle.word_pages.specs.declared.version.Version.TheVariants.{Three}
use Rattle.database_file.specs.Bases.{AnswersFrom}
use Rattle.database_file.specs.FileBases.{FileBase}
use Rattle.command_line.specs.declared.command.Advise.{Advise as AdviseTask}
use Rattle.command_line.specs.declared.command.Analyse.{Analyse}
use Rattle.command_line.specs.declared.command.Plan.{Plan}
use Rattle.command_line.specs.declared.command.Ladder.{Ladder as LadderTask}
use Rattle.command_line.specs.Right.{IsRightLadder}
use Rattle.run_endings.specs.Endings.{IsOutside, IsPut}
use Rattle.run_endings.specs.Loads.{OfFile}
use Rattle.base_commands.specs.Advises.{HasAdvised}
use Rattle.whole_file_commands.specs.Plans.{EndsLadder, HasPlanned, HoldsInTheEnd, first_file, first_score, planned_starts}
use Rattle.whole_file_commands.specs.Verifies.{MayRefuseVerifying}
use Rattle.run_endings.specs.Pages.{OfHeld}
use Rattle.run_endings.specs.Scores.{score_file}
use Rattle.solve_commands.specs.Ladders.{HasSolvedLadder, SolvedScore, AreScoresSolved, file_of, ladder_score, scores_in}
use Rattle.record_commands.specs.Analyses.{HasAnalysed, JudgesBy}
use Rattle.record_commands.specs.MatchAnalyses.{HasTrueFile, HoldsTruth, JudgesMatch}
use Rattle.record_commands.specs.Records.{HoldsRecord, IsRightReplayed, report_shown}
use Rattle.game_record.specs.Turns.{has_match}
use Rattle.record_commands.specs.declared.record.Replayed.{Replayed}
use Rattle.run_laws.specs.Headline.{HoldLadder, PrintsGoodAdvice, PrintsTrueMatch, PrintsTruePlan, ladder_file, ladder_head}
use Rattle.run_laws.proofs.TwoRuns.{good-from}
use Rattle.run_laws.proofs.HeldWords.{Law, held-base, held-consistent, held-head, held-pairs, held-sound}

module _ (law : Law) (task : LadderTask) (starts : StartPairs) (scores : ℕ → SolvedScore) (solved : AreScoresSolved task starts scores) where
  -- the start pairs before a place enclose the exact starts of their scores
  true-starts : (place : ℕ) → place < length starts.pairs → AreTrueStarts task.checkers (starts_till starts place)
  true-starts place inside =
      let (enough, true_from) = solved.solved.true_from in
      let few = length-take-le place starts.pairs (omega (arith, inside)) in (
        enough,
        λ scored is_scored late earlier below.
            let before : earlier < place = omega (arith, below, few) in
            subst (λ (pair : Bounds). Encloses pair (scored.starts (score_at starts.match_length earlier)) scored.scale)
            (sym (pair-till starts place earlier before)) (true_from scored is_scored late earlier (omega (arith, before, inside))).1,
      )

  -- the file of a score holds what is true
  pub holds-truth : (place : ℕ) → place < length starts.pairs → HoldsTruth (ladder_file task starts scores place)
  holds-truth place inside =
      let score = solved.each place inside in
      let head = ladder_head task starts place in
      let bytes = ladder_file task starts scores place in
      let same = held-head law head (scores place).words bytes score.text in
      record {
        words = words_in_list (scores place).words;
        pairs = held-pairs law head (scores place).words bytes score.text;
        sound = held-sound law head (scores place).words bytes score.text score.closed.closed.sound;
        starts = subst (λ (h : FileHead). AreTrueStarts h.checkers h.starts) (sym same) (true-starts place inside);
      }

module _ (law : Law) (exact : (n : ℕ) → 1 ≤ n → n ≤ 5 → (score : MatchScore) → Contains (ladder n) score ↔ IsOfMatch n score) (task : LadderTask) (right : IsRightLadder task) (starts : StartPairs) (scores : ℕ → SolvedScore) (solved : AreScoresSolved task starts scores) (all : length starts.pairs ≡ scores_in task) (held : Contents) (holds : HoldLadder task starts scores held) where
  -- the file of a score of the match stands there, and holds what is true
  score-holds : (score : MatchScore) → IsOfMatch task.match_length score → OfHeld (held (score_file task.prefix score)) HoldsTruth
  score-holds score of_match =
      let (place, inside, is) = (exact task.match_length right.point right.points score).1 of_match in
      let same : ladder_score task place ≡ score = get_or_default (ladder task.match_length) place last_game score inside ∙ is in
      subst (λ (s : MatchScore). OfHeld (held (score_file task.prefix s)) HoldsTruth) same
      (subst (λ (file : Option (List ℕ)). OfHeld file HoldsTruth) (sym (holds place inside)) (holds-truth law task starts scores solved place (omega (arith, inside, all))))

  one-holds : (stakes : RecordStakes) → stakes ≡ Match task.match_length → (score : Option MatchScore) → IsScoreIn stakes score → IfSome score (λ score. OfHeld (held (score_file task.prefix score)) HoldsTruth)
  one-holds stakes is None in_match = tt
  one-holds stakes is (Some score) in_match = score-holds score (subst (λ (s : RecordStakes). IsScoreIn s (Some score)) is in_match)

  -- the files of all decisions' scores hold what is true
  all-hold : (rec : Record) (list : List Judged) → All (IsRightDecision rec) (decisions_in list) → rec.stakes ≡ Match task.match_length → All (HasTrueFile task.prefix held) list
  all-hold rec list rights is k d below =
      let one = get_or list k d in
      let in_map : k < length (decisions_in list) = subst (λ (n : ℕ). k < n) (sym (length-map list (λ (j : Judged). j.decision))) below in
      let right : IsRightDecision rec one.decision = subst (IsRightDecision rec) (get_or-map (λ (j : Judged). j.decision) list k d d.decision below) (rights k d.decision in_map) in
      one-holds rec.stakes is one.decision.score right.score

-- the law on records that are held
abbrev pub HeldLaw : Type 0
HeldLaw = (bytes : List ℕ) (replayed : Replayed) → HoldsRecord bytes replayed → IsRightReplayed replayed

-- the decisions of a record that was read are right
pub read-right : HeldLaw → (file : Option (List ℕ)) (replayed : Replayed) → OfHeld file (λ bytes. HoldsRecord bytes replayed) → All (IsRightDecision replayed.rec) replayed.decisions
read-right law None replayed holds = absurd holds
read-right law (Some text) replayed holds = (law text replayed holds).right

pub true-match : Law → ((n : ℕ) → 1 ≤ n → n ≤ 5 → (score : MatchScore) → Contains (ladder n) score ↔ IsOfMatch n score)
    → HeldLaw
    → (task : LadderTask) (analyse : Analyse) (held : Contents) (before after : List Event) (put_before put_after old new : Output) → IsRightLadder task → (solved : HasSolvedLadder task before after put_before put_after)
    → HoldLadder task solved.starts solved.scores.scores held → analyse.base ≡ task.prefix → (analysed : HasAnalysed analyse true held (λ text. IsPut old new text)) → analysed.analysed.replayed.rec.stakes ≡ Match task.match_length
    → PrintsTrueMatch analysed.analysed.replayed.rec.checkers (report_shown analyse.shown analyse.board analysed.analysed.replayed.rec.stakes) (λ text. IsPut old new text)
true-match law exact held_right task analyse held before after put_before put_after old new right solved holds named analysed stakes =
    let replayed = analysed.analysed.replayed in
    let by_base : JudgesMatch analyse.base replayed.rec replayed.decisions held analysed.list =
    subst (λ (b : Bool). JudgesBy b analyse.base replayed held analysed.list) (ap has_match stakes) (analysed.analysed.base_files refl) in
    let judges = subst (λ (prefix : List ℕ). JudgesMatch prefix replayed.rec replayed.decisions held analysed.list) named by_base in
    let rights = subst (All (IsRightDecision replayed.rec)) (sym judges.decisions_are) (read-right held_right (held analyse.rec) replayed (analysed.analysed.record_file refl)) in
    record {
      list = analysed.list;
      printed = analysed.report;
      true = judges.true (all-hold law exact task right solved.starts solved.scores.scores solved.scores.solved solved.whole held holds replayed.rec analysed.list rights stakes);
    }

-- ---- one file of a match

pub good-score : Law → (task : LadderTask) (advise : AdviseTask) (before after : List Event) (put_before put_after old new : Output) (held : Option (List ℕ)) (solved : HasSolvedLadder task before after put_before put_after) (place : ℕ) → place < scores_in task
    → held ≡ Some (ladder_file task solved.starts solved.scores.scores place) → HasAdvised advise true held (λ text. IsPut old new text) → PrintsGoodAdvice (ladder_head task solved.starts place) advise (λ text. IsPut old new text)
good-score law task advise before after put_before put_after old new held solved place inside is advised =
    let score = solved.scores.solved.each place (omega (arith, inside, solved.whole)) in
    good-from law (ladder_head task solved.starts place) (solved.scores.scores place).words (ladder_file task solved.starts solved.scores.scores place) score.text score.closed.closed.sound advise (λ text. IsPut old new text) held is advised

pub consistent-score : Law → (task : LadderTask) (before after : List Event) (put_before put_after : Output) (name : List ℕ) (held : Option (List ℕ)) (refusal : Refusal) (solved : HasSolvedLadder task before after put_before put_after) (place : ℕ) → place < scores_in task
    → held ≡ Some (ladder_file task solved.starts solved.scores.scores place) → MayRefuseVerifying Three name true held refusal → IsOutside refusal
consistent-score law task before after put_before put_after name held refusal solved place inside is not =
    let score = solved.scores.solved.each place (omega (arith, inside, solved.whole)) in
    held-consistent law (ladder_head task solved.starts place) (solved.scores.scores place).words (ladder_file task solved.starts solved.scores.scores place) score.text score.closed.closed.consistent name refusal
    (subst (λ (file : Option (List ℕ)). MayRefuseVerifying Three name true file refusal) is not)

-- the first game of a match is the last score of its ladder
last-first : (n : ℕ) → 1 ≤ n → n ≤ 5 → score_at n (length (ladder n) - 1) ≡ first_score n
unfolding ladder in_order
last-first zero from to = absurd (omega (arith, from))
last-first (suc zero) from to = refl
last-first (suc (suc zero)) from to = refl
last-first (suc (suc (suc zero))) from to = refl
last-first (suc (suc (suc (suc zero)))) from to = refl
last-first (suc (suc (suc (suc (suc zero))))) from to = refl
last-first (suc (suc (suc (suc (suc (suc n)))))) from to = absurd (omega (arith, to))

some-scores : (n : ℕ) → 1 ≤ n → n ≤ 5 → 1 ≤ length (ladder n)
unfolding ladder in_order
some-scores zero from to = absurd (omega (arith, from))
some-scores (suc zero) from to = omega arith
some-scores (suc (suc zero)) from to = omega arith
some-scores (suc (suc (suc zero))) from to = omega arith
some-scores (suc (suc (suc (suc zero)))) from to = omega arith
some-scores (suc (suc (suc (suc (suc zero))))) from to = omega arith
some-scores (suc (suc (suc (suc (suc (suc n)))))) from to = absurd (omega (arith, to))

plan-last : Law → (task : LadderTask) (plan : Plan) (before after : List Event) (put_before put_after old new : Output) (held : Option (List ℕ)) → IsRightLadder task → (solved : HasSolvedLadder task before after put_before put_after) → 1 ≤ scores_in task
    → held ≡ Some (ladder_file task solved.starts solved.scores.scores (scores_in task - 1)) → HasPlanned plan true held (λ text. IsPut old new text) → PrintsTruePlan task.checkers (λ text. IsPut old new text)
plan-last law task plan before after put_before put_after old new held right solved some is planned =
    let place = scores_in task - 1 in
    let starts = solved.starts in
    let scores = solved.scores.scores in
    let all = solved.whole in
    let inside : place < length starts.pairs = omega (arith, some, all) in
    let score = solved.scores.solved.each place inside in
    let of = subst (λ (file : Option (List ℕ)). OfFile true file (λ read. AnswersFrom Three read (Ok planned.base))) is planned.read in
    let same = held-base law (ladder_head task starts place) (scores place).words (ladder_file task starts scores place) score.text planned.base of in
    let last : length starts.pairs - 1 ≡ place = omega (arith, all) in
    let ends : EndsLadder (record { head = ladder_head task starts place; words = (scores place).words }) starts (λ place. (scores place).words) = record {
      solved = solved.scores.solved.solved;
      whole = all ∙ ap (λ (n : ℕ). length (ladder n)) (sym solved.scores.solved.of_length);
      before = ap (starts_till starts) (sym last);
      last = ap (λ (place : ℕ). (scores place).words) (sym last);
    } in
    let checkers : planned.base.head.checkers ≡ task.checkers = ap (λ (b : FileBase). b.head.checkers) same in
    record {
      plan = planned_starts planned.base;
      printed = planned.report;
      holds = subst (λ (checkers : ℕ). HoldsInTheEnd checkers (planned_starts planned.base)) checkers
          (planned.in_the_end starts (λ place. (scores place).words) (subst (λ (b : FileBase). EndsLadder b starts (λ place. (scores place).words)) (sym same) ends));
    }

pub true-plan : Law → (task : LadderTask) (plan : Plan) (held : Contents) (before after : List Event) (put_before put_after old new : Output) → IsRightLadder task → (solved : HasSolvedLadder task before after put_before put_after)
    → HoldLadder task solved.starts solved.scores.scores held → plan.prefix ≡ task.prefix → plan.match_length ≡ task.match_length → HasPlanned plan true (held (first_file plan)) (λ text. IsPut old new text) → PrintsTruePlan task.checkers (λ text. IsPut old new text)
true-plan law task plan held before after put_before put_after old new right solved holds named long planned =
    let some = some-scores task.match_length right.point right.points in
    let name : first_file plan ≡ file_of task (scores_in task - 1) =
    rw (named, long, last-first task.match_length right.point right.points) refl in
    plan-last law task plan before after put_before put_after old new (held (first_file plan)) right solved some (ap held name ∙ holds (scores_in task - 1) (omega (arith, some))) planned
