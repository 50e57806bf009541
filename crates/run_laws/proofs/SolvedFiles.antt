-- What was solved or made is right for each command that asks for what it has.
use Rattle.std.proofs.Common.{◌≡◌, ◌∙◌, ◌<◌, ◌≤◌, ℕ, Bool, false, List, All, Contains, Option, Some, None, IfSome, sum, sym, ap, subst}
use Rattle.std.specs.Prelude.{◌↔◌, ⊤}
use Rattle.std.proofs.lemmas.List.{get_or_default}
use Rattle.std.proofs.lemmas.Option.{slice_get_within}
use Rattle.position_rank.specs.Placement.{Placement}
use Rattle.roll_table.specs.Rolls.{Dice, IsRoll}
use Rattle.outside_log.specs.Files.{Contents}
use Rattle.outside_log.specs.Log.{Event, standing}
use Rattle.outside_log.specs.Sink.{Output}
use Rattle.outside_log.proofs.Written.{stands}
use Rattle.cube_actions.specs.Names.{names_of}
use Rattle.cube_actions.specs.Ladder.{IsOfMatch, ladder}
use Rattle.cube_actions.specs.Scores.{MatchScore, last_game}
use Rattle.cube_actions.specs.Starts.{StartPairs}
use Rattle.record_text.specs.Texts.{IsRecordText}
use Rattle.game_record.specs.Replay.{IsReplay}
use Rattle.game_record.specs.RightDecisions.{IsRightDecision}
use Rattle.game_record.specs.Turns.{has_match}
use Rattle.game_record.specs.declared.decision.Decision.{Decision}
use Rattle.game_record.specs.declared.record.Record.{Record as RecordRead}
use Rattle.game_record.specs.declared.record.RecordStakes.TheVariants.{Match as OfMatch}
use Rattle.equity_report.specs.declared.text.GameName.{GameName}
use Rattle.cube_actions.specs.declared.name.StakesName.TheVariants.{Match}
use Rattle.move_rules.specs.Ends.{legal_ends}
use Rattle.move_rules.proofs.EndsExact.{legal_ends-complete}
use Rattle.move_rules.proofs.Members.{Contains-Among}
use Rattle.cube_actions.specs.Stakes.{kind_at}
use Rattle.turn_rule.specs.declared.game.Game.{Game}
use Rattle.turn_rule.specs.Games.{IsGame}
use Rattle.turn_rule.specs.States.{IsState}
use Rattle.turn_rule.specs.Truth.{AreConsistent}
use Rattle.turn_rule.proofs.Within.{follow-turn-state, next_state}
use Rattle.interval_words.specs.WordLists.{WordList, words_in_list}
use Rattle.word_pages.specs.declared.version.Version.TheVariants.{One, Three}
use Rattle.turn_rule.specs.Looks.{MayFollowRoll}
use Rattle.base_head.specs.Fronts.{head_in}
use Rattle.cube_actions.proofs.Unlimited.{unlimited-stakes}
use Rattle.base_head.specs.Heads.{FileHead}
use Rattle.database_file.specs.Faults.{header_of_file}
use Rattle.database_file.specs.Texts.{IsText, game_in}
use Rattle.database_file.proofs.Bases.{kinds-named}
use Rattle.command_line.specs.declared.command.Advise.{Advise as AdviseTask}
use Rattle.command_line.specs.declared.command.Analyse.{Analyse as AnalyseTask}
use Rattle.command_line.specs.declared.command.Command.{Command}
use Rattle.command_line.specs.declared.command.Command.TheVariants.{Show, ShowList, Migrate, Advise, AdviseList, Verify, Analyse, Study, Plan, Scan, Reply}
use Rattle.command_line.specs.declared.command.Ladder.{Ladder as LadderTask}
use Rattle.command_line.specs.declared.command.Make.{Make as MakeTask}
use Rattle.command_line.specs.declared.command.Show.{Show as ShowTask}
use Rattle.command_line.specs.declared.command.Solve.{Solve as SolveTask}
use Rattle.command_line.specs.declared.command.Study.{Study as StudyTask}
use Rattle.command_line.specs.Right.{IsRightAdvise, IsRightCommand, IsRightLadder, IsRightShow, IsRightSolve}
use Rattle.base_commands.specs.Advises.{RestsOn}
use Rattle.run_endings.specs.Games.{HasState}
use Rattle.whole_file_commands.specs.Plans.{IsOfFirstGame}
use Rattle.run_laws.specs.RightFiles.{AdviceRestsOn, CanLoad, CanLookUp, HasConsistentWords, HasRightFront, IsRightForPlanning, IsRightForReplying, IsRightForVerifying}
use Rattle.run_endings.specs.Loads.{game_told}
use Rattle.run_endings.specs.Pages.{OfHeld}
use Rattle.run_endings.specs.Scores.{score_file}
use Rattle.record_commands.specs.Makes.{HasMade}
use Rattle.record_commands.specs.MatchAnalyses.{game_at}
use Rattle.record_commands.specs.Records.{HoldsRecord, game_recorded, match_length}
use Rattle.run_laws.specs.RightRecords.{CanJudgeAll, CanJudgeAtScore, CanJudgeBy, HasRightPages}
use Rattle.record_commands.specs.declared.record.Replayed.{Replayed}
use Rattle.solve_commands.specs.Ladders.{HasSolvedLadder, SolvedScore, ladder_score, scores_in}
use Rattle.solve_commands.specs.Solves.{HasSolved, head_of, solved_file}
use Rattle.run_laws.specs.Headline.{HoldLadder, ladder_file, ladder_head}
use Rattle.run_laws.specs.RightRuns.{IsRightFor}
use Rattle.run_laws.specs.SolvedFiles.{AsksOf, file_read}
use Rattle.run_laws.proofs.HeldWords.{Law, held-front, held-head, held-load, held-load-any, held-look-up, held-page}
use Rattle.run_laws.proofs.MatchRuns.{HeldLaw, read-right}
use Rattle.run_laws.proofs.TwoRuns.{solved-text}

-- ---- states on which advice rests

module _ (game : Game) (right : IsGame game) (p : Placement) (k : ℕ) (state : IsState game p k) where
  roll-state : (roll : Dice) → IsRoll roll → (q : Placement) (j : ℕ) → MayFollowRoll game.stakes p k roll q j → IsState game q j
  roll-state roll dice q j may =
      let there = next_state game right.stakes p k state roll may.end dice (Contains-Among may.end (legal_ends p roll) (legal_ends-complete p roll may.end may.legal)) may.left.goes_on in
      subst (λ (n : ℕ). IsState game q n) (sym may.left.kind) (subst (λ (r : Placement). IsState game r (kind_at game.stakes k).next) (sym may.left.sides) there)

  rests-state : (roll : Option Dice) → IfSome roll IsRoll → (q : Placement) (j : ℕ) → RestsOn roll game.stakes p k q j → IsState game q j
  rests-state (Some roll) dice q j may = roll-state roll dice q j may
  rests-state None dice q j may = follow-turn-state game right.stakes p k state q j may

-- ---- a file that holds the text of a head and words

module _ (law : Law) (head : FileHead) (words : WordList) (bytes : List ℕ) (text : IsText Three head words bytes) (right : IsGame (game_in head)) (consistent : AreConsistent words.game (words_in_list words)) where
  abbrev there : FileHead
  there = head_in (header_of_file bytes) bytes

  same : there ≡ head
  same = held-head law head words bytes text

  right-there : IsGame (game_in there)
  right-there = subst (λ (h : FileHead). IsGame (game_in h)) (sym same) right

  show-file : (task : ShowTask) → IsRightShow task → head.checkers ≡ sum task.position.mover → CanLookUp (λ head. head.checkers ≡ sum task.position.mover) (λ head q k. q ≡ task.position) bytes
  show-file task fit many =
      let state : IsState (game_in there) task.position 0 = record {
        position = fit.position;
        many = sym (ap (λ (h : FileHead). h.checkers) same ∙ many);
        live = fit.live;
        kind = right-there.stakes.some;
      } in
      held-look-up law head words bytes text (λ head. head.checkers ≡ sum task.position.mover) (λ head q k. q ≡ task.position) many
      (λ q k is. (0, subst (λ (r : Placement). IsState (game_in there) r 0) (sym is) state))

  advise-file : (task : AdviseTask) → IsRightAdvise task → HasState task.position task.kind head → CanLookUp (HasState task.position task.kind) (AdviceRestsOn task) bytes
  advise-file task fit has = held-look-up law head words bytes text (HasState task.position task.kind) (AdviceRestsOn task) has (λ q j (kind, asked, rests). (
    j,
    rests-state (game_in there) right-there task.position kind.number (record {
      position = fit.position;
      many = sym (ap (λ (h : FileHead). h.checkers) same ∙ has.checkers);
      live = fit.live;
      kind = subst (λ (n : ℕ). kind.number < n) (kinds-named there.name there.starts) (slice_get_within (names_of there.name) kind.number kind.name asked.named);
    }) task.roll fit.roll q j rests,
  ))

  right-for : (command : Command) → IsRightCommand command → (held : Contents) → AsksOf head held command → held (file_read command) ≡ Some bytes → IsRightFor command held
  right-for (Show task) fit held asks is = subst (λ (file : Option (List ℕ)). OfHeld file (CanLookUp (λ head. head.checkers ≡ sum task.position.mover) (λ head q k. q ≡ task.position))) (sym is) (show-file task fit asks)
  right-for (ShowList task) fit held asks is = (asks, subst HasRightFront (sym is) (held-front law head words bytes text))
  right-for (Advise task) fit held asks is = subst (λ (file : Option (List ℕ)). OfHeld file (CanLookUp (HasState task.position task.kind) (AdviceRestsOn task))) (sym is) (advise-file task fit asks)
  right-for (AdviseList task) fit held asks is = (asks, subst HasRightFront (sym is) (held-front law head words bytes text))
  right-for (Verify task) fit held asks is = subst (λ (file : Option (List ℕ)). IsRightForVerifying Three file) (sym is) (held-load law head words bytes text HasConsistentWords consistent)
  right-for (Migrate task) fit held asks is = (subst (λ (file : Option (List ℕ)). IsRightForVerifying One file) (sym is) (held-load-any law head words bytes text HasConsistentWords consistent), asks)
  right-for (Plan task) fit held asks is = subst (λ (file : Option (List ℕ)). IsRightForPlanning task file) (sym is) (held-load law head words bytes text (λ base. IsOfFirstGame task.match_length base.head) asks)
  right-for (Scan task) fit held asks is = (asks, subst (λ (file : Option (List ℕ)). OfHeld file (CanLoad Three (λ base. ⊤))) (sym is) (held-load law head words bytes text (λ base. ⊤) tt))
  right-for (Reply task) fit held asks is = subst (λ (file : Option (List ℕ)). IsRightForReplying task file) (sym is) (held-load law head words bytes text (λ base. HasState task.position task.kind base.head) asks)
  right-for _ fit held asks is = absurd asks

  -- the file has right pages for a game that is its head's
  right-pages : (wanted : GameName) → game_told head ≡ wanted → HasRightPages wanted bytes
  right-pages wanted is = record {
    front = record { front = held-front law head words bytes text; game = ap game_told same ∙ is };
    game = right-there;
    pages = held-page law head words bytes text;
  }

-- ---- what was written

pub right-solved : Law → (solve : SolveTask) (before after : List Event) (put_before put_after : Output) → IsRightSolve solve → (solved : HasSolved solve before after put_before put_after)
    → (command : Command) (held : Contents) → IsRightCommand command → AsksOf (head_of solve solved.words.rounds) held command → held (file_read command) ≡ standing after solve.file → IsRightFor command held
right-solved law solve before after put_before put_after right solved command held fit asks is =
    let words = solved.words in
    let bytes = solved_file solve words in
    let game : IsGame (game_in (head_of solve words.rounds)) = record { low = right.some; high = right.few; stakes = (unlimited-stakes solve.rule).valid } in
    right-for law (head_of solve words.rounds) words bytes (solved-text solve words right solved.solved) game solved.solved.consistent command fit held asks
    (is ∙ stands solve.file bytes before after solved.file)

pub right-score : Law → (task : LadderTask) (before after : List Event) (put_before put_after : Output) (solved : HasSolvedLadder task before after put_before put_after) (place : ℕ) → place < scores_in task
    → (command : Command) (held : Contents) → IsRightCommand command → AsksOf (ladder_head task solved.starts place) held command
    → held (file_read command) ≡ Some (ladder_file task solved.starts solved.scores.scores place) → IsRightFor command held
right-score law task before after put_before put_after solved place inside command held fit asks is =
    let score = solved.scores.solved.each place (subst (λ (n : ℕ). place < n) (sym solved.whole) inside) in
    right-for law (ladder_head task solved.starts place) (solved.scores.scores place).words (ladder_file task solved.starts solved.scores.scores place) score.text
    (subst IsGame score.closed.game score.closed.valid) score.closed.closed.consistent command fit held asks is

-- ---- records that are judged by what was written

-- the laws on files that can judge
abbrev PlainLaw : Type 0
PlainLaw = (rec : RecordRead) (decisions : List Decision) (bytes : List ℕ) → All (IsRightDecision rec) decisions → has_match rec.stakes ≡ false → HasRightPages (game_recorded rec) bytes → CanJudgeAll (game_recorded rec) decisions bytes

abbrev MatchLaw : Type 0
MatchLaw = (prefix : List ℕ) (rec : RecordRead) (decisions : List Decision) (held : Contents) (points : ℕ) → All (IsRightDecision rec) decisions → rec.stakes ≡ OfMatch points
    → ((score : MatchScore) → IsOfMatch points score → OfHeld (held (score_file prefix score)) (HasRightPages (game_at rec score))) → All (CanJudgeAtScore prefix rec held) decisions

pub right-analysis : Law → PlainLaw → HeldLaw → (solve : SolveTask) (analyse : AnalyseTask) (held : Contents) (before after : List Event) (put_before put_after : Output) (replayed : Replayed) → IsRightSolve solve
    → (solved : HasSolved solve before after put_before put_after) → held analyse.base ≡ standing after solve.file → OfHeld (held analyse.rec) (λ bytes. HoldsRecord bytes replayed) → has_match replayed.rec.stakes ≡ false
    → game_recorded replayed.rec ≡ game_told (head_of solve solved.words.rounds) → IsRightFor (Analyse analyse) held
right-analysis law judges held_right solve analyse held before after put_before put_after replayed right solved is holds plain same = record {
  replayed = replayed;
  record_file = holds;
  base_files = subst (λ (b : Bool). CanJudgeBy b analyse.base replayed held) (sym plain) (subst (λ (file : Option (List ℕ)). OfHeld file (CanJudgeAll (game_recorded replayed.rec) replayed.decisions)) (sym there) can);
} where
  words : WordList
  words = solved.words

  bytes : List ℕ
  bytes = solved_file solve words

  there : held analyse.base ≡ Some bytes
  there = is ∙ stands solve.file bytes before after solved.file

  can : CanJudgeAll (game_recorded replayed.rec) replayed.decisions bytes
  can =
      let game : IsGame (game_in (head_of solve words.rounds)) = record { low = right.some; high = right.few; stakes = (unlimited-stakes solve.rule).valid } in
      judges replayed.rec replayed.decisions bytes (read-right held_right (held analyse.rec) replayed holds) plain
      (right-pages law (head_of solve words.rounds) words bytes (solved-text solve words right solved.solved) game solved.solved.consistent (game_recorded replayed.rec) (sym same))

pub right-match-analysis : Law → MatchLaw → HeldLaw → ((n : ℕ) → 1 ≤ n → n ≤ 5 → (score : MatchScore) → Contains (ladder n) score ↔ IsOfMatch n score)
    → (task : LadderTask) (analyse : AnalyseTask) (held : Contents) (before after : List Event) (put_before put_after : Output) (replayed : Replayed) → IsRightLadder task → (solved : HasSolvedLadder task before after put_before put_after)
    → HoldLadder task solved.starts solved.scores.scores held → analyse.base ≡ task.prefix → OfHeld (held analyse.rec) (λ bytes. HoldsRecord bytes replayed) → replayed.rec.stakes ≡ OfMatch task.match_length → replayed.rec.checkers ≡ task.checkers
    → IsRightFor (Analyse analyse) held
right-match-analysis law judges held_right exact task analyse held before after put_before put_after replayed right solved files named holds stakes checkers = record {
  replayed = replayed;
  record_file = holds;
  base_files = subst (λ (b : Bool). CanJudgeBy b analyse.base replayed held) (sym (ap has_match stakes)) (subst (λ (prefix : List ℕ). All (CanJudgeAtScore prefix replayed.rec held) replayed.decisions) (sym named) can);
} where
  starts : StartPairs
  starts = solved.starts

  scores : ℕ → SolvedScore
  scores = solved.scores.scores

  rec : RecordRead
  rec = replayed.rec

  place-pages : (place : ℕ) → place < scores_in task → HasRightPages (game_at rec (ladder_score task place)) (ladder_file task starts scores place)
  place-pages place inside =
      let score = solved.scores.solved.each place (subst (λ (n : ℕ). place < n) (sym solved.whole) inside) in
      let same_checkers = sym checkers in
      let same_length = solved.scores.solved.of_length ∙ ap match_length (sym stakes) in
      let game : game_told (ladder_head task starts place) ≡ game_at rec (ladder_score task place) = λ i. record { checkers = same_checkers i; stakes = Match (ladder_score task place); match_length = same_length i } in
      right-pages law (ladder_head task starts place) (scores place).words (ladder_file task starts scores place) score.text
      (subst IsGame score.closed.game score.closed.valid) score.closed.closed.consistent (game_at rec (ladder_score task place)) game

  score-pages : (score : MatchScore) → IsOfMatch task.match_length score → OfHeld (held (score_file task.prefix score)) (HasRightPages (game_at rec score))
  score-pages score of_match =
      let (place, inside, is) = (exact task.match_length right.point right.points score).1 of_match in
      let at : ladder_score task place ≡ score = get_or_default (ladder task.match_length) place last_game score inside ∙ is in
      subst (λ (s : MatchScore). OfHeld (held (score_file task.prefix s)) (HasRightPages (game_at rec s))) at
      (subst (λ (file : Option (List ℕ)). OfHeld file (HasRightPages (game_at rec (ladder_score task place)))) (sym (files place inside)) (place-pages place inside))

  can : All (CanJudgeAtScore task.prefix rec held) replayed.decisions
  can = judges task.prefix rec replayed.decisions held task.match_length (read-right held_right (held analyse.rec) replayed holds) stakes score-pages

-- ---- records that were made

-- the law on records that are printed
abbrev PrintedLaw : Type 0
PrintedLaw = (text : List ℕ) (rec : RecordRead) (told : List Decision) → IsRecordText text rec → IsReplay rec told → HoldsRecord text (record { rec = rec; decisions = told })

pub right-made : PrintedLaw → (make : MakeTask) (study : StudyTask) (held : Contents) (before after : List Event) (put_before put_after : Output) → HasMade make before after put_before put_after → held study.rec ≡ standing after make.file
    → IsRightFor (Study study) held
right-made law make study held before after put_before put_after made is =
    let text = made.made.text.items in
    let told = made.is_made.decisions in
    let replayed : Replayed = record { rec = made.is_made.rec; decisions = told } in (
      replayed,
      subst (λ (file : Option (List ℕ)). OfHeld file (λ bytes. HoldsRecord bytes replayed)) (sym (is ∙ stands make.file text before after made.file))
          (law text made.is_made.rec told made.is_made.text made.is_made.replay),
    )
