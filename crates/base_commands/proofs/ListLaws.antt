-- What is answered to the lines of a list, and what refuses one.
use Rattle.std.proofs.Common.{◌≡◌, ◌∙◌, ◌++◌, ◌≤◌, ℕ, List, [], ◌∷◌, length, Bool, IsTrue, Option, Some, None, Result, Ok, Err, IsErrAnd, Vec, sum, inl, inr, refl, sym, ap, subst, append_assoc}
use Rattle.std.specs.Option.{option_map}
use Rattle.std.specs.Global.{Global}
use Rattle.std.specs.Prelude.{IfOk}
use Rattle.std.specs.List.{flat_map}
use Rattle.std.specs.Str.Lines.{lines}
use Rattle.std.proofs.lemmas.List.{append-nil, flat_map_more}
use Rattle.std.proofs.lemmas.Result.{IfOk-weaker}
use Rattle.arrayvec.specs.ArrayVec.{ArrayVec}
use Rattle.position_rank.specs.Placement.{Placement, IsPosition, IsLive}
use Rattle.roll_table.specs.Rolls.{Dice, IsRoll}
use Rattle.cube_actions.specs.declared.name.KindName.{KindName}
use Rattle.hyper_outside.specs.declared.outside.LookStop.{LookStop}
use Rattle.hyper_outside.specs.declared.outside.LookStop.TheVariants.{BadPage}
use Rattle.hyper_outside.specs.declared.outside.PageFault.{PageFault}
use Rattle.outside_log.specs.Files.{Contents}
use Rattle.play_analyser.specs.declared.ranking.Ranking.{Ranking}
use Rattle.play_analyser.specs.Rankings.{IsRanking}
use Rattle.base_head.specs.Heads.{stakes_of}
use Rattle.base_head.specs.Headers.{IsHeader}
use Rattle.database_file.specs.Faults.{header_of_file, whole}
use Rattle.database_file.specs.Opened.{AnswersPaged}
use Rattle.database_file.specs.Paged.{Kept}
use Rattle.database_file.specs.PagedFiles.{PagedFile}
use Rattle.base_reports.specs.declared.shown.KindRow.{KindRow}
use Rattle.equity_report.specs.declared.refusal.Refusal.{Refusal}
use Rattle.equity_report.specs.declared.refusal.Refusal.TheVariants.{Missing, File, Read, Memory}
use Rattle.command_line.specs.declared.command.Advise.{Advise as AdviseTask}
use Rattle.run_endings.specs.Endings.{IsOfListing, IsOfLoading, IsOutside}
use Rattle.run_endings.specs.Loads.{look_refusal}
use Rattle.run_endings.specs.Pages.{AnswersOpening, OfHeld}
use Rattle.run_endings.proofs.Pages.{noted_in, source_in}
use Rattle.run_endings.specs.declared.asked.AskedKind.{AskedKind}
use Rattle.base_commands.specs.declared.list_answers.LineAnswer.{LineAnswer}
use Rattle.base_commands.specs.declared.list_answers.LineAnswer.TheVariants.{Ranked, Refused, Shown}
use Rattle.base_commands.specs.declared.lists.RolledPosition.{RolledPosition}
use Rattle.run_endings.specs.Games.{WantsCheckers, WantsOther}
use Rattle.base_commands.specs.Lists.{AnswerEach, GivesPosition, GivesRolled, RefusesList}
use Rattle.base_commands.specs.AdviseLists.{AdvisesLine, AdvisesRolled, advise_of}
use Rattle.base_commands.specs.Advises.{AnswersRanking, IsStateIn, Ranks}
use Rattle.base_commands.specs.ListAnswers.{AddsAnswer, AddsAnswers, AnswersLines, AnswersListed, AnswersStop, HasListed, LineAnswers, OfOpened, RefusesListing, answer_line}
use Rattle.base_commands.specs.ShowLists.{ShowsLine, ShowsPosition}
use Rattle.base_commands.specs.Shows.{AnswersRows}
use Rattle.base_commands.proofs.AdviseFiles.{bad-advice, ranked}
use Rattle.base_commands.proofs.Fitting.{opened-other}
use Rattle.base_commands.proofs.ShowLaws.{bad-page, shown-told}

pub held-weaker : {P Q : List ℕ → Type 0} (held : Option (List ℕ)) → ((bytes : List ℕ) → P bytes → Q bytes) → OfHeld held P → OfHeld held Q
held-weaker None f p = absurd p
held-weaker (Some bytes) f p = f bytes p

-- a file that was opened is there
pub held-there : {P : List ℕ → Type 0} (base : PagedFile) (held : Option (List ℕ)) → ((bytes : List ℕ) → P bytes) → OfOpened base held P
held-there base None p opened = absurd opened
held-there base (Some bytes) p opened = p bytes

-- ---- one line

pub other-told : (p : Placement) (held : Option (List ℕ)) (base : PagedFile) (refusal : Refusal) → WantsCheckers p base.head refusal → OfOpened base held (λ bytes. ShowsPosition bytes p (Refused refusal))
other-told p held base refusal wants opened = held-weaker held (λ bytes other. inl other) (opened-other (WantsCheckers p) held base refusal opened wants)

pub rows-told : (p : Placement) (held : Option (List ℕ)) (base : PagedFile) (rows : ArrayVec KindRow) → IsHeader base.header → base.head.checkers ≡ base.header.checkers → base.head.name ≡ base.header.name
    → IsPosition p → IsLive p → sum p.mover ≡ base.head.checkers → AnswersRows base.header held p (Ok rows) → OfOpened base held (λ bytes. ShowsPosition bytes p (Shown (record { position = p; rows = rows })))
rows-told p held base rows valid many name position live fits told opened =
    held-weaker held (λ bytes pairs. (refl, (base.head, pairs))) (shown-told p held base rows opened valid many name position live fits told)

-- what a look-up that stopped answers
stop-is : (P : LineAnswer → Type 0) (stop : LookStop) (result : Result LineAnswer Refusal) → ((fault : PageFault) (at : ℕ) → stop ≡ BadPage fault at → P (Refused (look_refusal stop)))
    → AnswersStop stop result → IfOk result P
stop-is P stop (Err refusal) bad stopped = tt
stop-is P stop (Ok answer) bad stopped = let (is, fault, at, page) = stopped in subst P (sym is) (bad fault at page)

pub stop-told : (p : Placement) (held : Option (List ℕ)) (base : PagedFile) (stop : LookStop) (result : Result LineAnswer Refusal) → sum p.mover ≡ base.head.checkers → AnswersRows base.header held p (Err stop)
    → AnswersStop stop result → IfOk result (λ answer. OfOpened base held (λ bytes. ShowsPosition bytes p answer))
stop-told p held base stop result fits told =
    stop-is (λ answer. OfOpened base held (λ bytes. ShowsPosition bytes p answer)) stop result
    (λ fault at bad opened. held-weaker held (λ bytes page. inr page) (bad-page p held base stop fault at bad opened fits told))

pub none-given : (line : List ℕ) (held : Option (List ℕ)) (base : PagedFile) (refusal : Refusal) → GivesPosition line (Err refusal) → OfOpened base held (λ bytes. ShowsLine bytes line (Refused refusal))
none-given line held base refusal given = held-there base held (λ bytes. inr (refusal, given, refl))

pub line-told : (line : List ℕ) (held : Option (List ℕ)) (base : PagedFile) (p : Placement) (result : Result LineAnswer Refusal) → GivesPosition line (Ok p) → IfOk result (λ answer. OfOpened base held (λ bytes. ShowsPosition bytes p answer))
    → IfOk result (λ answer. OfOpened base held (λ bytes. ShowsLine bytes line answer))
line-told line held base p result given told =
    IfOk-weaker result _ _ (λ answer shows opened. held-weaker held (λ bytes shown. inl (p, given, shown)) (shows opened)) told

-- ---- one line with a roll

module _ (rolled : RolledPosition) (held : Option (List ℕ)) (base : PagedFile) (asked : Option KindName) where
  abbrev task : AdviseTask
  task = advise_of base.name asked rolled

  abbrev Tells : LineAnswer → Type 0
  Tells answer = OfOpened base held (λ bytes. AdvisesRolled base.name asked bytes rolled answer)

  pub other-rolled : (refusal : Refusal) → WantsOther rolled.position asked base.head refusal → Tells (Refused refusal)
  other-rolled refusal wants opened = held-weaker held (λ bytes other. inl other) (opened-other (WantsOther rolled.position asked) held base refusal opened wants)

  module _ (kind : AskedKind) (state : AnswersPaged (option_map whole held) (Ok base) → OfHeld held (λ bytes. IsStateIn task bytes base.head kind × (base.header ≡ header_of_file bytes))) where
    pub rolled-told : ((roll : Dice) (bytes : List ℕ) (ranking : Ranking) → IsStateIn task bytes base.head kind → IsRoll roll
        → IsRanking (stakes_of base.head) rolled.position kind.number roll (source_in bytes) (noted_in bytes) ranking → Ranks task roll bytes base.head kind ranking)
        → IsRoll rolled.roll → (ranking : Ranking) → AnswersRanking base.header held (stakes_of base.head) rolled.position kind.number rolled.roll (Ok ranking)
        → Tells (Ranked (record { rolled = rolled; kind = kind; ranking = ranking }))
    rolled-told law right ranking told opened =
        held-weaker held (λ bytes ranks. (refl, (base.head, ranks))) (ranked task base kind law rolled.roll right held ranking (state opened) told)

    pub rolled-stopped : (stop : LookStop) (result : Result LineAnswer Refusal) → AnswersRanking base.header held (stakes_of base.head) rolled.position kind.number rolled.roll (Err stop)
        → AnswersStop stop result → IfOk result Tells
    rolled-stopped stop result told =
        stop-is Tells stop result (λ fault at bad opened.
        subst (λ (s : LookStop). OfHeld held (λ bytes. AdvisesRolled base.name asked bytes rolled (Refused (look_refusal s)))) (sym bad)
        (held-weaker held (λ bytes page. inr page) (bad-advice task base kind (Some rolled.roll) refl held fault at (state opened)
        (subst (λ (s : LookStop). AnswersRanking base.header held (stakes_of base.head) rolled.position kind.number rolled.roll (Err s)) bad told))))

pub none-rolled : (file : List ℕ) (asked : Option KindName) (line : List ℕ) (held : Option (List ℕ)) (base : PagedFile) (refusal : Refusal) → GivesRolled line (Err refusal) → OfOpened base held (λ bytes. AdvisesLine file asked bytes line (Refused refusal))
none-rolled file asked line held base refusal given = held-there base held (λ bytes. inr (refusal, given, refl))

pub rolled-line : (line : List ℕ) (held : Option (List ℕ)) (base : PagedFile) (asked : Option KindName) (rolled : RolledPosition) (result : Result LineAnswer Refusal) → GivesRolled line (Ok rolled) → IfOk result (Tells rolled held base asked)
    → IfOk result (λ answer. OfOpened base held (λ bytes. AdvisesLine base.name asked bytes line answer))
rolled-line line held base asked rolled result given told =
    IfOk-weaker result _ _ (λ answer tells opened. held-weaker held (λ bytes said. inl (rolled, given, said)) (tells opened)) told

-- ---- all lines

-- some lines were answered, and with the answers to the rest all are
pub record HasAnswered (Answers : LineAnswers) (base : PagedFile) (held : Option (List ℕ)) (told : Bool) (list rest old now : List ℕ) : Type 0 where
  pub answers : List LineAnswer
  pub each : IsTrue told → OfOpened base held (λ bytes.
      (later : List LineAnswer) → AnswerEach (Answers bytes) (lines rest) later → AnswerEach (Answers bytes) (lines list) (answers ++ later))
  pub added : now ≡ old ++ flat_map answer_line answers

pub none-answered : (Answers : LineAnswers) (base : PagedFile) (held : Option (List ℕ)) (told : Bool) (list old : List ℕ) → HasAnswered Answers base held told list list old old
none-answered Answers base held told list old = record {
  answers = [];
  each = λ faithful. held-there base held (λ bytes later each. each);
  added = sym (append-nil old);
}

pub one-answered : (Answers : LineAnswers) (base : PagedFile) (held : Option (List ℕ)) (before told : Bool) (list rest line more old now new : List ℕ) → HasAnswered Answers base held before list rest old now
    → (IsTrue told → IsTrue before) → lines rest ≡ line ∷ lines more → AddsAnswer Answers base held told line now new → HasAnswered Answers base held told list more old new
one-answered Answers base held before told list rest line more old now new has earlier first adds = record {
  answers = has.answers ++ adds.answer ∷ [];
  each = λ faithful opened. both adds.answer held (has.each (earlier faithful) opened) (adds.answers faithful opened);
  added = adds.added ∙ ap (λ (text : List ℕ). text ++ answer_line adds.answer) has.added ∙ flat_map_more answer_line old has.answers adds.answer;
}
  where
    both : (answer : LineAnswer) (held : Option (List ℕ)) → OfHeld held (λ bytes. (later : List LineAnswer) → AnswerEach (Answers bytes) (lines rest) later → AnswerEach (Answers bytes) (lines list) (has.answers ++ later)) → OfHeld held (λ bytes. Answers bytes line answer)
        → OfHeld held (λ bytes. (later : List LineAnswer) → AnswerEach (Answers bytes) (lines more) later → AnswerEach (Answers bytes) (lines list) ((has.answers ++ answer ∷ []) ++ later))
    both answer None each one = absurd one
    both answer (Some bytes) each one = λ later rests.
        subst (AnswerEach (Answers bytes) (lines list)) (sym (append_assoc has.answers (answer ∷ []) later))
        (each (answer ∷ later) (subst (λ (all : List (List ℕ)). AnswerEach (Answers bytes) all (answer ∷ later)) (sym first) (one, rests)))

-- which pages are kept changes nothing of what was opened
opened-kept : (base : PagedFile) (kept : Kept) (held : Option (List ℕ)) → AnswersPaged (option_map whole held) (Ok base) → AnswersPaged (option_map whole held) (Ok (record base { kept = kept }))
opened-kept base kept None opened = opened
opened-kept base kept (Some bytes) opened = opened

-- the same answer, of the base as it was opened
pub answer-of : (Answers : List ℕ → LineAnswers) (base other : PagedFile) (held after : Option (List ℕ)) (told : Bool) (line old new : List ℕ) → other ≡ record base { kept = other.kept } → after ≡ held → AddsAnswer (Answers other.name) other after told line old new
    → AddsAnswer (Answers base.name) base held told line old new
answer-of Answers base other held after told line old new same is adds = record {
  answer = adds.answer;
  answers = λ faithful opened.
      let first = subst (λ (b : PagedFile). OfOpened b after (λ bytes. Answers b.name bytes line adds.answer)) same (adds.answers faithful) in
      subst (λ (h : Option (List ℕ)). OfOpened (record base { kept = other.kept }) h (λ bytes. Answers base.name bytes line adds.answer)) is first (opened-kept base other.kept held opened);
  added = adds.added;
}

pub all-answered : (Answers : LineAnswers) (base : PagedFile) (held : Option (List ℕ)) (told : Bool) (list rest old new : List ℕ) → rest ≡ [] → HasAnswered Answers base held told list rest old new → AddsAnswers Answers base held told (lines list) old new
all-answered Answers base held told list rest old new ended has = record {
  answers = has.answers;
  each = λ faithful opened. held-weaker held (λ bytes each. subst (AnswerEach (Answers bytes) (lines list)) (append-nil has.answers)
      (each [] (subst (λ (left : List ℕ). AnswerEach (Answers bytes) (lines left) []) (sym ended) tt))) (has.each faithful opened);
  added = has.added;
}

-- ---- the report

module _ (file listed : List ℕ) (Answers : LineAnswers) (told : Bool) (held : Contents) where
  pub list-answered : (base : PagedFile) (list report : List ℕ) → (IsTrue told → (held listed ≡ Some list) × (length list ≤ 67108864))
      → (IsTrue told → AnswersPaged (option_map whole (held file)) (Ok base)) → AddsAnswers Answers base (held file) told (lines list) [] report → HasListed file listed Answers told held (λ text. report ≡ text)
  list-answered base list report there opened adds = record {
    answers = adds.answers;
    files = λ faithful. answered (held file) (opened faithful) (held listed) (there faithful) (adds.each faithful (opened faithful));
    report = adds.added;
  }
    where
      answered : (file : Option (List ℕ)) → AnswersPaged (option_map whole file) (Ok base) → (there : Option (List ℕ)) → (there ≡ Some list) × (length list ≤ 67108864) → OfHeld file (λ bytes. AnswerEach (Answers bytes) (lines list) adds.answers)
          → OfHeld file (λ bytes. OfHeld there (λ list. AnswersLines Answers bytes list adds.answers))
      answered None a there is each = absurd a
      answered (Some bytes) a there is each = subst (λ (l : Option (List ℕ)). OfHeld l (λ list. AnswersLines Answers bytes list adds.answers)) (sym is.0) (record { front = a.right; short = is.1; each = each })

  -- what refuses a file refuses the report
  pub list-refused : (refusal : Refusal) (result : Result (Vec ℕ Global) Refusal) → (IsTrue told → RefusesListing file listed refusal held) → IsErrAnd result (λ given. given ≡ refusal)
      → AnswersListed file listed Answers told held result
  list-refused refusal (Ok report) refuses wrong = absurd wrong
  list-refused refusal (Err given) refuses same = λ faithful. subst (λ (r : Refusal). RefusesListing file listed r held) (sym same) (refuses faithful)

  pub list-put : (report : List ℕ) (IsReport : List ℕ → Type 0) → HasListed file listed Answers told held (λ text. report ≡ text) → IsReport report → HasListed file listed Answers told held IsReport
  list-put report IsReport has put = record { answers = has.answers; files = has.files; report = subst IsReport has.report put }

-- a fault of the files or of memory refuses a list, whatever it holds
pub outside-list : (name : List ℕ) (held : Option (List ℕ)) (refusal : Refusal) → IsOutside refusal → RefusesList name refusal held
outside-list name held Read outside = tt
outside-list name held Memory outside = tt
outside-list name held refusal outside = absurd outside

pub listing-outside : (refusal : Refusal) → IsOutside refusal → IsOfListing refusal
listing-outside Read outside = tt
listing-outside Memory outside = tt
listing-outside refusal outside = absurd outside

pub listing-loading : (refusal : Refusal) → IsOfLoading refusal → IsOfListing refusal
listing-loading (Missing name) loading = tt
listing-loading (File bad) loading = tt
listing-loading Read loading = tt
listing-loading Memory loading = tt
listing-loading refusal loading = absurd loading

-- a file of which more pages are kept is still the one that was opened
pub opened-still : (name : List ℕ) (held : Option (List ℕ)) (base other : PagedFile) → other ≡ record base { kept = other.kept } → AnswersOpening name held (Ok base) → AnswersOpening name held (Ok other)
opened-still name held base other is opened = subst (λ (file : PagedFile). AnswersOpening name held (Ok file)) (sym is) (opened-kept base other.kept held opened)
