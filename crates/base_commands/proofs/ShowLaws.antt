-- What is shown of a file, and what refuses it.
use Rattle.std.proofs.Common.{◌≡◌, ◌∙◌, ◌<◌, ◌+◌, ℕ, suc, List, [], ◌∷◌, sum, length, drop, Option, Some, None, Ok, Err, IsErrAnd, Result, inl, inr, refl, sym, ap, subst, arith}
use Rattle.std.specs.Option.{option_map}
use Rattle.std.specs.Prelude.{⊤}
use Rattle.arrayvec.specs.ArrayVec.{ArrayVec}
use Rattle.position_rank.specs.Placement.{Placement, IsPosition, IsLive}
use Rattle.directed_fixed.specs.declared.bounds.End.{End}
use Rattle.directed_fixed.specs.declared.bounds.End.TheVariants.{Lower, Upper}
use Rattle.cube_actions.specs.declared.name.KindName.{KindName}
use Rattle.cube_actions.specs.declared.name.StakesName.{StakesName}
use Rattle.cube_actions.specs.Names.{names_of}
use Rattle.hyper_outside.specs.declared.outside.LookStop.{LookStop}
use Rattle.hyper_outside.specs.declared.outside.LookStop.TheVariants as looks
use Rattle.hyper_outside.specs.declared.outside.PageFault.{PageFault}
use Rattle.turn_rule.specs.Turn.{Words}
use Rattle.word_pages.specs.declared.flaws.Flaw.{Flaw}
use Rattle.base_head.specs.Fronts.{bad_of, digest_in}
use Rattle.base_head.specs.Heads.{FileHead}
use Rattle.base_head.specs.Headers.{IsHeader, front_length}
use Rattle.base_head.specs.declared.header.Header.{Header}
use Rattle.database_file.specs.Faults.{pages_behind, whole}
use Rattle.database_file.specs.Pages.{words_listed}
use Rattle.interval_words.specs.Numbers.{words_of}
use Rattle.database_file.specs.Opened.{AnswersPaged}
use Rattle.database_file.specs.Paged.{flaw_at, word_at}
use Rattle.database_file.specs.PagedFiles.{PagedFile}
use Rattle.database_file.proofs.PageWords.{word-among}
use Rattle.base_reports.specs.declared.shown.KindRow.{KindRow}
use Rattle.equity_report.specs.declared.refusal.Refusal.{Refusal}
use Rattle.equity_report.specs.declared.refusal.Refusal.TheVariants.{File}
use Rattle.command_line.specs.declared.command.Show.{Show as ShowTask}
use Rattle.base_commands.specs.Shows.{AnswersOnPage, AnswersRows, IsBadAt, RefusesShowing, ShowsPairs, rows_from}
use Rattle.run_endings.specs.Loads.{look_refusal}
use Rattle.run_endings.specs.Pages.{OfHeld, words_in_file}

rows-same : (u v : Words) (p : Placement) (k : ℕ) (names : List KindName) → ((end : End) (j : ℕ) → j < length names + k → u end p j ≡ v end p j) → rows_from u p k names ≡ rows_from v p k names
rows-same u v p k [] same = refl
rows-same u v p k (name ∷ names) same =
    let lower = same Lower k (omega arith) in
    let upper = same Upper k (omega arith) in
    rw (lower, upper, rows-same u v p (suc k) names (λ end j h. same end j (omega (arith, h)))) refl

pub shown-told : (p : Placement) (held : Option (List ℕ)) (base : PagedFile) (rows : ArrayVec KindRow) → AnswersPaged (option_map whole held) (Ok base)
    → IsHeader base.header → base.head.checkers ≡ base.header.checkers → base.head.name ≡ base.header.name
    → IsPosition p → IsLive p → sum p.mover ≡ base.head.checkers
    → AnswersRows base.header held p (Ok rows) → OfHeld held (λ bytes. ShowsPairs bytes p base.head rows.items)
shown-told p None base rows a valid many name position live fits told = absurd a
shown-told p (Some bytes) base rows a valid many name position live fits told =
    let header = a.header in
    let among : (end : End) (j : ℕ) → j < length (names_of base.header.name) + 0 → word_at base.header (Some bytes) end p j ≡ words_in_file bytes end p j =
    λ end j inside. word-among base.header bytes end p j valid (record { position = position; many = fits ∙ many; live = live; kind = omega (arith, inside, valid.kinds) }) ∙ ap (λ (h : Header). words_of h.kinds (words_listed (pages_behind h (digest_in h bytes)) (drop (front_length h) bytes)) end p j) header in
    record {
      front = a.right;
      page = subst (λ (h : Header). flaw_at h (Some bytes) p ≡ None) header told.0;
      head_is = a.head;
      checkers = sym fits;
      pairs = told.1 ∙ rows-same (word_at base.header (Some bytes)) (words_in_file bytes) p 0 (names_of base.header.name) among ∙ ap (λ (n : StakesName). rows_from (words_in_file bytes) p 0 (names_of n)) (sym name);
    }

abbrev refused : Option Flaw → Option Refusal
refused flaw = option_map (λ f. File (bad_of f)) flaw

-- where the first flaw of its page stops a look-up, a position's page is bad
pub bad-page : (p : Placement) (held : Option (List ℕ)) (base : PagedFile) (stop : LookStop) (fault : PageFault) (at : ℕ) → stop ≡ looks.BadPage fault at → AnswersPaged (option_map whole held) (Ok base)
    → sum p.mover ≡ base.head.checkers → AnswersRows base.header held p (Err stop) → OfHeld held (λ bytes. IsBadAt bytes p (look_refusal stop))
bad-page p None base stop fault at is a fits told = absurd a
bad-page p (Some bytes) base stop fault at is a fits told =
    subst (λ (s : LookStop). IsBadAt bytes p (look_refusal s)) (sym is) (record {
      front = a.right;
      checkers = sym (fits ∙ ap (λ (h : FileHead). h.checkers) a.head);
      page = subst (λ (h : Header). refused (flaw_at h (Some bytes) p) ≡ Some (File (bad_of (record { fault = fault; at = at })))) a.header
          (ap (λ (flaw : Option Flaw). refused flaw) (subst (λ (s : LookStop). AnswersRows base.header (Some bytes) p (Err s)) is told));
    })

pub not-found : (task : ShowTask) (held : Option (List ℕ)) (base : PagedFile) (stop : LookStop) → AnswersPaged (option_map whole held) (Ok base)
    → sum task.position.mover ≡ base.head.checkers
    → AnswersRows base.header held task.position (Err stop) → RefusesShowing task (look_refusal stop) held
not-found task held base looks.ReadFault a fits told = inl (inl tt)
not-found task held base looks.NoMemory a fits told = inl (inl tt)
not-found task held base (looks.BadPage fault at) a fits told = inr (bad-page task.position held base (looks.BadPage fault at) fault at refl a fits told)

-- what stops a look-up stops all that is looked up on the same page
pub stopped : {A : Type 0} (header : Header) (file : Option (List ℕ)) (p : Placement) (right : A → Type 0) (stop : LookStop) (result : Result A LookStop)
    → AnswersOnPage {A = Unit {0}} header file p (λ none. ⊤) (Err stop) → IsErrAnd result (λ given. given ≡ stop) → AnswersOnPage header file p right result
stopped header file p right stop (Ok found) answers wrong = absurd wrong
stopped header file p right stop (Err given) answers same = subst (λ (s : LookStop). AnswersOnPage header file p right (Err s)) (sym same) answers
