-- The files of the scores of a match, and what they judge.
use Rattle.std.proofs.Common.{◌≡◌, ◌∙◌, ◌<◌, ◌≤◌, ℕ, zero, suc, Bool, true, false, List, [], ◌∷◌, length, get_or, All, Option, Some, None, IfSome, IsSomeAnd, ◌⊎◌, inl, inr, refl, sym, ap, subst, arith}
use Rattle.std.specs.List.{AllZip}
use Rattle.std.proofs.lemmas.Bool.{cases_lt}
use Rattle.std.proofs.lemmas.Bool.Decides.{nat_tests}
use Rattle.std.proofs.lemmas.List.{get_or-map}
use Rattle.std.proofs.lemmas.List.Elements.{All-head, All-map, All-tail}
use Rattle.outside_log.specs.Files.{Contents}
use Rattle.cube_actions.specs.Scores.{MatchScore, same_phase, same_score}
use Rattle.cube_actions.specs.declared.phase.Phase.{Phase}
use Rattle.cube_actions.specs.declared.phase.Phase.TheVariants.{Normal, Crawford, Post}
use Rattle.game_record.specs.declared.decision.Decision.{Decision}
use Rattle.game_record.specs.declared.record.Record.{Record as RecordRead}
use Rattle.record_analysis.specs.Judging.{IsAt}
use Rattle.record_analysis.specs.declared.analysis.Judged.{Judged}
use Rattle.record_study.specs.Keeping.{decisions_in}
use Rattle.record_study.proofs.AtScore.{zipped-all}
use Rattle.record_study.proofs.Matches.{if-given, some-given}
use Rattle.database_file.specs.PagedFiles.{PagedFile}
use Rattle.equity_report.specs.declared.refusal.Refusal.{Refusal}
use Rattle.run_endings.specs.Pages.{AreOnRightPages, OfHeld}
use Rattle.run_endings.specs.Scores.{score_file}
use Rattle.record_commands.specs.ByFile.{IsBadPageFor, IsFileOf, JudgesAt, JudgesList, JudgesOne, MayFollowIn, RefusesFile, RefusesFront, TellsFirstJudging}
use Rattle.record_commands.specs.MatchAnalyses.{HasFile, HasNoNewScore, RestsOnRightPages, IsJudgedByFile, RefusesMatch, game_at, score_there}
use Rattle.record_commands.proofs.ByFile.{Opened}
use Rattle.record_commands.proofs.Recorded.{each-decision}

-- ---- scores

same-phase : (a : Phase) → same_phase a a ≡ true
same-phase Normal = refl
same-phase Crawford = refl
same-phase Post = refl

phases-same : (a b : Phase) → same_phase a b ≡ true → a ≡ b
phases-same Normal Normal h = refl
phases-same Crawford Crawford h = refl
phases-same Post Post h = refl
phases-same _ _ h = cc

scores-same : (a b : MatchScore) → same_score a b ≡ true → a ≡ b
scores-same a b h =
    let near : a.near ≡ b.near = grind (arith, nat_tests) in
    let far : a.far ≡ b.far = grind (arith, nat_tests) in
    let phase : same_phase a.phase b.phase ≡ true = grind (arith, nat_tests) in
    let phases = phases-same a.phase b.phase phase in
    λ i. record { near = near i; far = far i; phase = phases i }

same-score : (a : MatchScore) → same_score a a ≡ true
same-score a = let phase = same-phase a.phase in grind (arith, nat_tests)

-- two scores are the same or not
same-or-not : (a b : MatchScore) → (a ≡ b) ⊎ (a ≡ b → ⊥)
same-or-not a b = by_test (same_score a b) refl where
  by_test : (t : Bool) → same_score a b ≡ t → (a ≡ b) ⊎ (a ≡ b → ⊥)
  by_test true is = inl (scores-same a b is)
  by_test false is = inr (λ same. differ (subst (λ (s : MatchScore). same_score a s ≡ true) same (same-score a))) where
    differ : same_score a b ≡ true → ⊥
    differ h = let e : false ≡ true = sym is ∙ h in cc

at-or-not : (o : Option MatchScore) (score : MatchScore) → (o ≡ Some score) ⊎ (o ≡ Some score → ⊥)
at-or-not None score = inr (λ is. cc)
at-or-not (Some s) score = elim (same-or-not s score) [
  | inl same ↦ inl (ap (λ (x : MatchScore). Some x) same)
  | inr apart ↦ inr (λ is. apart (inner is))
] where
  inner : Some s ≡ Some score → s ≡ score
  inner is = cc

-- ---- the scores of decisions

module _ (P : Option MatchScore → Type 0) (none : P None) where
  -- what holds of the scores of all decisions holds at each place
  pub there : (decisions : List Decision) → All (λ (decision : Decision). P decision.score) decisions → (place : ℕ) → P (score_there decisions place)
  there [] all place = none
  there (decision ∷ decisions) all zero = All-head (λ (decision : Decision). P decision.score) decision decisions all
  there (decision ∷ decisions) all (suc place) = there decisions (All-tail (λ (decision : Decision). P decision.score) decision decisions all) place

module _ (P : Option MatchScore → Type 0) (decisions : List Decision) where
  -- it holds at the first so many places
  abbrev pub UpTo : ℕ → Type 0
  UpTo many = (earlier : ℕ) → earlier < many → P (score_there decisions earlier)

  pub more : (many : ℕ) → UpTo many → P (score_there decisions many) → (next : ℕ) → next ≤ suc many → UpTo next
  more many all one next up earlier less = elim (cases_lt earlier many) [
    | inl before ↦ all earlier before
    | inr last ↦ (let is : many ≡ earlier = omega (arith, less, up, last) in subst (λ (n : ℕ). P (score_there decisions n)) is one)
  ]

  -- it holds at a place that has no score, or one of those before
  pub no-new : P None → (place : ℕ) → HasNoNewScore decisions place → UpTo place → P (score_there decisions place)
  no-new none place (inl is) all = subst P (sym is) none
  no-new none place (inr (before, less, same)) all = subst P same (all before less)

  pub whole : (many : ℕ) → length decisions ≤ many → UpTo many → All (λ (decision : Decision). P decision.score) decisions
  whole many long all i d below = subst P (get_or-map (λ (decision : Decision). decision.score) decisions i d None below) (all i (omega (arith, below, long)))

-- ---- what their files answer

pub file-there : (prefix : List ℕ) (rec : RecordRead) (held : Contents) (score : MatchScore) (base : PagedFile) → Opened (game_at rec score) base (held (score_file prefix score)) → HasFile prefix rec held (Some score)
file-there prefix rec held score base opened = by_held (held (score_file prefix score)) opened where
  by_held : (file : Option (List ℕ)) → Opened (game_at rec score) base file → OfHeld file (IsFileOf (game_at rec score))
  by_held None opened = absurd opened
  by_held (Some bytes) opened = opened.0.file

module _ (prefix : List ℕ) (rec : RecordRead) (held : Contents) where
  -- each decision at a score is judged by its file
  abbrev pub AreJudged : List Judged → Option MatchScore → Type 0
  AreJudged list score = All (λ (one : Judged). IsAt score one → IsJudgedByFile prefix rec held one) list

  pub none-judged : (list : List Judged) → AreJudged list None
  none-judged list i d below none = subst (λ (o : Option MatchScore). IfSome o (λ score. OfHeld (held (score_file prefix score)) (λ bytes. JudgesOne (game_at rec score) bytes (get_or list i d)))) (sym none) tt

  module _ (score : MatchScore) (olds news : List Judged) where
    module _ (bytes : List ℕ) (file : held (score_file prefix score) ≡ Some bytes) (each : AllZip (JudgesAt (game_at rec score) (Some score) bytes) olds news) where
      by-file : (one : Judged) → one.decision.score ≡ Some score → JudgesOne (game_at rec score) bytes one → IsJudgedByFile prefix rec held one
      by-file one at is =
          if-given (λ (s : MatchScore). OfHeld (held (score_file prefix s)) (λ b. JudgesOne (game_at rec s) b one)) one.decision.score score at
          (subst (λ (f : Option (List ℕ)). OfHeld f (λ b. JudgesOne (game_at rec score) b one)) (sym file) is)

      -- a decision of another score stays as it was
      next-one : (other : Option MatchScore) (old new : Judged) → JudgesAt (game_at rec score) (Some score) bytes old new → (IsAt other old → IsJudgedByFile prefix rec held old) ⊎ (other ≡ Some score) → IsAt other new → IsJudgedByFile prefix rec held new
      next-one other old new is before here = elim (at-or-not old.decision.score score) [
        | inl at ↦ by-file new (ap (λ (d : Decision). d.score) is.decision ∙ at) (is.judged at)
        | inr apart ↦ elim before [
          | inl judged ↦ subst (IsJudgedByFile prefix rec held) (sym (is.other apart)) (judged (ap (λ (d : Decision). d.score) (sym is.decision) ∙ here))
          | inr same ↦ absurd (apart (ap (λ (d : Decision). d.score) (sym is.decision) ∙ here ∙ same))
        ]
      ]

      next-all : (other : Option MatchScore) → AreJudged olds other ⊎ (other ≡ Some score) → AreJudged news other
      next-all other before =
          zipped-all (JudgesAt (game_at rec score) (Some score) bytes) (λ (old : Judged). (IsAt other old → IsJudgedByFile prefix rec held old) ⊎ (other ≡ Some score)) (λ (new : Judged). IsAt other new → IsJudgedByFile prefix rec held new)
          (λ old new is before here. next-one other old new is before here) olds news each (spread before) where
            spread : AreJudged olds other ⊎ (other ≡ Some score) → All (λ (old : Judged). (IsAt other old → IsJudgedByFile prefix rec held old) ⊎ (other ≡ Some score)) olds
            spread (inl all) i d below = inl (all i d below)
            spread (inr same) i d below = inr same

    -- the decisions at this score are judged, and those that were stay so
    pub judged-next : OfHeld (held (score_file prefix score)) (JudgesList (game_at rec score) (Some score) olds news) → (other : Option MatchScore) → AreJudged olds other ⊎ (other ≡ Some score) → AreJudged news other
    judged-next judges = by_held (held (score_file prefix score)) refl judges where
      by_held : (file : Option (List ℕ)) → held (score_file prefix score) ≡ file → OfHeld file (JudgesList (game_at rec score) (Some score) olds news) → (other : Option MatchScore) → AreJudged olds other ⊎ (other ≡ Some score) → AreJudged news other
      by_held None is judges other before = absurd judges
      by_held (Some bytes) is judges other before = next-all bytes is judges.each other before

  -- where those at the scores of all are, all are
  pub all-judged : (list : List Judged) → All (λ (decision : Decision). AreJudged list decision.score) (decisions_in list) → All (IsJudgedByFile prefix rec held) list
  all-judged list all i d below = each-decision (λ (decision : Decision). AreJudged list decision.score) list all i d below i d below refl

  -- the pages are right on which the decisions rest that were judged at a score
  pub judged-pages : (list : List Judged) (score : Option MatchScore) → AreJudged list score → RestsOnRightPages prefix held (decisions_in list) score
  judged-pages list None judged = tt
  judged-pages list (Some score) judged = by_held (held (score_file prefix score)) refl where
    by_held : (file : Option (List ℕ)) → held (score_file prefix score) ≡ file → IfSome file (λ bytes. All (λ (decision : Decision). decision.score ≡ Some score → AreOnRightPages bytes (MayFollowIn bytes decision)) (decisions_in list))
    by_held None is = tt
    by_held (Some bytes) is =
        All-map (λ (decision : Decision). decision.score ≡ Some score → AreOnRightPages bytes (MayFollowIn bytes decision)) (λ (one : Judged). one.decision) list (λ i d below at.
        let one = get_or list i d in
        let there = subst (λ (o : Option MatchScore). IfSome o (λ s. OfHeld (held (score_file prefix s)) (λ b. JudgesOne (game_at rec s) b one))) at (judged i d below at) in
        (subst (λ (f : Option (List ℕ)). OfHeld f (λ b. JudgesOne (game_at rec score) b one)) is there).pages)

  -- what refuses the file of a decision's score refuses the match
  pub refused-at : (decisions : List Decision) (refusal : Refusal) → All (λ (decision : Decision). HasFile prefix rec held decision.score) decisions → (place : ℕ)
      → ((earlier : ℕ) → earlier < place → RestsOnRightPages prefix held decisions (score_there decisions earlier))
      → IsSomeAnd (score_there decisions place) (λ score. RefusesFile (game_at rec score) (score_file prefix score) (Some score) decisions refusal (held (score_file prefix score))) → RefusesMatch prefix rec decisions refusal held
  refused-at decisions refusal fronts place before cause = by_score (score_there decisions place) refl cause where
    by_score : (o : Option MatchScore) → score_there decisions place ≡ o → IsSomeAnd o (λ score. RefusesFile (game_at rec score) (score_file prefix score) (Some score) decisions refusal (held (score_file prefix score))) → RefusesMatch prefix rec decisions refusal held
    by_score None is cause = absurd cause
    by_score (Some score) is (inl front) = inl (record {
      place = place;
      first = λ earlier less. there (HasFile prefix rec held) tt decisions fronts earlier;
      cause = some-given (λ (s : MatchScore). RefusesFront (game_at rec s) (score_file prefix s) refusal (held (score_file prefix s))) (score_there decisions place) score is front;
    })
    by_score (Some score) is (inr one) = inr (record {
      fronts = fronts;
      decision = one.decision;
      among = one.among;
      cause = some-given (λ (s : MatchScore). OfHeld (held (score_file prefix s)) (IsBadPageFor (game_at rec s) one.decision refusal)) one.decision.score score one.at one.cause;
      place = place;
      before = before;
      first = some-given (λ (s : MatchScore). OfHeld (held (score_file prefix s)) (TellsFirstJudging (Some s) decisions refusal)) (score_there decisions place) score is one.first;
    })
