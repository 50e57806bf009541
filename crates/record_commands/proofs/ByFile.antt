-- What a file of bounds that is to be of a game answers.
use Rattle.std.proofs.Common.{◌≡◌, ◌∙◌, ◌≤ℤ◌, ℕ, zero, suc, List, [], ◌∷◌, take, drop, map, All, Contains, IfOk, OnErr, IsSomeAnd, Option, Some, None, Result, Ok, Err, inl, inr, refl, sym, ap, subst, arith}
use Rattle.std.specs.List.{AllZip}
use Rattle.std.specs.Option.{option_map}
use Rattle.std.proofs.lemmas.List.{get_or-map, length-map}
use Rattle.std.proofs.lemmas.List.Elements.{All-head, All-tail}
use Rattle.position_rank.specs.Placement.{Placement}
use Rattle.move_rules.proofs.Members.{Among-Contains, Contains-Among}
use Rattle.directed_fixed.specs.declared.bounds.End.{End}
use Rattle.directed_fixed.specs.Bounds.{Bounds}
use Rattle.hyper_outside.specs.declared.outside.LookStop.{LookStop}
use Rattle.hyper_outside.specs.declared.outside.LookStop.TheVariants as looks
use Rattle.cube_actions.specs.Scores.{MatchScore}
use Rattle.cube_actions.specs.Stakes.{Terms, bound_of}
use Rattle.cube_actions.specs.declared.name.StakesName.{StakesName}
use Rattle.game_record.specs.declared.decision.Decision.{Decision}
use Rattle.turn_rule.specs.Games.{IsGame}
use Rattle.turn_rule.specs.Looks.{AreStakesOf, Damage, IsPairFor, Notes, Source}
use Rattle.turn_rule.specs.Turn.{Words}
use Rattle.play_analyser.specs.Regrets.{loss_of}
use Rattle.play_analyser.specs.declared.best.Best.{Best}
use Rattle.play_analyser.specs.Sought.{MayFollowChoice}
use Rattle.play_analyser.proofs.MetFirst.{met-on_choice}
use Rattle.record_analysis.specs.Analyses.{lost, unjudged}
use Rattle.record_analysis.specs.Judging.{IsAt, IsBestAt, Judges, JudgesAll, JudgesSome, MeetsOnDecision, MeetsOnDecisions, of_decision}
use Rattle.record_analysis.specs.Truth.{IsDecisionOf}
use Rattle.record_analysis.specs.declared.analysis.Judged.{Judged}
use Rattle.record_study.specs.Keeping.{decisions_in}
use Rattle.record_study.proofs.AtScore.{zipped-decisions}
use Rattle.base_head.specs.Heads.{FileHead, IsHead, stakes_of}
use Rattle.base_head.specs.Headers.{IsHeader}
use Rattle.base_head.specs.declared.header.Header.{Header}
use Rattle.database_file.specs.Faults.{header_of_file, whole}
use Rattle.database_file.specs.Opened.{AnswersPaged}
use Rattle.database_file.specs.Paged.{flaw_at, paged_source, told_notes}
use Rattle.database_file.specs.PagedFiles.{PagedFile}
use Rattle.database_file.specs.Texts.{game_in}
use Rattle.database_file.proofs.Bases.{bound-named}
use Rattle.equity_report.specs.declared.text.GameName.{GameName}
use Rattle.equity_report.specs.declared.refusal.Refusal.TheVariants.{Base}
use Rattle.equity_report.specs.declared.refusal.Wanted.TheVariants.{Fits}
use Rattle.run_endings.specs.Loads.{game_told, look_refusal}
use Rattle.run_endings.specs.Pages.{HavePairsOf, OfHeld}
use Rattle.run_endings.proofs.Pages.{bad-page, flawless, noted_in, same-kinds, source_in, told-agrees, told_in}
use Rattle.record_commands.specs.ByFile.{AnswersLooking, IsFrontOf, IsOpenedFor, JudgesAt, JudgesList, JudgesOne, MayFollowIn, RefusesFile, RefusesFront, front_head}
use Rattle.record_commands.proofs.Losses.{LossLaw, choice-state, same-loss}

-- ---- a file that was opened

module _ (wanted : GameName) (base : PagedFile) where
  abbrev pub Opened : Option (List ℕ) → Type 0
  Opened held = OfHeld held (λ bytes. IsOpenedFor wanted bytes × IsFrontOf base bytes)

  pub another-game : (name : List ℕ) (held : Option (List ℕ)) (found : GameName) → AnswersPaged (option_map whole held) (Ok base) → IsHead base.head → found ≡ game_told base.head → (found ≡ wanted → ⊥) → RefusesFront wanted name (Base (Fits wanted) found) held
  another-game name None found a head told other = absurd a
  another-game name (Some bytes) found a head told other =
      let of_file : found ≡ game_told (front_head bytes) = told ∙ ap (λ (h : FileHead). game_told h) a.head in
      inr (record { front = a.right; other = (subst IsHead a.head head, λ same. other (of_file ∙ same), ap (λ (g : GameName). Base (Fits wanted) g) of_file) })

  pub opened-for : (held : Option (List ℕ)) → AnswersPaged (option_map whole held) (Ok base)
      → IsHeader base.header → base.head.checkers ≡ base.header.checkers → base.head.name ≡ base.header.name → IsHead base.head → IsGame (game_in base.head) → game_told base.head ≡ wanted → Opened held
  opened-for None a valid many name head game is = absurd a
  opened-for (Some bytes) a valid many name head game is =
      let same : base.head ≡ front_head bytes = a.head in (
        record {
          file = record {
            front = a.right;
            game = subst (λ (h : FileHead). game_told h ≡ wanted) same is;
            head = subst IsHead same head;
            valid = subst (λ (h : FileHead). IsGame (game_in h)) same game;
          };
          valid = subst IsHeader a.header valid;
          source = record {
            checkers = sym (ap (λ (h : FileHead). h.checkers) (sym same) ∙ many ∙ ap (λ (h : Header). h.checkers) a.header);
            stakes = subst (λ (h : FileHead). AreStakesOf (paged_source (header_of_file bytes) (Some bytes)) (stakes_of h)) same (record {
              kinds = ap (λ (h : Header). h.kinds) (sym a.header) ∙ same-kinds base.header base.head valid name;
              bound = ap (λ (h : Header). bound_of h.name) (sym a.header) ∙ ap (λ (n : StakesName). bound_of n) (sym name) ∙ sym (bound-named base.head.name base.head.starts);
            });
          };
        },
        record { header = a.header; head = same },
      )

-- judging leaves the decisions, also where it stops
kept-up-to : (R : Judged → Judged → Type 0) → ((old new : Judged) → R old new → new.decision ≡ old.decision) → (place : ℕ) (olds news : List Judged) → AllZip R (take place olds) (take place news) → drop place news ≡ drop place olds → decisions_in news ≡ decisions_in olds
kept-up-to R keeps zero olds news zip rest = ap decisions_in rest
kept-up-to R keeps (suc place) [] [] zip rest = refl
kept-up-to R keeps (suc place) [] (new ∷ news) zip rest = absurd zip
kept-up-to R keeps (suc place) (old ∷ olds) [] zip rest = absurd zip
kept-up-to R keeps (suc place) (old ∷ olds) (new ∷ news) zip rest =
    ap (λ (d : Decision). d ∷ decisions_in news) (keeps old new zip.0) ∙ ap (λ (ds : List Decision). old.decision ∷ ds) (kept-up-to R keeps place olds news zip.1 rest)

pub judging-keeps : (score : Option MatchScore) (stakes : Terms) (source : Source) (noted : Notes) (olds news : List Judged) (result : Result (Unit {0}) LookStop)
    → IfOk result (λ _. JudgesAll score stakes source noted olds news) → OnErr result (JudgesSome score stakes source noted olds news) → decisions_in news ≡ decisions_in olds
judging-keeps score stakes source noted olds news (Ok done) ok err = zipped-decisions (Judges score stakes source noted) (λ old new is. is.decision) olds news ok
judging-keeps score stakes source noted olds news (Err stop) ok err = kept-up-to (Judges score stakes source noted) (λ old new is. is.decision) err.0 olds news err.1.judged err.1.rest

-- ---- decisions that were looked up in it

-- what holds of each pair of items, and of each first one, gives what holds of each pair
zip-with : {A : Type 0} (R S : A → A → Type 0) (P : A → Type 0) → ((old new : A) → R old new → P old → S old new) → (olds news : List A) → AllZip R olds news → All P olds → AllZip S olds news
zip-with R S P step [] [] zip all = tt
zip-with R S P step [] (new ∷ news) zip all = absurd zip
zip-with R S P step (old ∷ olds) [] zip all = absurd zip
zip-with R S P step (old ∷ olds) (new ∷ news) zip all = (step old new zip.0 (All-head P old olds all), zip-with R S P step olds news zip.1 (All-tail P old olds all))

among-decisions : (list : List Judged) (one : Judged) → Contains list one → Contains (decisions_in list) one.decision
among-decisions list one m = (
  m.0,
  (let below = m.1 in omega (arith, below, length-map list (λ (one : Judged). one.decision))),
  get_or-map (λ (one : Judged). one.decision) list m.0 one one.decision m.1 ∙ ap (λ (o : Judged). o.decision) m.2,
)

module _ (law : LossLaw) (wanted : GameName) (bytes : List ℕ) (opened : IsOpenedFor wanted bytes) where
  abbrev head : FileHead
  head = front_head bytes

  by-loss : (decision : Decision) → IsDecisionOf (game_in head) decision → (loss : Option Bounds) → IsSomeAnd loss (IsPairFor (of_decision (stakes_of head) decision) (source_in bytes) (noted_in bytes)) → (best : Option Best) → IsSomeAnd best (IsBestAt (stakes_of head) decision (source_in bytes) (noted_in bytes))
      → JudgesOne wanted bytes (record { decision = decision; loss = loss; best = best })
  by-loss decision of None h best told = absurd h
  by-loss decision of (Some pair) h best told_best = record { file = opened.file; pages = pages; over = λ u have. ap (λ (b : Bounds). Some b) (over u have); best = told_best } where
    pages : (q : Placement) (j : ℕ) → MayFollowIn bytes decision q j → flaw_at (header_of_file bytes) (Some bytes) q ≡ None
    pages q j may = flawless (flaw_at (header_of_file bytes) (Some bytes) q) (h.right refl q j may)

    over : (u : Words) → HavePairsOf bytes u → pair ≡ lost (stakes_of head) u decision
    over u have =
        let stakes = stakes_of head in
        let told : pair ≡ loss_of stakes (told_in bytes) decision.position decision.kind decision.choice = law (source_in bytes) (noted_in bytes) stakes decision.position decision.kind decision.choice pair refl of.choice (λ end q j may. refl) h in
        let in_order = subst (λ (b : Bounds). b.lower ≤ℤ b.upper) told h.within.in_order in
        let agree = λ (end : End) (q : Placement) (j : ℕ) (may : MayFollowChoice stakes decision.position decision.kind decision.choice q j).
        told-agrees bytes head opened.valid opened.source.checkers opened.source.stakes.kinds u have end q j (choice-state (game_in head) opened.file.valid decision.position decision.kind of.state decision.choice of.choice q j may) (pages q j may) in
        told ∙ same-loss law (game_in head) opened.file.valid decision.position decision.kind of.state decision.choice of.choice (told_in bytes) u agree in_order

  one-judged : (score : Option MatchScore) (old new : Judged) → Judges score (stakes_of head) (source_in bytes) (noted_in bytes) old new → (IsAt score old → IsDecisionOf (game_in head) old.decision) → JudgesAt wanted score bytes old new
  one-judged score old new is can =
      let same : new ≡ record { decision = old.decision; loss = new.loss; best = new.best } = λ i. record { decision = is.decision i; loss = new.loss; best = new.best } in
      record {
        decision = is.decision;
        judged = λ here. subst (JudgesOne wanted bytes) (sym same) (by-loss old.decision (can here) new.loss (is.judged here) new.best (is.best here));
        other = is.other;
      }

module _ (s : Source) (damage : Damage) (score : Option MatchScore) (stakes : Terms) where
  -- the decision at which it is met
  met-one : (list : List Judged) → MeetsOnDecisions score stakes list s damage → (judged : Judged) × Contains list judged × MeetsOnDecision score stakes judged s damage
  met-one [] met = absurd met
  met-one (one ∷ list) (inl met) = (one, Among-Contains one (one ∷ list) (inl refl), met)
  met-one (one ∷ list) (inr (clear, met)) = let (judged, among, at) = met-one list met in (judged, Among-Contains judged (one ∷ list) (inr (Contains-Among judged list among)), at)

  -- it is met at a decision whatever was judged of it
  met-unjudged : (list : List Judged) → MeetsOnDecisions score stakes list s damage → MeetsOnDecisions score stakes (map unjudged (decisions_in list)) s damage
  met-unjudged [] met = absurd met
  met-unjudged (one ∷ list) (inl met) = inl (record { at = met.at; meets = met.meets })
  met-unjudged (one ∷ list) (inr (clear, met)) = inr (λ q j may. clear q j (record { at = may.at; follows = may.follows }), met-unjudged list met)

module _ (law : LossLaw) (wanted : GameName) (name : List ℕ) (base : PagedFile) (score : Option MatchScore) (olds news : List Judged) where
  pub file-judged : (held : Option (List ℕ)) → Opened wanted base held → All (λ (one : Judged). IsAt score one → IsDecisionOf (game_in base.head) one.decision) olds
      → AnswersLooking base held score olds news (Ok tt) → OfHeld held (JudgesList wanted score olds news)
  file-judged None opened can told = absurd opened
  file-judged (Some bytes) (opened, is) can told =
      let one = subst (λ (h : Header). JudgesAll score (stakes_of base.head) (paged_source h (Some bytes)) (told_notes h (Some bytes)) olds news) is.header told in
      let two = subst (λ (h : FileHead). JudgesAll score (stakes_of h) (source_in bytes) (noted_in bytes) olds news) is.head one in
      let own = subst (λ (h : FileHead). All (λ (one : Judged). IsAt score one → IsDecisionOf (game_in h) one.decision) olds) is.head can in
      record {
        file = opened.file;
        each = zip-with (Judges score (stakes_of (front_head bytes)) (source_in bytes) (noted_in bytes)) (JudgesAt wanted score bytes) (λ (one : Judged). IsAt score one → IsDecisionOf (game_in (front_head bytes)) one.decision)
            (one-judged law wanted bytes opened score) olds news two own;
      }

  pub file-not-judged : (stop : LookStop) (held : Option (List ℕ)) → Opened wanted base held → AnswersLooking base held score olds news (Err stop) → RefusesFile wanted name score (decisions_in olds) (look_refusal stop) held
  file-not-judged looks.ReadFault held opened told = inl (inl tt)
  file-not-judged looks.NoMemory held opened told = inl (inl tt)
  file-not-judged (looks.BadPage fault at) None opened told = absurd opened
  file-not-judged (looks.BadPage fault at) (Some bytes) (opened, is) told =
      let damage : Damage = record { fault = fault; at = at } in
      let one = subst (λ (h : Header). MeetsOnDecisions score (stakes_of base.head) olds (paged_source h (Some bytes)) damage) is.header told in
      let met = subst (λ (h : FileHead). MeetsOnDecisions score (stakes_of h) olds (source_in bytes) damage) is.head one in
      let (judged, among, at_one) = met-one (source_in bytes) damage score (stakes_of (front_head bytes)) olds met in
      let own = met-on_choice (source_in bytes) damage (stakes_of (front_head bytes)) judged.decision.position judged.decision.kind judged.decision.choice at_one.meets in
      inr (record {
        decision = judged.decision;
        among = among-decisions olds judged among;
        at = at_one.at;
        cause = record { file = opened.file; page = bad-page bytes (MayFollowIn bytes judged.decision) damage own };
        first = record { damage = damage; met = met-unjudged (source_in bytes) damage score (stakes_of (front_head bytes)) olds met; told = refl };
      })
