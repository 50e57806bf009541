-- Whole analyses: what they hold, and what their pairs enclose.
use Rattle.std.proofs.Common.{◌≡◌, ◌<◌, ◌≤◌, ◌∙◌, ℕ, List, [], ◌∷◌, length, map, get_or, All, IfSome, IsSome, IsSomeAnd, IsTrue, Option, None, Some, ap, sym, subst, refl, arith}
use Rattle.std.specs.Bool.{⊤}
use Rattle.std.proofs.lemmas.List.{get_or-map, length-map}
use Rattle.std.proofs.lemmas.List.Elements.{All-cons, All-head, All-tail, All-map}
use Rattle.position_rank.specs.Placement.{Placement}
use Rattle.directed_fixed.specs.declared.bounds.End.{End}
use Rattle.directed_fixed.specs.Bounds.{Bounds}
use Rattle.cube_actions.specs.declared.kind.Double.{Double}
use Rattle.cube_actions.specs.Matches.{stakes_named}
use Rattle.cube_actions.specs.Stakes.{Terms, kind_at, no_kind, IsValid, IsRightDouble}
use Rattle.cube_actions.specs.Starts.{StartPairs}
use Rattle.cube_actions.specs.declared.action.Answer.{Answer}
use Rattle.cube_actions.specs.declared.action.Answer.TheVariants.{Take, Pass, Beaver}
use Rattle.turn_rule.specs.declared.choice.Choice.{Choice}
use Rattle.turn_rule.specs.declared.choice.Choice.TheVariants.{Played, Offered, Answered}
use Rattle.game_record.specs.declared.decision.Decision.{Decision}
use Rattle.game_record.specs.declared.record.Record.{Record}
use Rattle.game_record.specs.Kinds.{stakes_at}
use Rattle.game_record.specs.RightDecisions.{IsAnswerTo, IsRightChoice, IsRightDecision}
use Rattle.turn_rule.specs.declared.game.Game.{Game}
use Rattle.turn_rule.specs.Following.{AgreeOn}
use Rattle.turn_rule.specs.Games.{IsGame}
use Rattle.turn_rule.specs.Looks.{AreStakesOf, IsPairFor, Notes, Source}
use Rattle.turn_rule.specs.States.{AreNoLooser}
use Rattle.turn_rule.specs.Truth.{AreNoLooserStakes, AreSoundFrom}
use Rattle.turn_rule.specs.Turn.{Words}
use Rattle.play_analyser.specs.declared.best.Best.{Best}
use Rattle.play_analyser.specs.Bests.{IsBest, IsBestOver}
use Rattle.play_analyser.specs.Choices.{HasAnswer, IfDouble, IsChoice}
use Rattle.play_analyser.specs.Regrets.{loss_of}
use Rattle.play_analyser.specs.Sought.{MayFollowChoice, of_loss}
use Rattle.play_analyser.proofs.Enclosing.{loss-of-encloses}
use Rattle.play_analyser.proofs.Tighter.{loss-of-tighter}
use Rattle.record_analysis.specs.declared.analysis.Judged.{Judged}
use Rattle.record_analysis.specs.Analyses.{IsBestFor, analysis_of, losses_alone, lost, unjudged}
use Rattle.record_analysis.specs.Judging.{CanBeJudged, IsBestAt, Judges, JudgesAll, MayFollowOne, MayFollowSome, of_decision}
use Rattle.record_analysis.specs.Truth.{EnclosesLoss, EncloseLosses, IsDecisionOf, IsNoLooserAnalysis, IsTrueAnalysis}

-- ---- decisions of a record

offered : (right : Option Double) → IsSome right → IfDouble right (λ double. ⊤)
offered None some = absurd (cc)
offered (Some double) some = tt

answered : (stakes : Terms) (right : Option Double) → IfSome right (IsRightDouble stakes) → (answer : Answer) → IsAnswerTo right answer → IfDouble right (λ double. HasAnswer double answer)
answered stakes None valid Take is = absurd (cc)
answered stakes None valid Pass is = absurd (cc)
answered stakes None valid Beaver is = absurd (cc)
answered stakes (Some double) valid Take is = omega (arith, valid.some)
answered stakes (Some double) valid Pass is = tt
answered stakes (Some double) valid Beaver is = is.1

right-choice : (stakes : Terms) → IsValid stakes → (p : Placement) (k : ℕ) → k < length stakes.kinds → (choice : Choice) → IsRightChoice p (kind_at stakes k) choice → IsChoice stakes p k choice
right-choice stakes valid p k below (Played roll end) is = is
right-choice stakes valid p k below (Offered offer) is = offered (kind_at stakes k).double is
right-choice stakes valid p k below (Answered answer) is = answered stakes (kind_at stakes k).double (valid.kinds k no_kind below).double answer is

pub can-be-judged : (rec : Record) (starts : StartPairs) (decision : Decision) → IsRightDecision rec decision → (source : Source) (stakes : Terms) → source.checkers ≡ rec.checkers
    → stakes ≡ stakes_named (stakes_at rec.stakes decision.score) starts → IsValid stakes → AreStakesOf source stakes → CanBeJudged source stakes decision
can-be-judged rec starts decision right source stakes checkers is valid fits =
    let below : decision.kind < length stakes.kinds = subst (λ (t : Terms). decision.kind < length t.kinds) (sym is) (right.kind starts) in
    record {
      state = record { position = right.position; many = right.checkers ∙ sym checkers; live = right.live; kind = subst (λ (n : ℕ). decision.kind < n) (sym fits.kinds) below };
      choice = right-choice stakes valid decision.position decision.kind below decision.choice
          (subst (λ (t : Terms). IsRightChoice decision.position (kind_at t decision.kind) decision.choice) (sym is) (right.choice starts));
    }

-- ---- one list of words

-- over one list of words the loss of a choice is what it loses over them
abbrev pub OneListGives : Type 0
OneListGives = (source : Source) (u : Notes) (stakes : Terms) (p : Placement) (k : ℕ) (choice : Choice) (pair : Bounds) → IsTrue u.told → IsChoice stakes p k choice
    → ((end : End) → AgreeOn (MayFollowChoice stakes p k choice) end source.floor u.words) → IsPairFor (of_loss stakes p k choice) source u pair → pair ≡ loss_of stakes u.words p k choice

-- and what was best is so over them
abbrev pub OneListBest : Type 0
OneListBest = (source : Source) (u : Notes) (stakes : Terms) (p : Placement) (k : ℕ) (choice : Choice) (best : Best) → IsTrue u.told → ((end : End) → AgreeOn (MayFollowChoice stakes p k choice) end source.floor u.words) → IsBest stakes p k choice source u best → IsBestOver stakes u.words p k choice best

module _ (one_list : OneListGives) (one_best : OneListBest) (source : Source) (u : Notes) (stakes : Terms) (told : IsTrue u.told) where
  abbrev SameFor : Decision → Type 0
  SameFor decision = (end : End) → AgreeOn (MayFollowOne None stakes (unjudged decision)) end source.floor u.words

  -- a decision with a loss alone
  abbrev alone : Decision → Option Bounds → Judged
  alone decision loss = record { decision = decision; loss = loss; best = None }

  one-exact : (decision : Decision) (judged : Judged) → decision.score ≡ None → CanBeJudged source stakes decision → SameFor decision → Judges None stakes source u (unjudged decision) judged
      → (alone judged.decision judged.loss ≡ alone decision (Some (lost stakes u.words decision))) × IsBestFor stakes u.words judged
  one-exact decision judged outside can same is = (both is.decision (by_loss judged.loss (is.judged outside)), by_decision judged.decision (sym is.decision) judged.best (is.best outside)) where
    follows : (end : End) → AgreeOn (MayFollowChoice stakes decision.position decision.kind decision.choice) end source.floor u.words
    follows end q j may = same end q j (record { at = outside; follows = may })

    by_loss : (loss : Option Bounds) → IsSomeAnd loss (IsPairFor (of_decision stakes decision) source u) → loss ≡ Some (lost stakes u.words decision)
    by_loss None h = absurd h
    by_loss (Some pair) h = ap (λ (b : Bounds). Some b) (one_list source u stakes decision.position decision.kind decision.choice pair told can.choice follows h)

    by_best : (best : Option Best) → IsSomeAnd best (IsBestAt stakes decision source u) → IsSomeAnd best (IsBestOver stakes u.words decision.position decision.kind decision.choice)
    by_best None h = absurd h
    by_best (Some best) h = one_best source u stakes decision.position decision.kind decision.choice best told follows h

    by_decision : (d : Decision) → decision ≡ d → (best : Option Best) → IsSomeAnd best (IsBestAt stakes decision source u) → IsSomeAnd best (IsBestOver stakes u.words d.position d.kind d.choice)
    by_decision d is best h = subst (λ (x : Decision). IsSomeAnd best (IsBestOver stakes u.words x.position x.kind x.choice)) is (by_best best h)

    both : {d : Decision} {o : Option Bounds} → d ≡ decision → o ≡ Some (lost stakes u.words decision) → alone d o ≡ alone decision (Some (lost stakes u.words decision))
    both {d} {o} h k = ap (λ (x : Decision). alone x o) h ∙ ap (alone decision) k

  all-exact : (decisions : List Decision) (list : List Judged) → All (λ (decision : Decision). decision.score ≡ None) decisions → All (CanBeJudged source stakes) decisions → All SameFor decisions → JudgesAll None stakes source u (map unjudged decisions) list
      → (losses_alone list ≡ analysis_of stakes u.words decisions) × All (IsBestFor stakes u.words) list
  all-exact [] [] outside can same are = (refl, λ i d below. absurd (omega arith))
  all-exact [] (judged ∷ list) outside can same are = absurd are
  all-exact (decision ∷ decisions) [] outside can same are = absurd are
  all-exact (decision ∷ decisions) (judged ∷ list) outside can same are =
      let one = one-exact decision judged (All-head (λ (d : Decision). d.score ≡ None) decision decisions outside) (All-head (CanBeJudged source stakes) decision decisions can) (All-head SameFor decision decisions same) are.0 in
      let rest = all-exact decisions list (All-tail (λ (d : Decision). d.score ≡ None) decision decisions outside) (All-tail (CanBeJudged source stakes) decision decisions can) (All-tail SameFor decision decisions same) are.1 in (
        ap (λ (j : Judged). j ∷ losses_alone list) one.0 ∙ ap (λ (js : List Judged). alone decision (Some (lost stakes u.words decision)) ∷ js) rest.0,
        All-cons (IsBestFor stakes u.words) judged list one.1 rest.1,
      )

  pub analysis-exact : (decisions : List Decision) (list : List Judged) → All (λ (decision : Decision). decision.score ≡ None) decisions → All (CanBeJudged source stakes) decisions → ((end : End) → AgreeOn (MayFollowSome None stakes (map unjudged decisions)) end source.floor u.words)
      → JudgesAll None stakes source u (map unjudged decisions) list → (losses_alone list ≡ analysis_of stakes u.words decisions) × All (IsBestFor stakes u.words) list
  analysis-exact decisions list outside can same are =
      all-exact decisions list outside can
      (λ i d below end q j may. same end q j (record {
        judged = unjudged (get_or decisions i d);
        among = (i, omega (arith, length-map decisions unjudged, below), get_or-map unjudged decisions i d (unjudged (get_or decisions i d)) below);
        one = may;
      })) are

-- ---- what the pairs enclose

pub analysis-encloses : (game : Game) → IsGame game → (enough : ℕ) (u : Words) → AreSoundFrom game enough u → (decisions : List Decision) → All (IsDecisionOf game) decisions → (turns : ℕ) → enough ≤ turns → EncloseLosses game turns (analysis_of game.stakes u decisions)
analysis-encloses game right enough u sound decisions are turns late scoring within =
    All-map (λ (judged : Judged). IfSome judged.loss (EnclosesLoss game.stakes scoring turns judged.decision)) (λ (decision : Decision). record { decision = decision; loss = Some (lost game.stakes u decision); best = None }) decisions
    (λ i d below.
    let decision = get_or decisions i d in
    let is = are i d below in
    loss-of-encloses game right scoring within turns u (sound turns late scoring within) decision.position decision.kind is.state decision.choice is.choice)

-- ---- tighter words

pub analysis-tighter : (game : Game) → IsGame game → (other : Terms) → AreNoLooserStakes game.stakes other → (u v : Words) → AreNoLooser game u v → (decisions : List Decision) → All (IsDecisionOf game) decisions
    → IsNoLooserAnalysis (analysis_of game.stakes u decisions) (analysis_of other v decisions)
analysis-tighter game right other stakes u v words [] are = tt
analysis-tighter game right other stakes u v words (decision ∷ decisions) are =
    let is = All-head (IsDecisionOf game) decision decisions are in (
      record { decision = refl; loss = loss-of-tighter game right other stakes u v words decision.position decision.kind is.state decision.choice is.choice },
      analysis-tighter game right other stakes u v words decisions (All-tail (IsDecisionOf game) decision decisions are),
    )

-- ---- what was best aside

-- what encloses the losses alone encloses them
pub alone-encloses : (game : Game) (turns : ℕ) (list : List Judged) → EncloseLosses game turns (losses_alone list) → EncloseLosses game turns list
alone-encloses game turns list all scoring within =
    λ i d below.
    let alone : Judged → Judged = λ judged. record { decision = judged.decision; loss = judged.loss; best = None } in
    subst (λ (judged : Judged). IfSome judged.loss (EnclosesLoss game.stakes scoring turns judged.decision)) (get_or-map alone list i d (alone d) below) (all scoring within i (alone d) (omega (arith, length-map list alone, below)))

pub alone-true : (game : Game) (list : List Judged) → IsTrueAnalysis game (losses_alone list) → IsTrueAnalysis game list
alone-true game list (enough, all) = (enough, λ turns late. alone-encloses game turns list (all turns late))

-- losses alone that are as tight are as tight
pub alone-tight : (list others : List Judged) → IsNoLooserAnalysis (losses_alone list) others → IsNoLooserAnalysis list others
alone-tight [] [] tight = tt
alone-tight [] (other ∷ others) tight = absurd tight
alone-tight (one ∷ list) [] tight = absurd tight
alone-tight (one ∷ list) (other ∷ others) tight = (record { decision = tight.0.decision; loss = tight.0.loss }, alone-tight list others tight.1)
