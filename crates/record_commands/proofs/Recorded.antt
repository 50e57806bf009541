-- Decisions of a record, judged by the file of its game.
use Rattle.std.proofs.Common.{◌≡◌, ◌∙◌, ℕ, List, [], ◌∷◌, length, get_or, Bool, true, false, All, IfOk, Option, Some, None, Result, Ok, Err, inl, inr, refl, sym, ap, subst, arith}
use Rattle.std.proofs.lemmas.Bool.{false≢true}
use Rattle.std.proofs.lemmas.List.{get_or-map, length-map}
use Rattle.std.proofs.lemmas.List.Elements.{All-head, All-tail}
use Rattle.outside_log.specs.Files.{Contents}
use Rattle.directed_fixed.specs.Bounds.{Bounds}
use Rattle.cube_actions.specs.Scores.{MatchScore}
use Rattle.cube_actions.specs.Stakes.{Terms}
use Rattle.cube_actions.specs.Starts.{StartPairs}
use Rattle.game_record.specs.Kinds.{stakes_at}
use Rattle.game_record.specs.RightDecisions.{IsRightDecision}
use Rattle.game_record.specs.Turns.{has_match}
use Rattle.game_record.specs.declared.decision.Decision.{Decision}
use Rattle.game_record.specs.declared.record.Record.{Record}
use Rattle.game_record.specs.declared.record.RecordStakes.{RecordStakes}
use Rattle.game_record.specs.declared.record.RecordStakes.TheVariants.{Unlimited, Match}
use Rattle.turn_rule.specs.declared.game.Game.{Game}
use Rattle.turn_rule.specs.Games.{IsGame, kinds_of}
use Rattle.turn_rule.specs.Looks.{Source}
use Rattle.turn_rule.specs.Truth.{AreSound}
use Rattle.turn_rule.specs.Turn.{Words, bound_words}
use Rattle.record_analysis.specs.Analyses.{analysis_of, losses_alone, lost}
use Rattle.record_analysis.specs.Judging.{IsAt}
use Rattle.record_analysis.specs.Truth.{IsDecisionOf, IsTrueAnalysis}
use Rattle.record_analysis.specs.declared.analysis.Judged.{Judged}
use Rattle.record_study.specs.Keeping.{decisions_in}
use Rattle.record_analysis.proofs.Analysed.{alone-true}
use Rattle.record_study.proofs.AtScore.{zipped-all}
use Rattle.record_study.proofs.Records.{Law, plain-scores}
use Rattle.cube_actions.specs.Matches.{stakes_named}
use Rattle.base_head.specs.Heads.{stakes_of}
use Rattle.database_file.specs.Texts.{game_in}
use Rattle.command_line.specs.declared.command.Analyse.{Analyse}
use Rattle.equity_report.specs.declared.text.GameName.{GameName}
use Rattle.equity_report.specs.declared.refusal.Refusal.{Refusal}
use Rattle.run_endings.specs.Pages.{OfHeld}
use Rattle.record_commands.specs.Analyses.{AnswersJudging, AnswersPlain, JudgesBy, JudgesPlain, RefusesAnalysis, RefusesBy}
use Rattle.record_commands.specs.ByFile.{IsDecisionFor, JudgesAt, JudgesList, JudgesOne, front_head}
use Rattle.record_commands.specs.MatchAnalyses.{AnswersMatch}
use Rattle.record_commands.specs.Records.{HoldsRecord, game_recorded, stakes_recorded}
use Rattle.record_commands.specs.declared.record.Replayed.{Replayed}

-- ---- decisions and what was judged of them

pub decisions-long : (list : List Judged) → length (decisions_in list) ≡ length list
decisions-long list = length-map list (λ (one : Judged). one.decision)

-- what holds of all decisions holds of each that is judged
pub each-decision : (P : Decision → Type 0) (list : List Judged) → All P (decisions_in list) → All (λ (one : Judged). P one.decision) list
each-decision P list all i d below =
    subst P (get_or-map (λ (one : Judged). one.decision) list i d d.decision below) (all i d.decision (let long = decisions-long list in omega (arith, long, below)))

-- decisions that stay are as right as they were
pub rights-kept : (rec : Record) (decisions : List Decision) → All (IsRightDecision rec) decisions → (olds : List Decision) → olds ≡ decisions → (result : Result (List Judged) Refusal) → IfOk result (λ list. decisions_in list ≡ olds)
    → IfOk result (All (λ (one : Judged). IsRightDecision rec one.decision))
rights-kept rec decisions right olds same (Ok list) kept = each-decision (IsRightDecision rec) list (subst (All (IsRightDecision rec)) (sym (kept ∙ same)) right)
rights-kept rec decisions right olds same (Err refusal) kept = tt

-- what decisions lose over words are the losses of their analysis
analysed : (stakes : Terms) (u : Words) (list : List Judged) → All (λ (one : Judged). one.loss ≡ Some (lost stakes u one.decision)) list → losses_alone list ≡ analysis_of stakes u (decisions_in list)
analysed stakes u [] all = refl
analysed stakes u (one ∷ list) all =
    let loss = All-head (λ (one : Judged). one.loss ≡ Some (lost stakes u one.decision)) one list all in
    ap (λ (l : Option Bounds). record { decision = one.decision; loss = l; best = None } ∷ losses_alone list) loss
    ∙ ap (λ (rest : List Judged). record { decision = one.decision; loss = Some (lost stakes u one.decision); best = None } ∷ rest) (analysed stakes u list (All-tail (λ (one : Judged). one.loss ≡ Some (lost stakes u one.decision)) one list all))

-- ---- decisions of a record outside a match

-- the stakes of the record's name are those at which each of its decisions was made
plain-stakes : (stakes : RecordStakes) → has_match stakes ≡ false → (score : Option MatchScore) (starts : StartPairs) → stakes_named (stakes_recorded stakes) starts ≡ stakes_named (stakes_at stakes score) starts
plain-stakes (Unlimited rule) plain score starts = refl
plain-stakes (Match length) plain score starts = absurd (false≢true (sym plain))

-- the law on what encloses what decisions lose
abbrev pub TruthLaw : Type 0
TruthLaw = (game : Game) → IsGame game → (u : Words) → AreSound game u → (decisions : List Decision) → All (IsDecisionOf game) decisions → IsTrueAnalysis game (analysis_of game.stakes u decisions)

module _ (law : Law) (rec : Record) (plain : has_match rec.stakes ≡ false) where
  pub plain-decision : (decision : Decision) → IsRightDecision rec decision → IsDecisionFor (game_recorded rec) decision
  plain-decision decision right head is game =
      let source : Source = record { checkers = head.checkers; kinds = kinds_of (game_in head); bound = (stakes_of head).bound; sure = true; floor = bound_words (stakes_of head); damage = λ _ _. None } in
      let can = law rec head.starts decision right source (stakes_of head) (ap (λ (g : GameName). g.checkers) is)
      (ap (λ (g : GameName). stakes_named g.stakes head.starts) is ∙ plain-stakes rec.stakes plain decision.score head.starts) game.stakes (record { kinds = refl; bound = refl }) in
      record { state = can.state; choice = can.choice }

  module _ (olds : List Judged) (right : All (IsRightDecision rec) (decisions_in olds)) where
    pub plain-decisions : All (λ (one : Judged). IsDecisionFor (game_recorded rec) one.decision) olds
    plain-decisions i d below = plain-decision (get_or olds i d).decision (each-decision (IsRightDecision rec) olds right i d below)

    pub plain-judged : TruthLaw → (news : List Judged) → decisions_in news ≡ decisions_in olds → (held : Option (List ℕ)) → OfHeld held (JudgesList (game_recorded rec) None olds news) → OfHeld held (JudgesPlain rec (decisions_in olds) news)
    plain-judged truth news same None judges = absurd judges
    plain-judged truth news same (Some bytes) judges =
        let head = front_head bytes in
        let none = each-decision (λ (decision : Decision). decision.score ≡ None) olds (plain-scores rec plain (decisions_in olds) right) in
        let judged : All (JudgesOne (game_recorded rec) bytes) news = zipped-all (JudgesAt (game_recorded rec) None bytes) (IsAt None) (JudgesOne (game_recorded rec) bytes) (λ old new is here. is.judged here) olds news judges.each none in
        let own : All (IsDecisionOf (game_in head)) (decisions_in olds) = λ i d below. plain-decision (get_or (decisions_in olds) i d) (right i d below) head judges.file.game judges.file.valid in
        record {
          file = judges.file;
          decisions_are = same;
          judged = judged;
          true = λ u have sound.
              alone-true (game_in head) news (subst (IsTrueAnalysis (game_in head)) (sym (analysed (stakes_of head) u news (λ i d below. (judged i d below).over u have)))
              (truth (game_in head) judges.file.valid u sound (decisions_in news) (subst (All (IsDecisionOf (game_in head))) (sym same) own)));
        }

-- ---- all of a record

module _ (name : List ℕ) (replayed : Replayed) (held : Contents) where
  pub judging-match : has_match replayed.rec.stakes ≡ true → (result : Result (List Judged) Refusal) → AnswersMatch name replayed.rec replayed.decisions held result → AnswersJudging name replayed held result
  judging-match is (Ok list) a = subst (λ (b : Bool). JudgesBy b name replayed held list) (sym is) a
  judging-match is (Err refusal) a = inr (subst (λ (b : Bool). RefusesBy b name replayed refusal held) (sym is) a)

  pub judging-plain : has_match replayed.rec.stakes ≡ false → (result : Result (List Judged) Refusal) → AnswersPlain name replayed.rec replayed.decisions (held name) result → AnswersJudging name replayed held result
  judging-plain is (Ok list) a = subst (λ (b : Bool). JudgesBy b name replayed held list) (sym is) a
  judging-plain is (Err refusal) a = inr (subst (λ (b : Bool). RefusesBy b name replayed refusal held) (sym is) a)

-- the decisions of a record are judged by what is held
abbrev pub JudgesHeld : List ℕ → Replayed → List Judged → Contents → Type 0
JudgesHeld name replayed list held = JudgesBy (has_match replayed.rec.stakes) name replayed held list

-- what is answered of the files as they are after the record was read is so of them as they were
module _ (task : Analyse) (replayed : Replayed) (held after : Contents) (same : after ≡ held) where
  pub judging-refused : OfHeld (held task.rec) (λ bytes. HoldsRecord bytes replayed) → (refusal : Refusal) → AnswersJudging task.base replayed after (Err refusal) → RefusesAnalysis task refusal held
  judging-refused holds refusal (inl outside) = inr (record { replayed = replayed; record_file = holds; cause = inl outside })
  judging-refused holds refusal (inr cause) = inr (record { replayed = replayed; record_file = holds; cause = inr (subst (RefusesBy (has_match replayed.rec.stakes) task.base replayed refusal) same cause) })
