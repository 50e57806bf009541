-- The decisions of a record outside a match can be judged by the words of its game.
use Rattle.std.proofs.Common.{◌≡◌, ◌∙◌, ℕ, ap, true, Some, List, [], map, false, All, IfOk, IsOk, Option, None, Result, Ok, Err, refl, sym, subst}
use Rattle.std.proofs.lemmas.Bool.{false≢true}
use Rattle.std.proofs.lemmas.List.Elements.{All-map}
use Rattle.std.specs.Prelude.{get_or}
use Rattle.cube_actions.specs.Scores.{MatchScore}
use Rattle.cube_actions.specs.Ladder.{IsOfMatch}
use Rattle.cube_actions.specs.Matches.{stakes_named, terms_of}
use Rattle.cube_actions.specs.Stakes.{IsValid, Terms, point_units}
use Rattle.cube_actions.specs.Starts.{StartPairs}
use Rattle.game_record.specs.Kinds.{stakes_at}
use Rattle.game_record.specs.Lines.{Follow, IsRecord, UpTo, record_lines}
use Rattle.game_record.specs.RightDecisions.{IsRightDecision, IsScoreIn}
use Rattle.game_record.specs.Turns.{first_stage, has_match}
use Rattle.game_record.specs.declared.decision.Decision.{Decision}
use Rattle.game_record.specs.declared.record.Record.{Record}
use Rattle.game_record.specs.declared.record.RecordStakes.{RecordStakes}
use Rattle.game_record.specs.declared.record.RecordStakes.TheVariants.{Unlimited, Match}
use Rattle.game_record.specs.declared.stage.Stage.{Stage}
use Rattle.hyper_outside.specs.declared.outside.LookStop.{LookStop}
use Rattle.interval_words.specs.WordLists.{WordList, source_of}
use Rattle.turn_rule.specs.Games.{kinds_of}
use Rattle.turn_rule.specs.Looks.{AreStakesOf, Source}
use Rattle.turn_rule.specs.Turn.{bound_words}
use Rattle.match_scores.specs.Ladders.{game_at_score}
use Rattle.record_analysis.specs.Analyses.{unjudged}
use Rattle.record_analysis.specs.Judging.{CanBeJudged, IsAt}
use Rattle.record_analysis.specs.Truth.{IsDecisionOf}
use Rattle.record_analysis.specs.declared.analysis.Judged.{Judged}
use Rattle.record_study.specs.Keeping.{IsDecisionInMatch}
use Rattle.record_study.specs.Studies.{stakes_studied}

-- a record is of one to three checkers
pub checkers-of : (rec : Record) → IsRecord rec → UpTo 3 rec.checkers
checkers-of rec valid = go valid.end valid.follow where
  go : (end : Stage) → Follow first_stage (record_lines rec) end → UpTo 3 rec.checkers
  go end (a, comes_a, fits_a, (b, comes_b, checkers, more)) = checkers

plain-stakes : (stakes : RecordStakes) → has_match stakes ≡ false → (score : Option MatchScore) (starts : StartPairs) → stakes_studied stakes ≡ stakes_named (stakes_at stakes score) starts
plain-stakes (Unlimited rule) plain score starts = refl
plain-stakes (Match length) plain score starts = absurd (false≢true (sym plain))

plain-score : (stakes : RecordStakes) → has_match stakes ≡ false → (score : Option MatchScore) → IsScoreIn stakes score → score ≡ None
plain-score (Unlimited rule) plain score is = is
plain-score (Match length) plain score is = absurd (false≢true (sym plain))

-- outside a match no decision has a score
pub plain-scores : (rec : Record) → has_match rec.stakes ≡ false → (decisions : List Decision) → All (IsRightDecision rec) decisions → All (λ (decision : Decision). decision.score ≡ None) decisions
plain-scores rec plain decisions right = λ i d below. plain-score rec.stakes plain (get_or decisions i d).score (right i d below).score

-- the law on right decisions
abbrev pub Law : Type 0
Law =
    (rec : Record) (starts : StartPairs) (decision : Decision) → IsRightDecision rec decision → (source : Source) (stakes : Terms) → source.checkers ≡ rec.checkers
    → stakes ≡ stakes_named (stakes_at rec.stakes decision.score) starts → IsValid stakes → AreStakesOf source stakes → CanBeJudged source stakes decision

module _ (law : Law) (rec : Record) (plain : has_match rec.stakes ≡ false) (starts : StartPairs) (decisions : List Decision) (right : All (IsRightDecision rec) decisions) (source : Source) (stakes : Terms) (checkers : source.checkers ≡ rec.checkers) (named : stakes ≡ stakes_studied rec.stakes) (valid : IsValid stakes) (fits : AreStakesOf source stakes) where
  pub can-be-judged : All (CanBeJudged source stakes) decisions
  can-be-judged i d below =
      let decision = get_or decisions i d in
      law rec starts decision (right i d below) source stakes checkers
      (subst (λ (t : Terms). stakes ≡ t) (plain-stakes rec.stakes plain decision.score starts) named) valid fits

-- the same of decisions that weren't judged yet, at any score
pub unjudged-can : (source : Source) (stakes : Terms) (decisions : List Decision) → All (CanBeJudged source stakes) decisions
    → All (λ (judged : Judged). IsAt None judged → CanBeJudged source stakes judged.decision) (map unjudged decisions)
unjudged-can source stakes decisions can =
    All-map (λ (judged : Judged). IsAt None judged → CanBeJudged source stakes judged.decision) unjudged decisions (λ i d below at. can i d below)

-- what was answered
pub answered : (P : Type 0) (result : Result (Unit {0}) LookStop) → IsOk result → IfOk result (λ _. P) → P
answered P (Ok done) ok is = is
answered P (Err stop) ok is = absurd (cc)

-- what holds of each value holds of one that was answered
pub if-ok : {A E : Type 0} (P Q : A → Type 0) (result : Result A E) → ((x : A) → P x → Q x) → IfOk result P → IfOk result Q
if-ok P Q (Ok x) map is = map x is
if-ok P Q (Err e) map is = tt

-- the starts of what isn't a match
abbrev pub no_starts : StartPairs
no_starts = record { match_length = 1; pairs = [] }

-- decisions that the words of a game can judge are of that game
pub decisions-of : (words : WordList) (decisions : List Decision) → All (CanBeJudged (source_of words) words.game.stakes) decisions → All (IsDecisionOf words.game) decisions
decisions-of words decisions can = λ i d below. record { state = (can i d below).state; choice = (can i d below).choice }

-- ---- decisions of a match

-- the score of a decision of a match
match-score : (match_length : ℕ) (score : Option MatchScore) → IsScoreIn (Match match_length) score → (given : MatchScore) × (score ≡ Some given) × IsOfMatch match_length given
match-score match_length None is = absurd is
match-score match_length (Some score) is = (score, refl, is)

-- it can be judged by words of its score's game
one-in-match : Law → (rec : Record) (match_length : ℕ) → rec.stakes ≡ Match match_length → (decision : Decision) → IsRightDecision rec decision → IsDecisionInMatch rec.checkers match_length decision
one-in-match law rec match_length in_match decision right =
    let given = match-score match_length decision.score (subst (λ (s : RecordStakes). IsScoreIn s decision.score) in_match right.score) in
    record {
      score = given.0;
      at = given.1;
      of_match = given.2;
      made = λ starts game.
          let source : Source = record { checkers = rec.checkers; kinds = kinds_of (game_at_score rec.checkers given.0 starts); bound = point_units 1; sure = true; floor = bound_words (terms_of given.0 starts); damage = λ _ _. None } in
          let named : terms_of given.0 starts ≡ stakes_named (stakes_at rec.stakes decision.score) starts =
          sym (ap (λ (s : RecordStakes). stakes_named (stakes_at s decision.score) starts) in_match ∙ ap (λ (o : Option MatchScore). stakes_named (stakes_at (Match match_length) o) starts) given.1) in
          let can = law rec starts decision right source (terms_of given.0 starts) refl named game.stakes (record { kinds = refl; bound = refl }) in
          record { state = can.state; choice = can.choice };
    }

-- all decisions of a record of a match are of it
pub in-match : Law → (rec : Record) (match_length : ℕ) → rec.stakes ≡ Match match_length → (decisions : List Decision) → All (IsRightDecision rec) decisions → All (IsDecisionInMatch rec.checkers match_length) decisions
in-match law rec match_length is decisions right = λ i d below. one-in-match law rec match_length is (get_or decisions i d) (right i d below)
