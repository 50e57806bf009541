-- Judging the decisions of a match at the next score of its ladder.
use Rattle.std.proofs.Common.{◌≡◌, ◌<◌, ◌∙◌, ℕ, suc, List, [], ◌∷◌, length, length-append, get_or, All, Some, None, inl, inr, ap, sym, subst, refl, arith}
use Rattle.std.proofs.lemmas.Bool.{cases_lt}
use Rattle.std.specs.List.{AllPairs}
use Rattle.directed_fixed.specs.Bounds.{Bounds}
use Rattle.cube_actions.specs.Ladder.{ladder, ScoreComesBefore}
use Rattle.cube_actions.specs.Scores.{MatchScore, last_game}
use Rattle.cube_actions.specs.Starts.{StartPairs}
use Rattle.game_record.specs.declared.decision.Decision.{Decision}
use Rattle.turn_rule.specs.declared.game.Game.{Game}
use Rattle.turn_rule.specs.Games.{IsGame}
use Rattle.turn_rule.specs.Looks.{all_told}
use Rattle.interval_words.specs.WordLists.{WordList, list_of, source_of, words_in_list}
use Rattle.match_scores.specs.Keepers.{no_pairs}
use Rattle.match_scores.specs.Ladders.{score_at, with_pair, game_at_score, AreWordsAt, IsSolved}
use Rattle.match_scores.specs.Openings.{start_over}
use Rattle.match_scores.proofs.Places.{apart-later}
use Rattle.match_scores.proofs.WholeLadder.{and_then, and_then-before, and_then-last, solved-next}
use Rattle.record_analysis.specs.Analyses.{IsBestFor, lost}
use Rattle.record_analysis.specs.Judging.{CanBeJudged, IsAt, Judges, JudgesAll}
use Rattle.record_analysis.specs.Truth.{IsDecisionOf}
use Rattle.record_analysis.specs.declared.analysis.Judged.{Judged}
use Rattle.record_analysis.proofs.Analysed.{OneListBest, OneListGives}
use Rattle.record_study.specs.Keeping.{IsBestByScore, IsDecisionInMatch, IsJudgedBy, IsJudgedSoFar, IsKeptAt, JudgedMatch}
use Rattle.record_study.proofs.AtScore.{best-at, judged-at, zipped-all}

-- a decision at a score is of the game of that score's words
pub of-game : (checkers match_length : ℕ) (score : MatchScore) (starts : StartPairs) (words : WordList) → words.game ≡ game_at_score checkers score starts → IsGame words.game → (decision : Decision) → IsDecisionInMatch checkers match_length decision → decision.score ≡ Some score → IsDecisionOf words.game decision
of-game checkers match_length score starts words game valid decision is here =
    let both : Some is.score ≡ Some score = sym is.at ∙ here in
    let same : is.score ≡ score = cc in
    subst (λ (g : Game). IsDecisionOf g decision) (sym game)
    (subst (λ (s : MatchScore). IsGame (game_at_score checkers s starts) → IsDecisionOf (game_at_score checkers s starts) decision) same (is.made starts) (subst IsGame game valid))

-- so it can be judged by them
pub can-judge : (words : WordList) (decision : Decision) → IsDecisionOf words.game decision → CanBeJudged (source_of words) words.game.stakes decision
can-judge words decision is = record { state = is.state; choice = is.choice }

module _ (judged : JudgedMatch) (score : MatchScore) (starts : StartPairs) (words : WordList) (so_far : IsJudgedSoFar judged) (before : starts ≡ judged.starts) (more : length starts.pairs < length (ladder starts.match_length))
    (next : score ≡ score_at starts.match_length (length starts.pairs)) (closed : AreWordsAt judged.checkers judged.rounds score starts words) where
  in-match : All (λ (one : Judged). IsDecisionInMatch judged.checkers starts.match_length one.decision) judged.list
  in-match = subst (λ (s : StartPairs). All (λ (one : Judged). IsDecisionInMatch judged.checkers s.match_length one.decision) judged.list) (sym before) so_far.decisions

  at-score : (decision : Decision) → IsDecisionInMatch judged.checkers starts.match_length decision → decision.score ≡ Some score → IsDecisionOf words.game decision
  at-score = of-game judged.checkers starts.match_length score starts words closed.game closed.valid

  -- all decisions at the score can be judged by its words
  pub all-can : All (λ (one : Judged). IsAt (Some score) one → CanBeJudged (source_of words) words.game.stakes one.decision) judged.list
  all-can = λ i d below here. can-judge words (get_or judged.list i d).decision (at-score (get_or judged.list i d).decision (in-match i d below) here)

  module _ (one_list : OneListGives) (one_best : OneListBest) (order : AllPairs ScoreComesBefore (ladder starts.match_length)) where
    abbrev count : ℕ
    count = length starts.pairs

    abbrev further : StartPairs
    further = with_pair starts (start_over words.game.checkers (words_in_list words) score)

    abbrev all_words : ℕ → WordList
    all_words = and_then so_far.words count words

    many : length further.pairs ≡ suc count
    many = let long = length-append starts.pairs (start_over words.game.checkers (words_in_list words) score ∷ []) in omega (arith, long)

    abbrev Before : Judged → Type 0
    Before old = IsDecisionInMatch judged.checkers starts.match_length old.decision × IsJudgedBy starts so_far.words old

    step : (old new : Judged) → Judges (Some score) words.game.stakes (source_of words) (all_told (words_in_list words)) old new → Before old → IsJudgedBy further all_words new
    step old new is held = record { kept = kept; best = best; other = other } where
      -- at the score it has what it loses by these words
      here-loss : old.decision.score ≡ Some score → new.loss ≡ Some (lost words.game.stakes (words_in_list words) old.decision)
      here-loss here = judged-at one_list (source_of words) (all_told (words_in_list words)) words.game.stakes refl (Some score) old new here (can-judge words old.decision (at-score old.decision held.0 here)) (λ end q j may. refl) is

      -- at an earlier score it has what it had
      apart : (place : ℕ) → place < count → old.decision.score ≡ Some (score_at starts.match_length place) → IsAt (Some score) old → ⊥
      apart place earlier there here =
          let both : Some (score_at starts.match_length place) ≡ Some score = sym there ∙ here in
          let same : score_at starts.match_length place ≡ score = cc in
          apart-later starts.match_length order place count earlier more (same ∙ next)

      kept-old : (place : ℕ) → place < suc count → old.decision.score ≡ Some (score_at starts.match_length place) → new.loss ≡ Some (lost (all_words place).game.stakes (words_in_list (all_words place)) old.decision)
      kept-old place below there = elim (cases_lt place count) [
        | inl earlier ↦ rw (and_then-before so_far.words count words place earlier) (ap (λ (j : Judged). j.loss) (is.other (apart place earlier there)) ∙ held.1.kept place (record { kept = earlier; score = there }))
        | inr last ↦ (let at : place ≡ count = omega (arith, below, last) in
            rw (at, and_then-last so_far.words count words) (here-loss (there ∙ ap (λ (n : ℕ). Some (score_at starts.match_length n)) at ∙ ap (λ (s : MatchScore). Some s) (sym next))))
      ]

      kept : (place : ℕ) → IsKeptAt further new.decision place → new.loss ≡ Some (lost (all_words place).game.stakes (words_in_list (all_words place)) new.decision)
      kept place at =
          kept-old place (let below = at.kept in omega (arith, below, many)) (ap (λ (d : Decision). d.score) (sym is.decision) ∙ at.score)
          ∙ ap (λ (d : Decision). Some (lost (all_words place).game.stakes (words_in_list (all_words place)) d)) (sym is.decision)

      best-old : (place : ℕ) → place < suc count → old.decision.score ≡ Some (score_at starts.match_length place) → IsBestFor (all_words place).game.stakes (words_in_list (all_words place)) new
      best-old place below there = elim (cases_lt place count) [
        | inl earlier ↦ rw (and_then-before so_far.words count words place earlier)
            (subst (IsBestFor (so_far.words place).game.stakes (words_in_list (so_far.words place))) (sym (is.other (apart place earlier there))) (held.1.best place (record { kept = earlier; score = there })))
        | inr last ↦ (let at : place ≡ count = omega (arith, below, last) in
            rw (at, and_then-last so_far.words count words)
            (best-at one_best (source_of words) (all_told (words_in_list words)) words.game.stakes refl (Some score) old new
            (there ∙ ap (λ (n : ℕ). Some (score_at starts.match_length n)) at ∙ ap (λ (s : MatchScore). Some s) (sym next)) (λ end q j may. refl) is))
      ]

      best : IsBestByScore further all_words new
      best place at = best-old place (let below = at.kept in omega (arith, below, many)) (ap (λ (d : Decision). d.score) (sym is.decision) ∙ at.score)

      to-further : (place : ℕ) → place < suc count → old.decision.score ≡ Some (score_at starts.match_length place) → IsKeptAt further new.decision place
      to-further place below there = record { kept = omega (arith, below, many); score = ap (λ (d : Decision). d.score) is.decision ∙ there }

      other : ((place : ℕ) → IsKeptAt further new.decision place → ⊥) → new.loss ≡ None
      other none =
          ap (λ (j : Judged). j.loss) (is.other (λ here. none count (to-further count (omega arith) (here ∙ ap (λ (s : MatchScore). Some s) next))))
          ∙ held.1.other (λ place at. none place (to-further place (let below = at.kept in omega (arith, below)) at.score))

    -- after the decisions at the next score were judged by its words, all are judged so far with its start pair
    pub judged-more : (after : List Judged) → JudgesAll (Some score) words.game.stakes (source_of words) (all_told (words_in_list words)) judged.list after → IsJudgedSoFar (record { checkers = judged.checkers; rounds = judged.rounds; starts = further; list = after })
    judged-more after judges =
        let before-all : All Before judged.list = λ i d below. (in-match i d below, subst (λ (s : StartPairs). IsJudgedBy s so_far.words (get_or judged.list i d)) (sym before) (so_far.losses i d below)) in
        let same_checkers : words.game.checkers ≡ judged.checkers = ap (λ (g : Game). g.checkers) closed.game in
        let solved-before : IsSolved judged.checkers judged.rounds starts so_far.words = subst (λ (s : StartPairs). IsSolved judged.checkers judged.rounds s so_far.words) (sym before) so_far.solved in
        let solved = solved-next judged.checkers judged.rounds starts so_far.words words solved-before (subst (λ (s : MatchScore). AreWordsAt judged.checkers judged.rounds s starts words) next closed) in
        let start : start_over judged.checkers (words_in_list words) (score_at starts.match_length count) ≡ start_over words.game.checkers (words_in_list words) score =
        ap (λ (s : MatchScore). start_over judged.checkers (words_in_list words) s) (sym next) ∙ ap (λ (n : ℕ). start_over n (words_in_list words) score) (sym same_checkers) in
        record {
          decisions = zipped-all (Judges (Some score) words.game.stakes (source_of words) (all_told (words_in_list words))) (λ (one : Judged). IsDecisionInMatch judged.checkers starts.match_length one.decision) (λ (one : Judged). IsDecisionInMatch judged.checkers starts.match_length one.decision)
              (λ old new is held. subst (IsDecisionInMatch judged.checkers starts.match_length) (sym is.decision) held) judged.list after judges in-match;
          words = all_words;
          solved = subst (λ pair. IsSolved judged.checkers judged.rounds (with_pair starts pair) all_words) start solved;
          losses = zipped-all (Judges (Some score) words.game.stakes (source_of words) (all_told (words_in_list words))) Before (IsJudgedBy further all_words) step judged.list after judges before-all;
        }

    -- the same, where the keeper's start pairs get the next one
    pub judged-next : (after : List Judged) → JudgesAll (Some score) words.game.stakes (source_of words) (all_told (words_in_list words)) judged.list after → (pair : Bounds) → pair ≡ start_over words.game.checkers (words_in_list words) score
        → (added : StartPairs) → added ≡ with_pair judged.starts pair → IsJudgedSoFar (record { checkers = judged.checkers; rounds = judged.rounds; starts = added; list = after })
    judged-next after judges pair start added is =
        let same : added ≡ further = is ∙ ap (λ (p : Bounds). with_pair judged.starts p) start ∙ ap (λ (s : StartPairs). with_pair s (start_over words.game.checkers (words_in_list words) score)) (sym before) in
        subst (λ (s : StartPairs). IsJudgedSoFar (record { checkers = judged.checkers; rounds = judged.rounds; starts = s; list = after })) (sym same) (judged-more after judges)

-- ---- before the first score

-- no decision was judged
pub none-judged : (checkers r match_length : ℕ) (starts : StartPairs) → starts ≡ no_pairs match_length → (list : List Judged) → All (λ (one : Judged). IsDecisionInMatch checkers match_length one.decision) list → All (λ (one : Judged). one.loss ≡ None) list
    → IsJudgedSoFar (record { checkers = checkers; rounds = r; starts = starts; list = list })
none-judged checkers r match_length starts none list right fresh =
    subst (λ (s : StartPairs). IsJudgedSoFar (record { checkers = checkers; rounds = r; starts = s; list = list })) (sym none) (record {
      decisions = right;
      words = λ place. list_of (game_at_score checkers last_game (no_pairs match_length)) r [];
      solved = λ place less. absurd (omega arith);
      losses = λ i d below. record { kept = λ place at. (let none = at.kept in absurd (omega (arith, none))); best = λ place at. (let none = at.kept in absurd (omega (arith, none))); other = λ none. fresh i d below };
    })
