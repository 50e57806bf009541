-- What the decisions of a match lose, true and tight.
use Rattle.std.proofs.Common.{◌≡◌, ◌<◌, ◌≤◌, ◌∙◌, ℕ, zero, suc, max, ℤ, List, [], ◌∷◌, length, map, get_or, All, Contains, IfSome, IsSomeAnd, Option, Some, inl, inr, ap, sym, subst, refl, arith}
use Rattle.std.proofs.lemmas.Bool.{cases_lt}
use Rattle.std.proofs.lemmas.List.{get_or_default, length-take-le}
use Rattle.std.proofs.lemmas.List.Elements.{All-head, All-tail}
use Rattle.std.specs.List.{AllPairs}
use Rattle.std.specs.Option.{option_map}
use Rattle.directed_fixed.specs.Bounds.{Bounds, AreNoLooserPairs}
use Rattle.cube_actions.specs.Ladder.{ladder, IsOfMatch, ScoreComesBefore}
use Rattle.cube_actions.specs.Matches.{terms_of}
use Rattle.cube_actions.specs.Scores.{MatchScore, IsScore, last_game}
use Rattle.cube_actions.specs.Starts.{StartPairs, AreStarts, Covers, ladder_place}
use Rattle.game_record.specs.declared.decision.Decision.{Decision}
use Rattle.turn_rule.specs.declared.game.Game.{Game}
use Rattle.turn_rule.specs.Games.{IsGame}
use Rattle.turn_rule.specs.States.{AreNoLooser}
use Rattle.turn_rule.specs.Truth.{Encloses, IsScoring, AreSoundFrom, AreNoLooserStakes}
use Rattle.turn_rule.specs.Turn.{Words, rounds}
use Rattle.interval_words.specs.WordLists.{WordList, words_in_list}
use Rattle.play_analyser.specs.Regrets.{counted_over}
use Rattle.play_analyser.proofs.Enclosing.{loss-of-encloses}
use Rattle.play_analyser.proofs.Tighter.{loss-of-tighter}
use Rattle.game_record.specs.Lines.{IsRecord}
use Rattle.game_record.specs.declared.record.Record.{Record}
use Rattle.match_scores.specs.Ladders.{IsSolved, score_at, starts_till, game_at_score, EncloseStarts, IsLadder, IsScoredMatch, IsTightAt, plain_starts}
use Rattle.match_scores.specs.Payoffs.{ScoredMatch, match_scoring}
use Rattle.match_scores.proofs.Places.{place-first, score-found}
use Rattle.match_scores.proofs.TighterStarts.{stakes-no-looser}
use Rattle.match_scores.proofs.WholeLadder.{pair-till, till-covers, till-tight, till-valid}
use Rattle.record_analysis.specs.Analyses.{lost, unjudged}
use Rattle.record_analysis.specs.Truth.{IsDecisionOf, IsNoLooserAnalysis, IsNoLooserJudged}
use Rattle.record_analysis.specs.declared.analysis.Judged.{Judged}
use Rattle.record_study.specs.Keeping.{IsDecisionInMatch, IsJudgedBy, IsJudgedSoFar, JudgedMatch, decisions_in}
use Rattle.record_study.specs.Matches.{AreStudiedInMatch, EnclosesLossAt, IsTrueMatch, judged_plainly, plain_terms}
use Rattle.record_study.proofs.Keeping.{of-game}
use Rattle.record_study.proofs.Records.{checkers-of}
use Rattle.record_study.proofs.Regrets.{regret-same}

-- ---- one score

-- where start pairs enclose, the exact payoffs lie within the stakes that they give
abbrev pub PayoffsLieWithin : Type 0
PayoffsLieWithin =
    (checkers : ℕ) (scored : ScoredMatch) → IsScoredMatch checkers scored → (starts : StartPairs) → AreStarts starts → EncloseStarts scored starts
    → (score : MatchScore) → IsScore score → Covers starts score → IsScoring (game_at_score checkers score starts) (match_scoring scored score)

-- what a decision loses over sound words of its score's game encloses what it loses exactly with the payoffs of the match
pub loss-encloses : PayoffsLieWithin → (checkers : ℕ) (scored : ScoredMatch) → IsScoredMatch checkers scored → (starts : StartPairs) → AreStarts starts → EncloseStarts scored starts
    → (score : MatchScore) → IsScore score → Covers starts score → IsGame (game_at_score checkers score starts) → (enough : ℕ) (u : Words) → AreSoundFrom (game_at_score checkers score starts) enough u
    → (left : ℕ) → enough ≤ left → (decision : Decision) → IsDecisionOf (game_at_score checkers score starts) decision → EnclosesLossAt scored left decision (lost (terms_of score starts) u decision) score
loss-encloses payoffs checkers scored is_scored starts valid encloses score is covers game enough u sound left more decision of =
    let scoring = match_scoring scored score in
    let fits = payoffs checkers scored is_scored starts valid encloses score is covers in
    let loss = loss-of-encloses (game_at_score checkers score starts) game scoring fits left u (sound left more scoring fits) decision.position decision.kind of.state decision.choice of.choice in
    subst (λ (x : ℤ). Encloses (lost (terms_of score starts) u decision) x (counted_over scoring left decision.choice))
    (regret-same score starts (record { match_length = 1; pairs = [] }) scoring left decision.position decision.kind decision.choice) loss

pub if-given : {X : Type 0} (P : X → Type 0) (o : Option X) (x : X) → o ≡ Some x → P x → IfSome o P
if-given P o x is holds = subst (λ (o : Option _). IfSome o P) (sym is) holds

pub some-given : {X : Type 0} (P : X → Type 0) (o : Option X) (x : X) → o ≡ Some x → P x → IsSomeAnd o P
some-given P o x is holds = subst (λ (o : Option _). IsSomeAnd o P) (sym is) holds

-- from more turns on, words that are sound are sound
pub sound-later : (game : Game) (u : Words) (n m : ℕ) → AreSoundFrom game n u → n ≤ m → AreSoundFrom game m u
sound-later game u n m sound more turns late = sound turns (omega (arith, more, late))

-- ---- the whole ladder

-- a ladder has the scores of its match
abbrev pub HasScores : ℕ → Type 0
HasScores match_length = (score : MatchScore) → IsOfMatch match_length score → Contains (ladder match_length) score

pub listed-at : (match_length : ℕ) → HasScores match_length → (score : MatchScore) → IsOfMatch match_length score → ladder_place match_length score < length (ladder match_length)
listed-at match_length has score is =
    let found = has score is in
    let same : score_at match_length found.0 ≡ score = search-at found.0 found.1 found.2 in
    let first = place-first match_length found.0 found.1 in
    let first' : ladder_place match_length score ≤ found.0 = subst (λ (s : MatchScore). ladder_place match_length s ≤ found.0) same first in
    let below = found.1 in
    omega (arith, first', below)
  where
    search-at : (i : ℕ) → i < length (ladder match_length) → get_or (ladder match_length) i score ≡ score → score_at match_length i ≡ score
    search-at i below at = get_or_default (ladder match_length) i last_game score below ∙ at

module _ (payoffs : PayoffsLieWithin) (checkers r : ℕ) (starts : StartPairs) (words : ℕ → WordList) (is_ladder : IsLadder checkers r starts words) (valid : AreStarts starts) (whole : length starts.pairs ≡ length (ladder starts.match_length))
    (has : HasScores starts.match_length) (order : AllPairs ScoreComesBefore (ladder starts.match_length)) where
  abbrev match_length : ℕ
  match_length = starts.match_length

  -- from so many turns on, the words of the first so many scores are sound
  sound-till : (count : ℕ) → count ≤ length starts.pairs → (enough : ℕ) × ((place : ℕ) → place < count → AreSoundFrom (words place).game enough (words_in_list (words place)))
  sound-till zero here = (0, λ place less. absurd (omega arith))
  sound-till (suc count) here =
      let before = sound-till count (omega (arith, here)) in
      let sound = (is_ladder.solved count (omega (arith, here))).closed.closed.sound in (
        max before.0 sound.0,
        λ place less. elim (cases_lt place count) [
          | inl earlier ↦ sound-later (words place).game (words_in_list (words place)) before.0 (max before.0 sound.0) (before.1 place earlier) (omega arith)
          | inr last ↦ (let at : count ≡ place = omega (arith, less, last) in
              subst (λ (n : ℕ). AreSoundFrom (words n).game (max before.0 sound.0) (words_in_list (words n))) at (sound-later (words count).game (words_in_list (words count)) sound.0 (max before.0 sound.0) sound.1 (omega arith)))
        ],
      )

  all-sound : (enough : ℕ) × ((place : ℕ) → place < length starts.pairs → AreSoundFrom (words place).game enough (words_in_list (words place)))
  all-sound = sound-till (length starts.pairs) (omega arith)

  -- the start pairs before a place enclose
  till-encloses : (scored : ScoredMatch) (place : ℕ) → place ≤ length starts.pairs → EncloseStarts scored starts → EncloseStarts scored (starts_till starts place)
  till-encloses scored place here all earlier inside =
      let less : earlier < place = rw (length-take-le place starts.pairs here) at inside in
      subst (λ (pair : Bounds). Encloses pair (scored.starts (score_at match_length earlier)) scored.scale) (sym (pair-till starts place earlier less)) (all earlier (omega (arith, less, here)))

  -- ---- a decision

  module _ (one : Judged) (is : IsDecisionInMatch checkers match_length one.decision) (judged : IsJudgedBy starts words one) where
    abbrev score : MatchScore
    score = is.score

    abbrev place : ℕ
    place = ladder_place match_length score

    abbrev first : StartPairs
    first = starts_till starts place

    listed : place < length (ladder match_length)
    listed = listed-at match_length has score is.of_match

    inside : place < length starts.pairs
    inside = omega (arith, listed, whole)

    found : score_at match_length place ≡ score
    found = score-found match_length score listed

    at-place : one.decision.score ≡ Some (score_at match_length place)
    at-place = is.at ∙ ap (λ (s : MatchScore). Some s) (sym found)

    abbrev own : WordList
    own = words place

    own-game : own.game ≡ game_at_score checkers score first
    own-game = (is_ladder.solved place inside).closed.game ∙ ap (λ (s : MatchScore). game_at_score checkers s first) found

    own-valid : IsGame own.game
    own-valid = (is_ladder.solved place inside).closed.valid

    of-own : IsDecisionOf own.game one.decision
    of-own = of-game checkers match_length score first own own-game own-valid one.decision is is.at

    own-loss : one.loss ≡ Some (lost own.game.stakes (words_in_list own) one.decision)
    own-loss = judged.kept place (record { kept = inside; score = at-place })

    covers : Covers first score
    covers = subst (Covers first) found (till-covers starts place listed (omega (arith, inside)))

    -- its loss encloses what it loses exactly
    one-true : (scored : ScoredMatch) → IsScoredMatch checkers scored → EncloseStarts scored starts → (left : ℕ) → all-sound.0 ≤ left
        → IfSome one.decision.score (λ score. IfSome one.loss (λ pair. EnclosesLossAt scored left one.decision pair score))
    one-true scored is_scored encloses left more =
        let u = words_in_list own in
        let sound : AreSoundFrom (game_at_score checkers score first) all-sound.0 u = subst (λ (g : Game). AreSoundFrom g all-sound.0 u) own-game (all-sound.1 place inside) in
        let loss = loss-encloses payoffs checkers scored is_scored first (till-valid starts place valid (omega (arith, inside))) (till-encloses scored place (omega (arith, inside)) encloses) score is.of_match.valid covers
        (subst IsGame own-game own-valid) all-sound.0 u sound left more one.decision (subst (λ (g : Game). IsDecisionOf g one.decision) own-game of-own) in
        let loss' : EnclosesLossAt scored left one.decision (lost own.game.stakes u one.decision) score = subst (λ (g : Game). EnclosesLossAt scored left one.decision (lost g.stakes u one.decision) score) (sym own-game) loss in
        if-given (λ (s : MatchScore). IfSome one.loss (λ pair. EnclosesLossAt scored left one.decision pair s)) one.decision.score score is.at
        (if-given (λ (pair : Bounds). EnclosesLossAt scored left one.decision pair score) one.loss (lost own.game.stakes u one.decision) own-loss loss')

    -- and is as tight as over the rounds for the stakes of the plain starts
    one-tight : IsNoLooserJudged one (judged_plainly checkers r match_length one.decision)
    one-tight =
        let u = words_in_list own in
        let plain = plain_terms checkers r match_length score in
        let tight : IsTightAt checkers r starts place own = is_ladder.tight place inside in
        let stakes : AreNoLooserStakes (terms_of score first) plain = stakes-no-looser score first (plain_starts checkers r match_length place) (till-tight checkers r starts place (omega (arith, inside)) (λ earlier less. (is_ladder.tight earlier (omega (arith, less, inside))).start)) in
        let stakes' : AreNoLooserStakes own.game.stakes plain = subst (λ (g : Game). AreNoLooserStakes g.stakes plain) (sym own-game) stakes in
        let states : AreNoLooser own.game u (rounds plain r) = subst (λ (s : MatchScore). AreNoLooser own.game u (rounds (terms_of s (plain_starts checkers r match_length place)) r)) found tight.states in
        let pairs : AreNoLooserPairs (lost own.game.stakes u one.decision) (lost plain (rounds plain r) one.decision) = loss-of-tighter own.game own-valid plain stakes' u (rounds plain r) states one.decision.position one.decision.kind of-own.state one.decision.choice of-own.choice in
        record {
          decision = refl;
          loss = some-given (λ (pair : Bounds). IsSomeAnd (judged_plainly checkers r match_length one.decision).loss (AreNoLooserPairs pair)) one.loss (lost own.game.stakes u one.decision) own-loss
              (some-given (AreNoLooserPairs (lost own.game.stakes u one.decision)) (judged_plainly checkers r match_length one.decision).loss (lost plain (rounds plain r) one.decision)
              (ap (λ (o : Option MatchScore). option_map (λ (s : MatchScore). lost (plain_terms checkers r match_length s) (rounds (plain_terms checkers r match_length s) r) one.decision) o) is.at) pairs);
        }

  -- ---- all decisions

  all-true : (list : List Judged) → All (λ (one : Judged). IsDecisionInMatch checkers match_length one.decision) list → All (IsJudgedBy starts words) list → IsTrueMatch checkers list
  all-true list right judged = (
    max is_ladder.true_from.0 all-sound.0,
    λ scored is_scored late left more. λ i d below.
        one-true (get_or list i d) (right i d below) (judged i d below) scored is_scored
        (λ place here. (is_ladder.true_from.1 scored is_scored (omega (arith, late)) place here).1) left (omega (arith, more)),
  )

  all-tight : (list : List Judged) → All (λ (one : Judged). IsDecisionInMatch checkers match_length one.decision) list → All (IsJudgedBy starts words) list → IsNoLooserAnalysis list (map (judged_plainly checkers r match_length) (decisions_in list))
  all-tight [] right judged = tt
  all-tight (one ∷ list) right judged = (
    one-tight one (All-head (λ (one : Judged). IsDecisionInMatch checkers match_length one.decision) one list right) (All-head (IsJudgedBy starts words) one list judged),
    all-tight list (All-tail (λ (one : Judged). IsDecisionInMatch checkers match_length one.decision) one list right) (All-tail (IsJudgedBy starts words) one list judged),
  )

  pub all-studied : (list : List Judged) → All (λ (one : Judged). IsDecisionInMatch checkers match_length one.decision) list → All (IsJudgedBy starts words) list → AreStudiedInMatch checkers match_length r (decisions_in list) list
  all-studied list right judged = record {
    true = all-true list right judged;
    tight = all-tight list right judged;
    best = record { starts = starts; of_length = refl; whole = whole; words = words; solved = is_ladder.solved; best = λ i d below. (judged i d below).best };
  }

-- ---- what was kept

-- the scores of ladders
abbrev pub ScoresLaw : Type 0
ScoresLaw = (match_length : ℕ) → 1 ≤ match_length → match_length ≤ 5 → (score : MatchScore) → (Contains (ladder match_length) score → IsOfMatch match_length score) × (IsOfMatch match_length score → Contains (ladder match_length) score)

abbrev pub OrderLaw : Type 0
OrderLaw = (match_length : ℕ) → 1 ≤ match_length → match_length ≤ 5 → AllPairs ScoreComesBefore (ladder match_length)

abbrev pub LadderLaw : Type 0
LadderLaw = (checkers r : ℕ) → 1 ≤ checkers → checkers ≤ 3 → (starts : StartPairs) → AreStarts starts → (words : ℕ → WordList) → IsSolved checkers r starts words → IsLadder checkers r starts words

-- the decisions of a match whose scores are all kept were studied
pub match-studied : LadderLaw → PayoffsLieWithin → ScoresLaw → OrderLaw → (rec : Record) → IsRecord rec → (match_length r : ℕ) (judged : JudgedMatch) (starts : StartPairs) → AreStarts starts → judged.starts ≡ starts
    → judged.checkers ≡ rec.checkers → judged.rounds ≡ r → starts.match_length ≡ match_length → length starts.pairs ≡ length (ladder match_length)
    → IsJudgedSoFar judged → (decisions : List Decision) → decisions_in judged.list ≡ decisions → AreStudiedInMatch rec.checkers match_length r decisions judged.list
match-studied ladder_law payoffs scores order rec valid match_length r judged starts are held checkers rounds_are of_length whole so_far decisions same =
    let many = checkers-of rec valid in
    let own_valid : AreStarts judged.starts = subst AreStarts (sym held) are in
    let n : judged.starts.match_length ≡ match_length = ap (λ (s : StartPairs). s.match_length) held ∙ of_length in
    let solved = ladder_law judged.checkers judged.rounds (subst (λ (n : ℕ). 1 ≤ n) (sym checkers) many.0) (subst (λ (n : ℕ). n ≤ 3) (sym checkers) many.1) judged.starts own_valid so_far.words so_far.solved in
    let all : length judged.starts.pairs ≡ length (ladder judged.starts.match_length) = ap (λ (s : StartPairs). length s.pairs) held ∙ whole ∙ ap (λ (n : ℕ). length (ladder n)) (sym n) in
    let studied = all-studied payoffs judged.checkers judged.rounds judged.starts so_far.words solved own_valid all (λ score. (scores judged.starts.match_length own_valid.from own_valid.to score).1) (order judged.starts.match_length own_valid.from own_valid.to) judged.list so_far.decisions so_far.losses in
    let one = subst (λ (n : ℕ). AreStudiedInMatch n judged.starts.match_length judged.rounds (decisions_in judged.list) judged.list) checkers studied in
    let two = subst (λ (n : ℕ). AreStudiedInMatch rec.checkers n judged.rounds (decisions_in judged.list) judged.list) n one in
    let three = subst (λ (n : ℕ). AreStudiedInMatch rec.checkers match_length n (decisions_in judged.list) judged.list) rounds_are two in
    subst (λ (ds : List Decision). AreStudiedInMatch rec.checkers match_length r ds judged.list) same three

-- decisions that weren't judged yet are those that they are made of
pub unjudged-decisions : (decisions : List Decision) → decisions_in (map unjudged decisions) ≡ decisions
unjudged-decisions [] = refl
unjudged-decisions (decision ∷ decisions) = ap (λ (ds : List Decision). decision ∷ ds) (unjudged-decisions decisions)
