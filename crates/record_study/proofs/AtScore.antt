-- Decisions of a match that are judged at one score.
use Rattle.std.proofs.Common.{◌≡◌, ◌∙◌, List, [], ◌∷◌, map, All, IsTrue, IsOk, IsSomeAnd, Option, Result, Some, None, ap, subst, sym, refl, arith}
use Rattle.std.specs.List.{AllZip}
use Rattle.std.proofs.lemmas.List.Elements.{All-cons, All-head, All-tail}
use Rattle.directed_fixed.specs.Bounds.{Bounds}
use Rattle.directed_fixed.specs.declared.bounds.End.{End}
use Rattle.cube_actions.specs.Scores.{MatchScore}
use Rattle.cube_actions.specs.Stakes.{Terms}
use Rattle.game_record.specs.declared.decision.Decision.{Decision}
use Rattle.turn_rule.specs.Following.{AgreeOn}
use Rattle.turn_rule.specs.Looks.{IsPairFor, LooksUp, Notes, Seen, Source, all_told}
use Rattle.turn_rule.specs.Turn.{Words}
use Rattle.hyper_outside.specs.declared.outside.LookStop.{LookStop}
use Rattle.interval_words.specs.WordLists.{WordList, source_of, words_in_list}
use Rattle.record_analysis.specs.Analyses.{IsBestFor, lost}
use Rattle.record_analysis.specs.Judging.{CanBeJudged, IsAt, IsBestAt, Judges, JudgesAll, MayFollowOne, MeetsOnDecisions, of_decision}
use Rattle.record_analysis.specs.declared.analysis.Judged.{Judged}
use Rattle.play_analyser.specs.declared.best.Best.{Best}
use Rattle.play_analyser.specs.Bests.{IsBestOver}
use Rattle.record_analysis.proofs.Analysed.{OneListBest, OneListGives}
use Rattle.record_study.proofs.Records.{answered}

-- at a score, a decision has what it loses over these words, where a source's floor and its notes are the same on the states that may follow
pub judged-at : OneListGives → (source : Source) (u : Notes) (stakes : Terms) → IsTrue u.told → (score : Option MatchScore) (old new : Judged) → IsAt score old → CanBeJudged source stakes old.decision
    → ((end : End) → AgreeOn (MayFollowOne score stakes old) end source.floor u.words) → Judges score stakes source u old new → new.loss ≡ Some (lost stakes u.words old.decision)
judged-at one_list source u stakes told score old new here can same is = by_loss new.loss (is.judged here) where
  by_loss : (loss : Option Bounds) → IsSomeAnd loss (IsPairFor (of_decision stakes old.decision) source u) → loss ≡ Some (lost stakes u.words old.decision)
  by_loss None h = absurd h
  by_loss (Some pair) h =
      ap (λ (b : Bounds). Some b)
      (one_list source u stakes old.decision.position old.decision.kind old.decision.choice pair told can.choice (λ end q j may. same end q j (record { at = here; follows = may })) h)

-- and what was best is so over these words
pub best-at : OneListBest → (source : Source) (u : Notes) (stakes : Terms) → IsTrue u.told → (score : Option MatchScore) (old new : Judged) → IsAt score old
    → ((end : End) → AgreeOn (MayFollowOne score stakes old) end source.floor u.words) → Judges score stakes source u old new → IsBestFor stakes u.words new
best-at one_best source u stakes told score old new here same is = by_decision new.decision (sym is.decision) (by_best new.best (is.best here)) where
  by_best : (best : Option Best) → IsSomeAnd best (IsBestAt stakes old.decision source u) → IsSomeAnd best (IsBestOver stakes u.words old.decision.position old.decision.kind old.decision.choice)
  by_best None h = absurd h
  by_best (Some best) h = one_best source u stakes old.decision.position old.decision.kind old.decision.choice best told (λ end q j may. same end q j (record { at = here; follows = may })) h

  by_decision : (d : Decision) → old.decision ≡ d → IsSomeAnd new.best (IsBestOver stakes u.words old.decision.position old.decision.kind old.decision.choice) → IsSomeAnd new.best (IsBestOver stakes u.words d.position d.kind d.choice)
  by_decision d is h = subst (λ (x : Decision). IsSomeAnd new.best (IsBestOver stakes u.words x.position x.kind x.choice)) is h

-- the law on sure sources
abbrev pub SureLaw : Type 0
SureLaw =
    (old new : Seen) (score : Option MatchScore) (stakes : Terms) (before after : List Judged) (result : Result (Unit {0}) LookStop) → IsTrue old.source.sure
    → LooksUp old new (MeetsOnDecisions score stakes before old.source) (λ _. JudgesAll score stakes old.source new.notes before after) result → IsOk result

-- what a reader of words sees
abbrev pub seen_in : WordList → Seen
seen_in words = record { source = source_of words; notes = all_told (words_in_list words); faults = 0 }

-- decisions that were judged by a reader of words were judged by the words
pub judged-by-words : SureLaw → (words old new : WordList) → source_of old ≡ source_of words → source_of new ≡ source_of old → (score : Option MatchScore) (stakes : Terms) → stakes ≡ words.game.stakes → (before after : List Judged) (result : Result (Unit {0}) LookStop)
    → LooksUp (seen_in old) (seen_in new) (MeetsOnDecisions score stakes before (source_of old)) (λ _. JudgesAll score stakes (source_of old) (all_told (words_in_list new)) before after) result
    → JudgesAll score words.game.stakes (source_of words) (all_told (words_in_list words)) before after
judged-by-words law words old new same later score stakes of before after result looked =
    let ok = law (seen_in old) (seen_in new) score stakes before after result refl looked in
    let judges = answered (JudgesAll score stakes (source_of old) (all_told (words_in_list new)) before after) result ok looked.answer in
    let notes : words_in_list new ≡ words_in_list words = ap (λ (s : Source). s.floor) (later ∙ same) in
    let one = subst (λ (t : Terms). JudgesAll score t (source_of old) (all_told (words_in_list new)) before after) of judges in
    let two = subst (λ (s : Source). JudgesAll score words.game.stakes s (all_told (words_in_list new)) before after) same one in
    subst (λ (u : Words). JudgesAll score words.game.stakes (source_of words) (all_told u) before after) notes two

-- what holds of each pair of items of two lists gives what holds of the second's
pub zipped-all : (R : Judged → Judged → Type 0) (P Q : Judged → Type 0) → ((old new : Judged) → R old new → P old → Q new) → (olds news : List Judged) → AllZip R olds news → All P olds → All Q news
zipped-all R P Q step [] [] zip all = λ i d below. absurd (omega arith)
zipped-all R P Q step [] (new ∷ news) zip all = absurd zip
zipped-all R P Q step (old ∷ olds) [] zip all = absurd zip
zipped-all R P Q step (old ∷ olds) (new ∷ news) zip all =
    All-cons Q new news (step old new zip.0 (All-head P old olds all)) (zipped-all R P Q step olds news zip.1 (All-tail P old olds all))

-- judging leaves the decisions
pub zipped-decisions : (R : Judged → Judged → Type 0) → ((old new : Judged) → R old new → new.decision ≡ old.decision) → (olds news : List Judged) → AllZip R olds news → map (λ (one : Judged). one.decision) news ≡ map (λ (one : Judged). one.decision) olds
zipped-decisions R same [] [] zip = refl
zipped-decisions R same [] (new ∷ news) zip = absurd zip
zipped-decisions R same (old ∷ olds) [] zip = absurd zip
zipped-decisions R same (old ∷ olds) (new ∷ news) zip =
    ap (λ (d : Decision). d ∷ map (λ (one : Judged). one.decision) news) (same old new zip.0)
    ∙ ap (λ (ds : List Decision). old.decision ∷ ds) (zipped-decisions R same olds news zip.1)
