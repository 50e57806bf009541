-- How decisions are judged by the words of a game.
use Rattle.std.specs.Prelude.{◌≡◌, ℕ, List, take, drop, Contains, Option, IsSomeAnd}
use Rattle.std.specs.List.{AllZip}
use Rattle.position_rank.specs.Placement.{Placement}
use Rattle.cube_actions.specs.Scores.{MatchScore}
use Rattle.cube_actions.specs.Stakes.{Terms}
use Rattle.game_record.specs.declared.decision.Decision.{Decision}
use Rattle.turn_rule.specs.Looks.{Source, Damage, Notes, Sought, Meets, MeetsFirst, IsSourceState, IsPairFor}
use Rattle.play_analyser.specs.declared.best.Best.{Best}
use Rattle.play_analyser.specs.Bests.{IsBest}
use Rattle.play_analyser.specs.Choices.{IsChoice}
use Rattle.play_analyser.specs.Sought.{MayFollowChoice, MeetsOnChoice, of_loss}
use Rattle.record_analysis.specs.declared.analysis.Judged.{Judged}

-- what a decision loses, as it is sought from words
abbrev pub of_decision : Terms → Decision → Sought
of_decision stakes decision = of_loss stakes decision.position decision.kind decision.choice

-- what was best at a decision, as it is sought from words
abbrev pub IsBestAt : Terms → Decision → Source → Notes → Best → Type 0
IsBestAt stakes decision = IsBest stakes decision.position decision.kind decision.choice

-- a decision that some words can judge: it was made in one of their states, and could be made there
pub record CanBeJudged (source : Source) (stakes : Terms) (decision : Decision) : Type 0 where
  pub state : IsSourceState source decision.position decision.kind
  pub choice : IsChoice stakes decision.position decision.kind decision.choice

-- a decision of a game with this score, or, where there is none, of a game outside a match
abbrev pub IsAt : Option MatchScore → Judged → Type 0
IsAt score judged = judged.decision.score ≡ score

-- What judging makes of a decision: one at the score gets the pair of what it loses, and what was best, by some words; another stays as it was.
pub record Judges (score : Option MatchScore) (stakes : Terms) (source : Source) (noted : Notes)
    (old new : Judged) : Type 0 where
  pub decision : new.decision ≡ old.decision
  pub judged : IsAt score old
      → IsSomeAnd new.loss (IsPairFor (of_decision stakes old.decision) source noted)
  pub best : IsAt score old → IsSomeAnd new.best (IsBestAt stakes old.decision source noted)
  pub other : (IsAt score old → ⊥) → new ≡ old

-- each of some decisions was judged that is at the score
abbrev pub JudgesAll : Option MatchScore → Terms → Source → Notes → List Judged → List Judged
    → Type 0
JudgesAll score stakes source noted = AllZip (Judges score stakes source noted)

-- those before some place were judged, and the others are as they were
pub record JudgesUpTo (place : ℕ) (score : Option MatchScore) (stakes : Terms) (source : Source)
    (noted : Notes) (old new : List Judged) : Type 0 where
  pub judged : JudgesAll score stakes source noted (take place old) (take place new)
  pub rest : drop place new ≡ drop place old

-- judging stopped at some place
abbrev pub JudgesSome : Option MatchScore → Terms → Source → Notes → List Judged → List Judged
    → Type 0
JudgesSome score stakes source noted old new =
    (place : ℕ) × JudgesUpTo place score stakes source noted old new

-- a state on which it rests what a decision at the score loses
pub record MayFollowOne (score : Option MatchScore) (stakes : Terms) (judged : Judged)
    (q : Placement) (j : ℕ) : Type 0 where
  pub at : IsAt score judged
  pub follows : MayFollowChoice stakes judged.decision.position judged.decision.kind
      judged.decision.choice q j

-- the damage that is met first where it is sought what a decision at the score loses
pub record MeetsOnDecision (score : Option MatchScore) (stakes : Terms) (judged : Judged)
    (source : Source) (damage : Damage) : Type 0 where
  pub at : IsAt score judged
  pub meets : MeetsOnChoice stakes judged.decision.position judged.decision.kind
      judged.decision.choice source damage

-- the damage that is met first at the decisions at the score, as they were recorded
abbrev pub MeetsOnDecisions : Option MatchScore → Terms → List Judged → Meets
MeetsOnDecisions score stakes =
    MeetsFirst (MayFollowOne score stakes) (MeetsOnDecision score stakes)

-- a state on which it rests what one of the decisions at the score loses
pub record MayFollowSome (score : Option MatchScore) (stakes : Terms) (list : List Judged)
    (q : Placement) (j : ℕ) : Type 0 where
  pub judged : Judged
  pub among : Contains list judged
  pub one : MayFollowOne score stakes judged q j
