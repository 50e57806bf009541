-- What is best where a player can choose, as it is advised.
use Rattle.std.specs.Prelude.{◌≡◌, ℕ, List, [], ◌∷◌, take, Option, Some, None, unwrap_or, ⊤}
use Rattle.position_rank.specs.Placement.{Placement}
use Rattle.roll_table.specs.Rolls.{Dice}
use Rattle.move_rules.specs.declared.play.Move.{Move}
use Rattle.play_text.specs.Notation.{CanFollow}
use Rattle.directed_fixed.specs.Bounds.{Bounds}
use Rattle.cube_actions.specs.Stakes.{Terms}
use Rattle.turn_rule.specs.Turn.{Words}
use Rattle.turn_rule.specs.Looks.{Source, Notes, IsPairFor}
use Rattle.turn_rule.specs.declared.choice.Choice.{Choice}
use Rattle.turn_rule.specs.declared.choice.Choice.TheVariants.{Played, Offered, Answered}
use Rattle.cube_actions.specs.declared.action.Offer.{Offer as OfferOf}
use Rattle.cube_actions.specs.declared.action.Offer.TheVariants.{NoDouble, Double}
use Rattle.cube_actions.specs.declared.action.Answer.{Answer as AnswerOf}
use Rattle.cube_actions.specs.declared.action.Answer.TheVariants.{Take, Pass, Beaver}
use Rattle.play_analyser.specs.declared.advice.CubeAction.{CubeAction}
use Rattle.play_analyser.specs.declared.advice.CubeAdvice.{CubeAdvice}
use Rattle.play_analyser.specs.declared.best.Advised.{Advised}
use Rattle.play_analyser.specs.declared.best.Advised.TheVariants.{Play, Offer, Answer}
use Rattle.play_analyser.specs.declared.best.Best.{Best}
use Rattle.play_analyser.specs.declared.best.Moves.{Moves}
use Rattle.play_analyser.specs.declared.losses.Weighed.{Weighed}
use Rattle.play_analyser.specs.declared.ranking.PlayRow.{PlayRow}
use Rattle.play_analyser.specs.declared.ranking.Ranking.{Ranking}
use Rattle.play_analyser.specs.Advice.{IsCubeAdvice, IsCubeAdviceOver, doubling_of}
use Rattle.play_analyser.specs.Rankings.{IsRanking, IsRankingOver}
use Rattle.play_analyser.specs.Sought.{of_loss}

-- the moves of a play
abbrev pub moves_of : Moves → List Move
moves_of moves = take moves.many moves.list

-- these are the moves of what is advised
abbrev pub IsPlay : Advised → List Move → Type 0
IsPlay (Play moves) items = moves_of moves ≡ items
IsPlay (Offer offer) items = ⊥
IsPlay (Answer answer) items = ⊥

-- the play of the first of some rows, with its pair
abbrev pub IsFirstRow : List PlayRow → Best → Type 0
IsFirstRow [] best = ⊥
IsFirstRow (row ∷ rows) best = IsPlay best.advised row.entry.play.items × (best.pair ≡ row.pair)

-- what an offer gives the side to move, where rolling gives this
abbrev pub offer_pair : Bounds → CubeAction → OfferOf → Bounds
offer_pair rolling action NoDouble = rolling
offer_pair rolling action Double = doubling_of action

-- what an answer leaves to the side to move
abbrev pub answer_pair : CubeAction → AnswerOf → Bounds
answer_pair action Take = action.take
answer_pair action Pass = action.pass
answer_pair action Beaver = unwrap_or action.beaver action.take

-- the offer that is advised, with its pair
abbrev pub best_of_offer : Bounds → CubeAction → Best
best_of_offer rolling action = record {
  advised = Offer action.offer;
  pair = offer_pair rolling action action.offer;
}

-- the answer that is advised, with its pair
abbrev pub best_of_answer : CubeAction → Best
best_of_answer action = record {
  advised = Answer action.answer;
  pair = answer_pair action action.answer;
}

-- there is advice on a double, and this is told by it
abbrev pub IsOfAction : Option CubeAction → (CubeAction → Best) → Best → Type 0
IsOfAction None told best = ⊥
IsOfAction (Some action) told best = best ≡ told action

-- What is best where a player chooses: of plays the first of such a ranking, and of offers and of answers the one of such advice.
abbrev pub IsBestBy : (Dice → Ranking → Type 0) → (CubeAdvice → Type 0) → Choice → Best → Type 0
IsBestBy ranks advises (Played roll end) best =
    (ranking : Ranking) × ranks roll ranking × IsFirstRow ranking.rows.items best
IsBestBy ranks advises (Offered offer) best =
    (advice : CubeAdvice) × advises advice
    × IsOfAction advice.action (best_of_offer advice.no_double) best
IsBestBy ranks advises (Answered answer) best =
    (advice : CubeAdvice) × advises advice × IsOfAction advice.action best_of_answer best

-- by the ranking and the advice from a source's words
abbrev pub IsBest : Terms → Placement → ℕ → Choice → Source → Notes → Best → Type 0
IsBest stakes p k choice source noted =
    IsBestBy (λ roll. IsRanking stakes p k roll source noted)
    (IsCubeAdvice stakes p k source noted) choice

-- by the ranking and the advice over words
abbrev pub IsBestOver : Terms → Words → Placement → ℕ → Choice → Best → Type 0
IsBestOver stakes u p k choice =
    IsBestBy (λ roll. IsRankingOver stakes u p k roll) (IsCubeAdviceOver stakes u p k) choice

-- what a choice loses and what was best, by a source's words
pub record IsWeighed (stakes : Terms) (p : Placement) (k : ℕ) (choice : Choice) (source : Source)
    (noted : Notes) (weighed : Weighed) : Type 0 where
  pub loss : IsPairFor (of_loss stakes p k choice) source noted weighed.loss
  pub best : IsBest stakes p k choice source noted weighed.best

-- a play that is advised can be made from this position
abbrev pub CanBeMade : Placement → Advised → Type 0
CanBeMade p (Play moves) = CanFollow p (moves_of moves)
CanBeMade p (Offer offer) = ⊤
CanBeMade p (Answer answer) = ⊤
