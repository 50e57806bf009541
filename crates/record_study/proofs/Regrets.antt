-- What a choice in a game of a match loses exactly doesn't ask what the scores after it are worth.
use Rattle.std.proofs.Common.{◌≡◌, ℕ, suc, pos, neg_ℤ, ◌*ℤ◌, ◌^◌, List, map, Option, Some, None, refl}
use Rattle.std.specs.Option.{option_map}
use Rattle.position_rank.specs.Placement.{Placement}
use Rattle.move_rules.specs.Ends.{legal_ends}
use Rattle.cube_actions.specs.declared.kind.Double.{Double}
use Rattle.cube_actions.specs.declared.kind.Taken.{Taken}
use Rattle.cube_actions.specs.Matches.{terms_of}
use Rattle.cube_actions.specs.Scores.{MatchScore}
use Rattle.cube_actions.specs.Stakes.{Terms, kind_at}
use Rattle.cube_actions.specs.Starts.{StartPairs}
use Rattle.cube_actions.specs.declared.action.Answer.{Answer}
use Rattle.turn_rule.specs.declared.choice.Choice.{Choice}
use Rattle.turn_rule.specs.declared.choice.Choice.TheVariants.{Played, Offered, Answered}
use Rattle.cube_actions.specs.declared.action.Offer.{Offer}
use Rattle.turn_rule.specs.Exact.{Scoring, exact, left_with}
use Rattle.play_analyser.specs.Choices.{play_options, offer_options, answer_options}
use Rattle.play_analyser.specs.Losses.{regret}
use Rattle.play_analyser.specs.Regrets.{cube_regret, offer_worths, answer_worths, regret_of}
use Rattle.match_scores.proofs.MatchPayoffs.{left-same, rolled-same, doubled-same, next-same, answers-same, values-same}

module _ (score : MatchScore) (starts others : StartPairs) (scoring : Scoring) (turns : ℕ) where
  abbrev one : Terms
  one = terms_of score starts

  abbrev other : Terms
  other = terms_of score others

  same : (p : Placement) (k : ℕ) → exact one scoring turns p k ≡ exact other scoring turns p k
  same = values-same score starts others scoring turns

  abbrev SameAnswers : Option Double → Option Double → Type 0
  SameAnswers c d = option_map (λ (double : Double). double.answers.items) c ≡ option_map (λ (double : Double). double.answers.items) d

  module _ (p : Placement) (k : ℕ) where
    played : (ends : List Placement) (end : Placement) → regret (play_options (λ q. left_with one scoring turns (exact one scoring turns) k q) ends end) ≡ regret (play_options (λ q. left_with other scoring turns (exact other scoring turns) k q) ends end)
    played ends end = λ i. regret (play_options (λ q. left-same one other (next-same score starts others) scoring turns (exact one scoring turns) (exact other scoring turns) same k q i) ends end)

    offered : (offer : Offer) (c d : Option Double) → SameAnswers c d → cube_regret c (λ double. offer_worths one scoring turns p k double offer) ≡ cube_regret d (λ double. offer_worths other scoring turns p k double offer)
    offered offer None None h = refl
    offered offer None (Some d) h = cc
    offered offer (Some c) None h = cc
    offered offer (Some c) (Some d) h =
        let items : c.answers.items ≡ d.answers.items = cc in
        let rolled = rolled-same one other (next-same score starts others) scoring turns (exact one scoring turns) (exact other scoring turns) same p k in
        let doubled = doubled-same one other (next-same score starts others) scoring turns (exact one scoring turns) (exact other scoring turns) same p k c d items in
        λ i. regret (offer_options (rolled i) (doubled i) offer)

    answered : (answer : Answer) (c d : Option Double) → SameAnswers c d → cube_regret c (λ double. answer_worths one scoring turns p k double answer) ≡ cube_regret d (λ double. answer_worths other scoring turns p k double answer)
    answered answer None None h = refl
    answered answer None (Some d) h = cc
    answered answer (Some c) None h = cc
    answered answer (Some c) (Some d) h =
        let items : c.answers.items ≡ d.answers.items = cc in
        let rolled = rolled-same one other (next-same score starts others) scoring turns (exact one scoring turns) (exact other scoring turns) same p in
        λ i. regret (answer_options (neg_ℤ (pos (36 ^ suc turns) *ℤ scoring.pass k)) (map (λ (taken : Taken). neg_ℤ (pos taken.factor *ℤ rolled taken.kind i)) (items i)) answer)

    pub regret-same : (choice : Choice) → regret_of one scoring turns p k choice ≡ regret_of other scoring turns p k choice
    regret-same (Played roll end) = played (legal_ends p roll) end
    regret-same (Offered offer) = offered offer (kind_at one k).double (kind_at other k).double (answers-same score starts others k)
    regret-same (Answered answer) = answered answer (kind_at one k).double (kind_at other k).double (answers-same score starts others k)
