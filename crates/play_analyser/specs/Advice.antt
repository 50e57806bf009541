-- What is advised to a player who may double, and to one who was doubled, and what that can lose at most.
use Rattle.std.specs.Prelude.{◌≡◌, ℕ, ◌≤ℤ◌, ◌<ℤ◌, List, [], ◌∷◌, map, Option, Some, None, ⊤}
use Rattle.std.specs.Option.{option_to_list}
use Rattle.position_rank.specs.Placement.{Placement}
use Rattle.directed_fixed.specs.Bounds.{Bounds, negated}
use Rattle.cube_actions.specs.declared.kind.Double.{Double as DoubleOf}
use Rattle.cube_actions.specs.declared.kind.Taken.{Taken}
use Rattle.cube_actions.specs.Stakes.{Terms, kind_at}
use Rattle.turn_rule.specs.Turn.{Words}
use Rattle.turn_rule.specs.Looks.{Source, Notes, IsRollPair, roll_pair}
use Rattle.cube_actions.specs.declared.action.Offer.{Offer}
use Rattle.cube_actions.specs.declared.action.Offer.TheVariants.{NoDouble, Double}
use Rattle.cube_actions.specs.declared.action.Answer.{Answer}
use Rattle.cube_actions.specs.declared.action.Answer.TheVariants.{Take, Pass, Beaver}
use Rattle.play_analyser.specs.declared.advice.CubeAction.{CubeAction}
use Rattle.play_analyser.specs.declared.advice.CubeAdvice.{CubeAdvice}
use Rattle.play_analyser.specs.Losses.{Options, loss, least_pair}
use Rattle.play_analyser.specs.Choices.{offer_options, answer_options}
use Rattle.play_analyser.specs.Regrets.{taken_pair}
use Rattle.play_analyser.specs.Sought.{ArePairsFor, of_answer}

-- to double where that is sure to give more than not doubling is sure to give, and not to double where it isn't
abbrev pub IsBestOffer : Bounds → Bounds → Offer → Type 0
IsBestOffer rolling doubling Double = rolling.lower <ℤ doubling.lower
IsBestOffer rolling doubling NoDouble = doubling.lower ≤ℤ rolling.lower

-- of a take, a beaver if there is one, and a pass, by what each gives the doubler: the first of those after which he can get at most the least
abbrev pub IsBestAnswer : Bounds → List Bounds → Answer → Type 0
IsBestAnswer pass [] answer = ⊥
IsBestAnswer pass (take ∷ []) Take = take.upper ≤ℤ pass.upper
IsBestAnswer pass (take ∷ []) Beaver = ⊥
IsBestAnswer pass (take ∷ []) Pass = pass.upper <ℤ take.upper
IsBestAnswer pass (take ∷ beaver ∷ more) Take =
    (take.upper ≤ℤ beaver.upper) × (take.upper ≤ℤ pass.upper)
IsBestAnswer pass (take ∷ beaver ∷ more) Beaver =
    (beaver.upper <ℤ take.upper) × (beaver.upper ≤ℤ pass.upper)
IsBestAnswer pass (take ∷ beaver ∷ more) Pass =
    (pass.upper <ℤ take.upper) × (pass.upper <ℤ beaver.upper)

-- what the answers that play on give
abbrev pub taken_of : CubeAction → List Bounds
taken_of action = action.take ∷ option_to_list action.beaver

-- what the double gives, as the other side answers it best
abbrev pub doubling_of : CubeAction → Bounds
doubling_of action = least_pair action.pass (taken_of action)

-- what could be offered, and what could be answered, each with the advised one as the chosen one
abbrev pub advised_offer : Bounds → CubeAction → Options Bounds
advised_offer rolling action = offer_options rolling (doubling_of action) action.offer

abbrev pub advised_answer : CubeAction → Options Bounds
advised_answer action =
    answer_options (negated action.pass) (map negated (taken_of action)) action.answer

-- the best offer and the best answer are advised, each with the upper end of what it loses
pub record IsAction (rolling : Bounds) (action : CubeAction) : Type 0 where
  pub offer : IsBestOffer rolling (doubling_of action) action.offer
  pub offer_bound : action.offer_bound ≡ (loss (advised_offer rolling action)).upper
  pub answer : IsBestAnswer action.pass (taken_of action) action.answer
  pub answer_bound : action.answer_bound ≡ (loss (advised_answer action)).upper

-- advice on this double, by such pairs of the answers that play on
pub record IsActionBy (taken_are : List Taken → List Bounds → Type 0) (rolling : Bounds)
    (double : DoubleOf) (action : CubeAction) : Type 0 where
  pub taken : taken_are double.answers.items (taken_of action)
  pub pass : action.pass ≡ double.pass
  pub advised : IsAction rolling action

-- there is advice on a double exactly where there is a double
abbrev pub IsAdviceOn : Option DoubleOf → Option CubeAction → (DoubleOf → CubeAction → Type 0)
    → Type 0
IsAdviceOn None None advises = ⊤
IsAdviceOn None (Some action) advises = ⊥
IsAdviceOn (Some double) None advises = ⊥
IsAdviceOn (Some double) (Some action) advises = advises double action

-- what is told to a player before he rolls, by such pairs of rolling and of the answers that play on
pub record IsAdvisedBy (rolling_is : Bounds → Type 0)
    (taken_are : List Taken → List Bounds → Type 0) (stakes : Terms) (k : ℕ)
    (advice : CubeAdvice) : Type 0 where
  pub no_double : rolling_is advice.no_double
  pub action :
      IsAdviceOn (kind_at stakes k).double advice.action
      (λ double action. IsActionBy taken_are advice.no_double double action)

-- by pairs from a source's words
abbrev pub IsCubeAdvice : Terms → Placement → ℕ → Source → Notes → CubeAdvice → Type 0
IsCubeAdvice stakes p k source noted =
    IsAdvisedBy (IsRollPair stakes p k 1 source noted)
    (λ answers pairs. ArePairsFor (of_answer stakes p) answers source noted pairs) stakes k

-- by what rolling and the answers give over words
abbrev pub IsCubeAdviceOver : Terms → Words → Placement → ℕ → CubeAdvice → Type 0
IsCubeAdviceOver stakes u p k =
    IsAdvisedBy (λ pair. pair ≡ roll_pair stakes u p k 1)
    (λ answers pairs. pairs ≡ map (λ (taken : Taken). taken_pair stakes u p taken) answers) stakes k
