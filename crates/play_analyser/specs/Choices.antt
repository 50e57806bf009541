-- What a player can choose, and what he chose.
use Rattle.std.specs.Prelude.{◌≤◌, ℕ, List, [], ◌∷◌, length, map, nat_eq, Bool, ◌&&◌, Option, Some, None, if◌then◌else◌, ⊤}
use Rattle.std.specs.Cmp.Lexicographic.{pointwise}
use Rattle.position_rank.specs.Placement.{Placement}
use Rattle.roll_table.specs.Rolls.{IsRoll}
use Rattle.move_rules.specs.Sequences.{IsLegalEnd}
use Rattle.turn_rule.specs.declared.choice.Choice.{Choice}
use Rattle.turn_rule.specs.declared.choice.Choice.TheVariants.{Played, Offered, Answered}
use Rattle.cube_actions.specs.declared.action.Offer.{Offer}
use Rattle.cube_actions.specs.declared.action.Offer.TheVariants.{NoDouble, Double}
use Rattle.cube_actions.specs.declared.action.Answer.{Answer}
use Rattle.cube_actions.specs.declared.action.Answer.TheVariants.{Take, Pass, Beaver}
use Rattle.cube_actions.specs.declared.kind.Double.{Double as DoubleOf}
use Rattle.cube_actions.specs.Stakes.{Terms, kind_at}
use Rattle.play_analyser.specs.Losses.{Options}

-- the same position
abbrev pub same_position : Placement → Placement → Bool
same_position p q = pointwise nat_eq p.mover q.mover && pointwise nat_eq p.other q.other

-- these positions without one
abbrev pub all_but : Placement → List Placement → List Placement
all_but end [] = []
all_but end (q ∷ ends) = if same_position q end then all_but end ends else q ∷ all_but end ends

-- a play among those that a roll allows, each told by what it leaves
abbrev pub play_options : {X : Type 0} → (Placement → X) → List Placement → Placement → Options X
play_options value ends end = record { chosen = value end; others = map value (all_but end ends) }

-- to double or not, by what either gives the side to move
abbrev pub offer_options : {X : Type 0} → X → X → Offer → Options X
offer_options rolling doubling NoDouble = record { chosen = rolling; others = doubling ∷ [] }
offer_options rolling doubling Double = record { chosen = doubling; others = rolling ∷ [] }

-- to pass, to take, or, where there is a second answer, to beaver, by what each gives the side that was doubled
abbrev pub answer_options : {X : Type 0} → X → List X → Answer → Options X
answer_options pass (take ∷ answers) Take = record { chosen = take; others = pass ∷ answers }
answer_options pass (take ∷ beaver ∷ answers) Beaver = record {
  chosen = beaver;
  others = take ∷ pass ∷ [];
}
answer_options pass answers _ = record { chosen = pass; others = answers }

-- a double has this answer
abbrev pub HasAnswer : DoubleOf → Answer → Type 0
HasAnswer double Take = 1 ≤ length double.answers.items
HasAnswer double Pass = ⊤
HasAnswer double Beaver = 2 ≤ length double.answers.items

-- it may be doubled, and the double is so
abbrev pub IfDouble : Option DoubleOf → (DoubleOf → Type 0) → Type 0
IfDouble (Some double) P = P double
IfDouble None P = ⊥

-- what a player can choose in a state: an end that his roll allows, or, where he may double, an offer, and an answer to it
abbrev pub IsChoice : Terms → Placement → ℕ → Choice → Type 0
IsChoice stakes p k (Played roll end) = IsRoll roll × IsLegalEnd p roll end
IsChoice stakes p k (Offered offer) = IfDouble (kind_at stakes k).double (λ double. ⊤)
IsChoice stakes p k (Answered answer) =
    IfDouble (kind_at stakes k).double (λ double. HasAnswer double answer)

-- with so many answers that play on, there is this answer
abbrev pub IsAmongAnswers : ℕ → Answer → Type 0
IsAmongAnswers count Take = 1 ≤ count
IsAmongAnswers count Pass = ⊤
IsAmongAnswers count Beaver = 2 ≤ count
