-- What a choice loses exactly, and between which ends that lies over words. What an answer loses is counted for the side that was doubled, all
-- else for the side to move.
use Rattle.std.specs.Prelude.{ℕ, suc, ◌*◌, ◌^◌, ℤ, pos, neg_ℤ, ◌*ℤ◌, map, Option, Some, None}
use Rattle.position_rank.specs.Placement.{Placement}
use Rattle.move_rules.specs.Ends.{legal_ends}
use Rattle.directed_fixed.specs.declared.bounds.End.TheVariants.{Lower, Upper}
use Rattle.directed_fixed.specs.Bounds.{Bounds, at_zero, negated}
use Rattle.cube_actions.specs.declared.kind.Double.{Double}
use Rattle.cube_actions.specs.declared.kind.Kind.{Kind}
use Rattle.cube_actions.specs.declared.kind.Taken.{Taken}
use Rattle.cube_actions.specs.Stakes.{Terms, kind_at}
use Rattle.turn_rule.specs.Exact.{Scoring, exact, left_with, rolled, after_double}
use Rattle.turn_rule.specs.Looks.{roll_pair}
use Rattle.turn_rule.specs.Turn.{Words, worth, doubled}
use Rattle.turn_rule.specs.declared.choice.Choice.{Choice}
use Rattle.turn_rule.specs.declared.choice.Choice.TheVariants.{Played, Offered, Answered}
use Rattle.cube_actions.specs.declared.action.Answer.{Answer}
use Rattle.cube_actions.specs.declared.action.Offer.{Offer}
use Rattle.play_analyser.specs.Losses.{Options, loss, regret}
use Rattle.play_analyser.specs.Choices.{play_options, offer_options, answer_options}

-- ---- over words

-- what a play gives that leaves this
abbrev pub play_pair : Kind → Words → Placement → Bounds
play_pair kind u end = record { lower = worth Lower kind u end; upper = worth Upper kind u end }

-- what an answer that plays on gives the side to move
abbrev pub taken_pair : Terms → Words → Placement → Taken → Bounds
taken_pair stakes u p taken = roll_pair stakes u p taken.kind taken.factor

-- what a double gives, as the other side answers it best
abbrev pub double_pair : Terms → Words → Placement → Double → Bounds
double_pair stakes u p double = record {
  lower = doubled Lower stakes u p double;
  upper = doubled Upper stakes u p double;
}

abbrev pub offer_pairs : Terms → Words → Placement → ℕ → Double → Offer → Options Bounds
offer_pairs stakes u p k double offer =
    offer_options (roll_pair stakes u p k 1) (double_pair stakes u p double) offer

abbrev pub answer_pairs : Terms → Words → Placement → Double → Answer → Options Bounds
answer_pairs stakes u p double answer =
    answer_options (negated double.pass)
    (map (λ (taken : Taken). negated (taken_pair stakes u p taken)) double.answers.items) answer

-- what an offer, or an answer, loses where there is this double
abbrev pub cube_loss : Option Double → (Double → Options Bounds) → Bounds
cube_loss None options = at_zero
cube_loss (Some double) options = loss (options double)

-- what a choice loses at least and at most, over words
abbrev pub loss_of : Terms → Words → Placement → ℕ → Choice → Bounds
loss_of stakes u p k (Played roll end) =
    loss (play_options (play_pair (kind_at stakes k) u) (legal_ends p roll) end)
loss_of stakes u p k (Offered offer) =
    cube_loss (kind_at stakes k).double (λ double. offer_pairs stakes u p k double offer)
loss_of stakes u p k (Answered answer) =
    cube_loss (kind_at stakes k).double (λ double. answer_pairs stakes u p double answer)

-- ---- exactly, where so many turns follow the choice's own

-- what an answer that plays on gives the side to move
abbrev pub taken_worth : Terms → Scoring → ℕ → Placement → Taken → ℤ
taken_worth stakes scoring turns p taken =
    pos taken.factor *ℤ rolled stakes scoring turns (exact stakes scoring turns) p taken.kind

abbrev pub offer_worths : Terms → Scoring → ℕ → Placement → ℕ → Double → Offer → Options ℤ
offer_worths stakes scoring turns p k double offer =
    offer_options (rolled stakes scoring turns (exact stakes scoring turns) p k)
    (after_double stakes scoring turns (exact stakes scoring turns) p k double) offer

abbrev pub answer_worths : Terms → Scoring → ℕ → Placement → ℕ → Double → Answer → Options ℤ
answer_worths stakes scoring turns p k double answer =
    answer_options (neg_ℤ (pos (36 ^ suc turns) *ℤ scoring.pass k))
    (map (λ (taken : Taken). neg_ℤ (taken_worth stakes scoring turns p taken)) double.answers.items)
    answer

abbrev pub cube_regret : Option Double → (Double → Options ℤ) → ℤ
cube_regret None options = pos 0
cube_regret (Some double) options = regret (options double)

-- what a choice loses exactly
abbrev pub regret_of : Terms → Scoring → ℕ → Placement → ℕ → Choice → ℤ
regret_of stakes scoring turns p k (Played roll end) =
    regret (play_options (left_with stakes scoring turns (exact stakes scoring turns) k)
    (legal_ends p roll) end)
regret_of stakes scoring turns p k (Offered offer) =
    cube_regret (kind_at stakes k).double
    (λ double. offer_worths stakes scoring turns p k double offer)
regret_of stakes scoring turns p k (Answered answer) =
    cube_regret (kind_at stakes k).double
    (λ double. answer_worths stakes scoring turns p k double answer)

-- over what that is counted: a play comes after the roll, an offer and an answer before it
abbrev pub counted_over : Scoring → ℕ → Choice → ℕ
counted_over scoring turns (Played roll end) = scoring.scale * 36 ^ turns
counted_over scoring turns _ = scoring.scale * 36 ^ suc turns
