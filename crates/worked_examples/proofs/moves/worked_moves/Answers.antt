-- By computation of what the move leaves.
use Rattle.std.proofs.Common.{◌≡◌, ℕ, [], ◌∷◌, Some, None, refl, arith}
use Rattle.position_rank.specs.Placement.{Placement}
use Rattle.position_rank.specs.Packed.{counts_of}
use Rattle.move_rules.specs.Moves.{IsMove}
use Rattle.move_rules.specs.Ends.{after_move}
use Rattle.position_rank.specs.Examples.{placed, off, bar}
use Rattle.move_rules.proofs.EndsExact.{after_move-sound, after_move-complete}
use Rattle.worked_examples.proofs.moves.worked_moves.Goals as goal

none : (p : Placement) (die from : ℕ) (q : Placement) → after_move p die from ≡ None → IsMove p die from q → ⊥
none p die from q e move = let some : after_move p die from ≡ Some q = after_move-complete p die from q move in absurd (cc)

pub returns-clause-hits : goal.returns-clause-hits
unfolding counts_of after_move
returns-clause-hits c = after_move-sound (placed (6 ∷ []) (22 ∷ [])) 3 6 (placed (3 ∷ []) (bar ∷ [])) (omega arith) (omega arith) refl

pub returns-clause-from_the_bar : goal.returns-clause-from_the_bar
unfolding counts_of after_move
returns-clause-from_the_bar c = after_move-sound (placed (bar ∷ []) (6 ∷ [])) 5 25 (placed (20 ∷ []) (6 ∷ [])) (omega arith) (omega arith) refl

pub returns-clause-closed : goal.returns-clause-closed
unfolding counts_of after_move
returns-clause-closed c = λ q. none (placed (6 ∷ []) (22 ∷ 22 ∷ [])) 3 6 q refl

pub returns-clause-bar_first : goal.returns-clause-bar_first
unfolding counts_of after_move
returns-clause-bar_first c = λ q. none (placed (bar ∷ 6 ∷ []) (1 ∷ 1 ∷ [])) 3 6 q refl

pub returns-clause-off_by_the_exact_number : goal.returns-clause-off_by_the_exact_number
unfolding counts_of after_move
returns-clause-off_by_the_exact_number c = after_move-sound (placed (4 ∷ 2 ∷ []) (1 ∷ 1 ∷ [])) 2 2 (placed (4 ∷ off ∷ []) (1 ∷ 1 ∷ [])) (omega arith) (omega arith) refl

pub returns-clause-off_from_the_highest : goal.returns-clause-off_from_the_highest
unfolding counts_of after_move
returns-clause-off_from_the_highest c = after_move-sound (placed (2 ∷ 1 ∷ []) (1 ∷ 1 ∷ [])) 3 2 (placed (1 ∷ off ∷ []) (1 ∷ 1 ∷ [])) (omega arith) (omega arith) refl

pub returns-clause-not_with_one_behind : goal.returns-clause-not_with_one_behind
unfolding counts_of after_move
returns-clause-not_with_one_behind c = λ q. none (placed (4 ∷ 2 ∷ []) (1 ∷ 1 ∷ [])) 3 2 q refl

pub returns-clause-not_with_one_outside : goal.returns-clause-not_with_one_outside
unfolding counts_of after_move
returns-clause-not_with_one_outside c = λ q. none (placed (7 ∷ 2 ∷ []) (1 ∷ 1 ∷ [])) 2 2 q refl

pub returns-clause-sides_exchanged : goal.returns-clause-sides_exchanged
unfolding counts_of after_move
returns-clause-sides_exchanged c = refl
