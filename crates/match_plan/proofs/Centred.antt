-- The kinds with the cube centred are the first two of a score.
use Rattle.std.proofs.Common.{◌≡◌, ◌<◌, ◌∙◌, ℕ, None, length, refl, arith}
use Rattle.cube_actions.specs.declared.kind.Kind.{Kind}
use Rattle.cube_actions.specs.declared.side.Side.{Side}
use Rattle.cube_actions.specs.declared.side.Side.TheVariants.{Near, Far}
use Rattle.cube_actions.specs.MatchKinds.{match_kinds}
use Rattle.cube_actions.specs.Matches.{match_kind, terms_of}
use Rattle.cube_actions.specs.Scores.{MatchScore}
use Rattle.cube_actions.specs.Stakes.{Terms, kind_at}
use Rattle.cube_actions.specs.Starts.{StartPairs}
use Rattle.match_plan.specs.Plans.{centred_kind}

kind-there : (score : MatchScore) (starts : StartPairs) (side : Side) → kind_at (terms_of score starts) (centred_kind side) ≡ match_kind starts score (record { mover = side; cube = 1; owner = None })
unfolding match_kinds
kind-there score starts Near = refl
kind-there score starts Far = refl

there : (score : MatchScore) (starts : StartPairs) (side : Side) → centred_kind side < length (terms_of score starts).kinds
unfolding match_kinds
there score starts Near = omega arith
there score starts Far = omega arith

module _ (score : MatchScore) (starts : StartPairs) (side : Side) (stakes : Terms) (number : ℕ) (of_score : stakes ≡ terms_of score starts) (centre : number ≡ centred_kind side) where
  pub centred-inside : number < length stakes.kinds
  centred-inside = rw (of_score, centre) (there score starts side)

  pub centred-kind : (kind : Kind) → kind ≡ kind_at stakes number → kind ≡ match_kind starts score (record { mover = side; cube = 1; owner = None })
  centred-kind kind is = is ∙ rw (of_score, centre) (kind-there score starts side)
