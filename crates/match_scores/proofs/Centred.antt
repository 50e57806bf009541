-- The numbers of the kinds with the cube centred.
use Rattle.std.proofs.Common.{◌≡◌, ◌<◌, ◌*◌, ◌^◌, pos, length, refl, subst, arith}
use Rattle.cube_actions.specs.declared.side.Side.{Side}
use Rattle.cube_actions.specs.declared.side.Side.TheVariants.{Near, Far}
use Rattle.cube_actions.specs.Scores.{MatchScore}
use Rattle.std.proofs.lemmas.List.{length-map}
use Rattle.cube_actions.specs.declared.name.StakesName.{StakesName}
use Rattle.cube_actions.specs.declared.name.StakesName.TheVariants.{Match}
use Rattle.cube_actions.specs.Stakes.{Terms, IsValid, bound_of}
use Rattle.cube_actions.specs.Names.{names_of, name_of}
use Rattle.cube_actions.specs.MatchKinds.{match_kinds}
use Rattle.cube_actions.specs.Starts.{StartPairs}
use Rattle.cube_actions.specs.Matches.{match_kind, terms_of}
use Rattle.match_scores.specs.Openings.{centred_in}

-- the near side's comes first, and then the far side's
pub centred-near : (score : MatchScore) → centred_in score Near ≡ 0
unfolding match_kinds
centred-near score = refl

pub centred-far : (score : MatchScore) → centred_in score Far ≡ 1
unfolding match_kinds
centred-far score = refl

some-kinds : (score : MatchScore) → 1 < length (match_kinds score)
unfolding match_kinds
some-kinds score = omega arith

-- both are kinds of the score
pub centred-inside : (score : MatchScore) (side : Side) → centred_in score side < length (match_kinds score)
centred-inside score Near = rw centred-near (omega (arith, some-kinds score))
centred-inside score Far = rw centred-far (some-kinds score)

-- and kinds of stakes of that name
pub centred-kind : (stakes : Terms) (score : MatchScore) (side : Side) → stakes.name ≡ Match score → length stakes.kinds ≡ length (names_of stakes.name) → centred_in score side < length stakes.kinds
centred-kind stakes score side name named =
    let many : length stakes.kinds ≡ length (names_of (Match score)) = subst (λ (n : StakesName). length stakes.kinds ≡ length (names_of n)) name named in
    omega (arith, many, length-map (match_kinds score) name_of, centred-inside score side)

-- a match counts as one point
pub bound-of-match : (stakes : Terms) (score : MatchScore) → IsValid stakes → stakes.name ≡ Match score → stakes.bound ≡ pos (1 * 2 ^ 32)
bound-of-match stakes score valid name = subst (λ (n : StakesName). stakes.bound ≡ bound_of n) name valid.bound

-- and kinds of the game at it, whatever the scores after it are worth
pub centred-terms : (score : MatchScore) (starts : StartPairs) (side : Side) → centred_in score side < length (terms_of score starts).kinds
centred-terms score starts side = omega (arith, length-map (match_kinds score) (match_kind starts score), centred-inside score side)
