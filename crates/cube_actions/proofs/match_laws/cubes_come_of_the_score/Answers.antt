use Rattle.std.proofs.Common.{◌≡◌, Bool, true, false, cond, List, [], ◌∷◌, Some, None, map, refl, ap}
use Rattle.std.specs.Option.{option_map}
use Rattle.cube_actions.specs.declared.kind.Kind.{Kind}
use Rattle.cube_actions.specs.declared.kind.Double.{Double}
use Rattle.cube_actions.specs.MatchKinds.{match_kinds, kind_may_double}
use Rattle.cube_actions.specs.Matches.{answers_in, match_kind}
use Rattle.cube_actions.proofs.match_laws.cubes_come_of_the_score.Goals as goal

-- what g makes of the images under f and under h is the same where it is the same of each
same_of_each : {X Y Z : Type 0} (g : Y → Z) (f h : X → Y) → ((x : X) → g (f x) ≡ g (h x)) → (xs : List X) → map g (map f xs) ≡ map g (map h xs)
same_of_each g f h e [] = refl
same_of_each g f h e (x ∷ xs) =
    let later = same_of_each g f h e xs in
    λ i. e x i ∷ later i

same_answers : (may : Bool) (a b : Double) → a.answers.items ≡ b.answers.items → option_map (λ (double : Double). double.answers.items) (cond may (Some a) None) ≡ option_map (λ (double : Double). double.answers.items) (cond may (Some b) None)
same_answers true a b e = ap Some e
same_answers false a b e = refl

pub returns : goal.returns
returns c = record {
  next = λ score starts others. same_of_each (λ (kind : Kind). kind.next) (match_kind starts score) (match_kind others score) (λ kind. refl) (match_kinds score);
  answers = λ score starts others. same_of_each answers_in (match_kind starts score) (match_kind others score) (λ kind. same_answers (kind_may_double score kind) _ _ refl) (match_kinds score);
}
