use Rattle.std.proofs.Common.{◌≡◌, ◌∙◌, ◌||◌, Bool, ℕ, List, [], ◌∷◌, Bor, ap, bytes_eq, map, refl}
use Rattle.std.specs.List.{list_any}
use Rattle.refusal_notes.proofs.call.Call.takes.Goals as goal

any-now : (name : List ℕ) (names : List (Bor (List ℕ))) → list_any (λ (x : Bor (List ℕ)). bytes_eq x.now name) names ≡ list_any (λ x. bytes_eq x name) (map (λ x. x.now) names)
any-now name [] = refl
any-now name (x ∷ names) = ap (λ (rest : Bool). bytes_eq x.now name || rest) (any-now name names)

pub returns : goal.returns
returns c =
    c.contains.ensures.value
    ∙ (any-now c.args.argument.now c.arguments.result.now ∙ ap (λ (names : List (List ℕ)). list_any (λ x. bytes_eq x c.args.argument.now) names) c.arguments.ensures)
