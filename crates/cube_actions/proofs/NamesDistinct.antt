-- The kinds of a game have different names.
use Rattle.std.proofs.Common.{◌≡◌, ◌≢◌, ◌<◌, Bool, true, false, not, ◌&&◌, IsTrue, List, [], ◌∷◌, length, get_or, map, All, refl, sym, subst, ◌∙◌, arith}
use Rattle.std.proofs.lemmas.List.{get_or-map, length-map}
use Rattle.std.proofs.lemmas.List.Kept.{AllPairs-cons, AllPairs-filter}
use Rattle.std.proofs.lemmas.List.Elements.{All-map, All-filter}
use Rattle.std.specs.List.{list_all, AllPairs}
use Rattle.cube_actions.specs.declared.match_kind.MatchKind.{MatchKind}
use Rattle.cube_actions.specs.declared.name.KindName.{KindName}
use Rattle.cube_actions.specs.declared.name.MoneyRule.TheVariants.{Cubeless}
use Rattle.cube_actions.specs.declared.name.StakesName.{StakesName}
use Rattle.cube_actions.specs.declared.name.StakesName.TheVariants.{Unlimited, Match}
use Rattle.cube_actions.specs.Scores.{MatchScore}
use Rattle.cube_actions.specs.MatchKinds.{every_kind, match_kinds, can_come}
use Rattle.cube_actions.specs.Names.{names_of, name_of, same_name, is_kind_name, money_names}
use Rattle.cube_actions.proofs.FirstPassing.{passed_at}
use Rattle.cube_actions.proofs.NamesKnown.{same_name-refl}

all_apart : List KindName → Bool
all_apart [] = true
all_apart (x ∷ xs) = list_all (λ y. not (same_name x y)) xs && all_apart xs

both : (a b : Bool) → (a && b) ≡ true → (a ≡ true) × (b ≡ true)
both true true h = (refl, refl)
both true false h = cc
both false b h = cc

apart : (x y : KindName) → not (same_name x y) ≡ true → x ≢ y
apart x y h e =
    let same : same_name x y ≡ true = subst (λ (z : KindName). same_name x z ≡ true) e (same_name-refl x) in
    grind arith

apart-pairs : (xs : List KindName) → all_apart xs ≡ true → AllPairs (λ a b. a ≢ b) xs
unfolding all_apart
apart-pairs [] h = λ i j d low within. absurd (omega arith)
apart-pairs (x ∷ xs) h =
    let parts = both (list_all (λ y. not (same_name x y)) xs) (all_apart xs) h in
    AllPairs-cons (λ a b. a ≢ b) x xs (λ k d within. apart x (get_or xs k d) (passed_at (λ y. not (same_name x y)) xs k d parts.0 within)) (apart-pairs xs parts.1)

Apart : MatchKind → MatchKind → Type 0
Apart a b = name_of a ≢ name_of b

-- elements have different images if and only if the images differ
map-apart : {X Y : Type 0} (f : X → Y) (xs : List X) → AllPairs (λ a b. f a ≢ f b) xs → AllPairs (λ a b. a ≢ b) (map f xs)
map-apart f [] h = λ i j d low within. absurd (omega arith)
map-apart f (x ∷ xs) h = λ i j d low within.
    let inside : j < length (x ∷ xs) = omega (arith, within, length-map (x ∷ xs) f) in
    λ e. h i j x low inside (sym (get_or-map f (x ∷ xs) i x d (omega arith)) ∙ e ∙ get_or-map f (x ∷ xs) j x d inside)

unmap-apart : {X Y : Type 0} (f : X → Y) (xs : List X) → AllPairs (λ a b. a ≢ b) (map f xs) → AllPairs (λ a b. f a ≢ f b) xs
unmap-apart f xs h = λ i j d low within e.
    h i j (f d) low (omega (arith, within, length-map xs f)) (get_or-map f xs i d (f d) (omega arith) ∙ e ∙ sym (get_or-map f xs j d (f d) within))

kinds_apart : AllPairs Apart every_kind
unfolding all_apart Apart
kinds_apart = unmap-apart name_of every_kind (apart-pairs (map name_of every_kind) refl)

match_apart : (score : MatchScore) → AllPairs (λ a b. a ≢ b) (names_of (Match score))
unfolding match_kinds Apart
match_apart score = map-apart name_of (match_kinds score) (AllPairs-filter Apart (can_come score) every_kind kinds_apart)

pub names_apart : (stakes : StakesName) → AllPairs (λ a b. a ≢ b) (names_of stakes)
unfolding all_apart
names_apart (Match score) = match_apart score
names_apart (Unlimited Cubeless) = apart-pairs (names_of (Unlimited Cubeless)) refl
names_apart _ = apart-pairs money_names refl

pub names_right : (stakes : StakesName) → All (λ name. IsTrue (is_kind_name name)) (names_of stakes)
unfolding match_kinds
names_right (Match score) = All-map (λ name. IsTrue (is_kind_name name)) name_of (match_kinds score) (All-filter (can_come score) (λ kind. IsTrue (is_kind_name (name_of kind))) every_kind (λ k d within. passed_at (λ kind. is_kind_name (name_of kind)) every_kind k d refl within))
names_right (Unlimited Cubeless) = λ k d within. passed_at is_kind_name (names_of (Unlimited Cubeless)) k d refl within
names_right _ = λ k d within. passed_at is_kind_name money_names k d refl within
