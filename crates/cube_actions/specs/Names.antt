-- Names of kinds of state.
use Rattle.std.specs.Prelude.{◌≡◌, ◌==◌, Bool, true, false, ◌&&◌, ◌||◌, List, [], ◌∷◌, length, map, Some, None}
use Rattle.cube_actions.specs.declared.match_kind.MatchKind.{MatchKind}
use Rattle.cube_actions.specs.declared.name.KindName.{KindName}
use Rattle.cube_actions.specs.declared.name.KindName.TheVariants.{Alone, Centred, Mine, Theirs, InMatch}
use Rattle.cube_actions.specs.declared.name.MoneyRule.TheVariants.{Cubeless}
use Rattle.cube_actions.specs.declared.name.StakesName.{StakesName}
use Rattle.cube_actions.specs.declared.name.StakesName.TheVariants.{Unlimited, Match}
use Rattle.cube_actions.specs.Stakes.{Terms, IsValid}
use Rattle.cube_actions.specs.MatchKinds.{every_kind, match_kinds, same_side, same_owner}

abbrev pub name_of : MatchKind → KindName
name_of kind = InMatch kind.mover kind.cube kind.owner

abbrev pub money_names : List KindName
money_names = Centred ∷ Mine ∷ Theirs ∷ []

-- the names of the kinds of each stakes, in order
abbrev pub names_of : StakesName → List KindName
names_of (Match score) = map name_of (match_kinds score)
names_of (Unlimited Cubeless) = Alone ∷ []
names_of _ = money_names

abbrev pub same_name : KindName → KindName → Bool
same_name Alone Alone = true
same_name Centred Centred = true
same_name Mine Mine = true
same_name Theirs Theirs = true
same_name (InMatch a b c) (InMatch d e f) = same_side a d && b == e && same_owner c f
same_name _ _ = false

-- the names of all kinds: the centred cube shows 1, and an owned one 2, 4 or 8
unfoldable pub every_name : List KindName
every_name = Alone ∷ Centred ∷ Mine ∷ Theirs ∷ map name_of every_kind

-- valid stakes, with a name for each kind
pub record AreStakes (stakes : Terms) : Type 0 where
  pub valid : IsValid stakes
  pub named : length stakes.kinds ≡ length (names_of stakes.name)

-- in a match the centred cube shows 1, and an owned one 2, 4 or 8
abbrev pub is_kind_name : KindName → Bool
is_kind_name (InMatch mover cube None) = cube == 1
is_kind_name (InMatch mover cube (Some owner)) = cube == 2 || cube == 4 || cube == 8
is_kind_name _ = true
