-- The kind of a decision is one of its stakes, with the rights of its turn.
use Rattle.std.proofs.Common.{◌≡◌, ◌≤◌, ◌<◌, ℕ, Bool, true, false, not, ◌&&◌, cond, nat_lt, nat_le, List, [], ◌∷◌, length, map, get_or, Option, Some, None, IsSome, IfSome, Contains, refl, sym, subst, ◌∙◌, arith}
use Rattle.std.proofs.lemmas.List.{get_or-map, length-map}
use Rattle.std.proofs.lemmas.List.Sums.{passes_at_first}
use Rattle.std.specs.List.{position_or_len}
use Rattle.std.specs.Option.{option_map}
use Rattle.directed_fixed.specs.Bounds.{Bounds}
use Rattle.cube_actions.specs.declared.kind.Double.{Double}
use Rattle.cube_actions.specs.declared.kind.Kind.{Kind}
use Rattle.cube_actions.specs.declared.kind.Taken.{Taken}
use Rattle.cube_actions.specs.declared.name.KindName.{KindName}
use Rattle.cube_actions.specs.declared.name.KindName.TheVariants.{InMatch}
use Rattle.cube_actions.specs.declared.name.MoneyRule.TheVariants.{Cubeless, MoneyBeavers, JacobyBeavers}
use Rattle.cube_actions.specs.declared.name.StakesName.{StakesName}
use Rattle.cube_actions.specs.declared.name.StakesName.TheVariants as game
use Rattle.cube_actions.specs.declared.side.Side.TheVariants.{Near, Far}
use Rattle.cube_actions.specs.MatchKinds.{match_kinds, may_turn, same_side}
use Rattle.cube_actions.specs.Matches.{match_kind, stakes_named, terms_of}
use Rattle.cube_actions.specs.Money.{cube_kinds}
use Rattle.cube_actions.specs.Names.{money_names, name_of, names_of, same_name}
use Rattle.cube_actions.specs.Scores.{MatchScore, is_crawford, needs as side_needs}
use Rattle.cube_actions.specs.Stakes.{kind_at, no_kind}
use Rattle.cube_actions.specs.Starts.{StartPairs}
use Rattle.game_record.specs.declared.cube.Cube.{Cube}
use Rattle.game_record.specs.declared.player.Player.{Player}
use Rattle.game_record.specs.declared.player.Player.TheVariants.{A, B}
use Rattle.game_record.specs.declared.record.RecordStakes.{RecordStakes}
use Rattle.game_record.specs.declared.record.RecordStakes.TheVariants.{Unlimited, Match}
use Rattle.game_record.specs.declared.standing.Standing.{Standing}
use Rattle.game_record.specs.Cube.{is_free_to}
use Rattle.game_record.specs.Games.{records_beavers, has_right}
use Rattle.game_record.specs.Kinds.{game_stakes, kind_number, kind_of_turn, money_kind}
use Rattle.game_record.specs.Standings.{at_score, side_of}
use Rattle.game_record.specs.Turns.{same_player}
use Rattle.game_record.proofs.MatchPlaces.{side-needs}
use Rattle.game_record.proofs.Numbers.{found-below, same_name-refl, same_name-true}

-- ---- the number is in range

names-long : (stakes : StakesName) (starts : StartPairs) → length (stakes_named stakes starts).kinds ≡ length (names_of stakes)
names-long (game.Unlimited Cubeless) starts = refl
names-long (game.Unlimited _) starts = refl
names-long (game.Match score) starts = length-map (match_kinds score) (match_kind starts score) ∙ sym (length-map (match_kinds score) name_of)

pub number-below : (stakes : StakesName) (name : KindName) (starts : StartPairs) → Contains (names_of stakes) name → kind_number stakes name < length (stakes_named stakes starts).kinds
number-below stakes name starts there = omega (arith, names-long stakes starts, found-below same_name same_name-refl name (names_of stakes) there)

-- ---- for money

money-right : (wins : List Bounds) (answers : List Taken) (player : Player) (owner : Option Player) → is_free_to player owner ≡ true → IsSome (get_or (cube_kinds wins answers) (position_or_len (same_name (money_kind player owner)) money_names) no_kind).double
money-right wins answers player None free = refl
money-right wins answers player (Some owner) free = rw free refl

beaver-right : (wins : List Bounds) (one two : Taken) (player : Player) (owner : Option Player) → is_free_to player owner ≡ true → IfSome (get_or (cube_kinds wins (one ∷ two ∷ [])) (position_or_len (same_name (money_kind player owner)) money_names) no_kind).double (λ double. 2 ≤ length double.answers.items)
beaver-right wins one two player None free = omega arith
beaver-right wins one two player (Some owner) free = rw free (omega arith)

-- ---- in a match

-- the right of a kind, by its name
abbrev right_by_name : MatchScore → KindName → Bool
right_by_name score (InMatch mover cube owner) = not (is_crawford score.phase) && may_turn mover owner && nat_lt cube (side_needs score mover)
right_by_name score _ = false

same-sides : (standing : Standing) (player owner : Player) → same_side (side_of standing player) (side_of standing owner) ≡ same_player owner player
same-sides standing player owner = go player owner (nat_le standing.a standing.b) where
  go : (player owner : Player) (b : Bool) → same_side (cond (same_player player (cond b A B)) Near Far) (cond (same_player owner (cond b A B)) Near Far) ≡ same_player owner player
  go A A true = refl
  go A A false = refl
  go A B true = refl
  go A B false = refl
  go B A true = refl
  go B A false = refl
  go B B true = refl
  go B B false = refl

free-turn : (standing : Standing) (player : Player) (owner : Option Player) → may_turn (side_of standing player) (option_map (side_of standing) owner) ≡ is_free_to player owner
free-turn standing player None = refl
free-turn standing player (Some owner) = same-sides standing player owner

named-right : (length : ℕ) (standing : Standing) (player : Player) (cube : Cube) → has_right (Match length) standing player cube ≡ true → right_by_name (at_score standing) (kind_of_turn (Match length) standing player cube) ≡ true
named-right length standing player cube right = rw (free-turn standing player cube.owner, side-needs standing player) right

some-double : (test : Bool) (double : Double) → test ≡ true → IsSome (cond test (Some double) None)
some-double true double h = refl
some-double false double h = cc

match-right : (score : MatchScore) (starts : StartPairs) (name : KindName) → Contains (names_of (game.Match score)) name → right_by_name score name ≡ true → IsSome (kind_at (terms_of score starts) (kind_number (game.Match score) name)).double
match-right score starts name there right =
    let kinds = match_kinds score in
    let k = kind_number (game.Match score) name in
    let below : k < length (map name_of kinds) = found-below same_name same_name-refl name (map name_of kinds) there in
    let within : k < length kinds = omega (arith, below, length-map kinds name_of) in
    let kind = get_or-map (match_kind starts score) kinds k (record { mover = Near; cube = 1; owner = None }) no_kind within in
    let named = get_or-map name_of kinds k (record { mover = Near; cube = 1; owner = None }) name within in
    let same = same_name-true name (get_or (map name_of kinds) k name) (passes_at_first (same_name name) (map name_of kinds) name below) ∙ named in
    let may = subst (λ (n : KindName). right_by_name score n ≡ true) same right in
    subst (λ (x : Kind). IsSome x.double) (sym kind) (some-double (right_by_name score (name_of (get_or kinds k (record { mover = Near; cube = 1; owner = None })))) _ may)

-- ---- for all stakes

-- a player who has the right to double is in a kind that has it
pub kind-right : (stakes : RecordStakes) (standing : Standing) (player : Player) (cube : Cube) (starts : StartPairs)
    → Contains (names_of (game_stakes stakes standing)) (kind_of_turn stakes standing player cube) → has_right stakes standing player cube ≡ true
    → IsSome (kind_at (stakes_named (game_stakes stakes standing) starts) (kind_number (game_stakes stakes standing) (kind_of_turn stakes standing player cube))).double
kind-right (Unlimited Cubeless) standing player cube starts there right = cc
kind-right (Unlimited _) standing player cube starts there right = money-right _ _ player cube.owner right
kind-right (Match length) standing player cube starts there right =
    match-right (at_score standing) starts (kind_of_turn (Match length) standing player cube) there (named-right length standing player cube right)

-- and with beavers his double has two answers
pub kind-beavers : (stakes : RecordStakes) (standing : Standing) (player : Player) (cube : Cube) (starts : StartPairs) → records_beavers stakes ≡ true → has_right stakes standing player cube ≡ true
    → IfSome (kind_at (stakes_named (game_stakes stakes standing) starts) (kind_number (game_stakes stakes standing) (kind_of_turn stakes standing player cube))).double (λ double. 2 ≤ length double.answers.items)
kind-beavers (Unlimited MoneyBeavers) standing player cube starts beavers right = beaver-right _ _ _ player cube.owner right
kind-beavers (Unlimited JacobyBeavers) standing player cube starts beavers right = beaver-right _ _ _ player cube.owner right
kind-beavers _ standing player cube starts beavers right = absurd (cc)
