-- In a match the score stays one of it, and the cube where it has a kind.
use Rattle.std.proofs.Common.{◌≡◌, ◌≤◌, ◌<◌, ◌+◌, ◌-◌, ◌^◌, ℕ, zero, suc, Bool, true, false, not, ◌&&◌, ◌||◌, cond, nat_le, nat_lt, min, max, List, [], ◌∷◌, map, Option, Some, None, ◌⊎◌, inl, inr, refl, ap, subst, ◌∙◌, arith}
use Rattle.std.proofs.lemmas.Bool.{cases_lt, le-leb, lt-leb}
use Rattle.std.proofs.lemmas.Bool.Decides.{nat_tests}
use Rattle.std.specs.Prelude.{◌==◌}
use Rattle.std.specs.List.{filter, Contains}
use Rattle.std.specs.Option.{option_map}
use Rattle.move_rules.specs.Listing.{Among}
use Rattle.move_rules.proofs.Members.{Among-Contains}
use Rattle.cube_actions.specs.declared.name.KindName.TheVariants.{InMatch}
use Rattle.cube_actions.specs.declared.name.StakesName.TheVariants.{Match as OfMatch}
use Rattle.cube_actions.specs.declared.phase.Phase.{Phase}
use Rattle.cube_actions.specs.declared.phase.Phase.TheVariants.{Normal, Crawford, Post}
use Rattle.cube_actions.specs.declared.side.Side.{Side}
use Rattle.cube_actions.specs.declared.side.Side.TheVariants.{Near, Far}
use Rattle.cube_actions.specs.Ladder.{IsOfMatch}
use Rattle.cube_actions.specs.Matches.{next_phase}
use Rattle.cube_actions.specs.MatchKinds.{can_come, can_own, every_kind, match_kinds}
use Rattle.cube_actions.specs.Names.{name_of, names_of}
use Rattle.cube_actions.specs.Scores.{MatchScore, is_crawford, other_side, needs as side_needs}
use Rattle.game_record.specs.declared.cube.Cube.{Cube}
use Rattle.game_record.specs.declared.player.Player.{Player}
use Rattle.game_record.specs.declared.player.Player.TheVariants.{A, B}
use Rattle.game_record.specs.declared.record.RecordStakes.TheVariants.{Match}
use Rattle.game_record.specs.declared.standing.Standing.{Standing}
use Rattle.game_record.specs.Cube.{is_free_to, shows}
use Rattle.game_record.specs.Games.{has_right}
use Rattle.game_record.specs.Standings.{standing_after_win, first_standing, points_needed, at_score, side_of, IsInRange}
use Rattle.game_record.specs.Turns.{other_player, same_player}

-- ---- tests

pub both : (a b : Bool) → (a && b) ≡ true → (a ≡ true) × (b ≡ true)
both true true h = (refl, refl)
both true false h = cc
both false b h = cc

pub not-true : (b : Bool) → not b ≡ true → b ≡ false
not-true true h = cc
not-true false h = refl

pub same-players : (a b : Player) → same_player a b ≡ true → a ≡ b
same-players A A h = refl
same-players B B h = refl
same-players A B h = cc
same-players B A h = cc

pub other-other : (player : Player) → other_player (other_player player) ≡ player
other-other A = refl
other-other B = refl

-- ---- sides

pub side-needs : (standing : Standing) (player : Player) → side_needs (at_score standing) (side_of standing player) ≡ points_needed standing player
side-needs standing player = elim (cases_lt standing.b standing.a) [
  | inl less ↦ far player less
  | inr more ↦ near player more
] where
  far : (player : Player) → standing.b < standing.a → side_needs (at_score standing) (side_of standing player) ≡ points_needed standing player
  far A less = let test : nat_le standing.a standing.b ≡ false = lt-leb standing.a standing.b less in rw test (omega arith)
  far B less = let test : nat_le standing.a standing.b ≡ false = lt-leb standing.a standing.b less in rw test (omega arith)

  near : (player : Player) → standing.a ≤ standing.b → side_needs (at_score standing) (side_of standing player) ≡ points_needed standing player
  near A more = let test : nat_le standing.a standing.b ≡ true = le-leb standing.a standing.b more in rw test (omega arith)
  near B more = let test : nat_le standing.a standing.b ≡ true = le-leb standing.a standing.b more in rw test (omega arith)

pub other-side : (standing : Standing) (player : Player) → other_side (side_of standing player) ≡ side_of standing (other_player player)
other-side standing player = go player (nat_le standing.a standing.b) where
  go : (player : Player) (b : Bool) → other_side (cond (same_player player (cond b A B)) Near Far) ≡ cond (same_player (other_player player) (cond b A B)) Near Far
  go A true = refl
  go A false = refl
  go B true = refl
  go B false = refl

-- ---- the score

-- unless the match is over, the score is one of it
abbrev pub Stands : ℕ → Standing → Type 0
Stands length standing = 1 ≤ standing.a → 1 ≤ standing.b → IsOfMatch length (at_score standing)

-- the score of two needs
abbrev score : ℕ → ℕ → Phase → MatchScore
score x y phase = record { near = min x y; far = max x y; phase = phase }

normal-score : (length x y : ℕ) → 2 ≤ x → 2 ≤ y → x ≤ 5 → y ≤ 5 → x ≤ length → y ≤ length → IsOfMatch length (score x y Normal)
normal-score length x y a b c d e f = record {
  valid = record { needs = record { from = omega arith; in_order = omega arith; to = omega arith }; fits = record { normal = λ _. omega arith; crawford = λ e. cc; post = λ e. cc } };
  within = omega arith;
  won = λ e. cc;
}

crawford-score : (length x y : ℕ) → min x y ≡ 1 → 2 ≤ max x y → x ≤ 5 → y ≤ 5 → x ≤ length → y ≤ length → IsOfMatch length (score x y Crawford)
crawford-score length x y a b c d e f = record {
  valid = record { needs = record { from = omega arith; in_order = omega arith; to = omega arith }; fits = record { normal = λ e. cc; crawford = λ _. (a, b); post = λ e. cc } };
  within = omega arith;
  won = λ e. cc;
}

post-score : (length x y : ℕ) → min x y ≡ 1 → x ≤ 5 → y ≤ 5 → x ≤ length → y ≤ length → max x y ≤ max 1 (length - 1) → IsOfMatch length (score x y Post)
post-score length x y a c d e f won = record {
  valid = record { needs = record { from = omega arith; in_order = omega arith; to = omega arith }; fits = record { normal = λ e. cc; crawford = λ e. cc; post = λ _. a } };
  within = omega arith;
  won = λ _. won;
}

pub first-stands : (length : ℕ) → 1 ≤ length → length ≤ 5 → Stands length (first_standing (Match length))
first-stands zero from to = absurd (omega arith)
first-stands (suc zero) from to = λ a b. post-score 1 1 1 refl (omega arith) (omega arith) (omega arith) (omega arith) (omega arith)
first-stands (suc (suc zero)) from to = λ a b. normal-score 2 2 2 (omega arith) (omega arith) (omega arith) (omega arith) (omega arith) (omega arith)
first-stands (suc (suc (suc zero))) from to = λ a b. normal-score 3 3 3 (omega arith) (omega arith) (omega arith) (omega arith) (omega arith) (omega arith)
first-stands (suc (suc (suc (suc zero)))) from to = λ a b. normal-score 4 4 4 (omega arith) (omega arith) (omega arith) (omega arith) (omega arith) (omega arith)
first-stands (suc (suc (suc (suc (suc zero))))) from to = λ a b. normal-score 5 5 5 (omega arith) (omega arith) (omega arith) (omega arith) (omega arith) (omega arith)
first-stands (suc (suc (suc (suc (suc (suc n)))))) from to = absurd (omega arith)

-- who has won some points needs fewer, and the score is one of the match
won-score : (length x y less : ℕ) (phase : Phase) → IsOfMatch length (score x y phase) → 1 ≤ less → less < x → 1 ≤ y → IsOfMatch length (score less y (next_phase phase less y))
won-score length x y less Normal was low fewer some =
    let both_low : 2 ≤ min x y = was.valid.fits.normal refl in
    let to = was.valid.needs.to in
    let within = was.within in
    elim (cases_lt 1 less) [
      | inl more ↦ (let test : (less == 1 || y == 1) ≡ false = grind (arith, nat_tests) in
          rw test (normal-score length less y (omega arith) (omega arith) (omega arith) (omega arith) (omega arith) (omega arith)))
      | inr one ↦ (let test : (less == 1 || y == 1) ≡ true = grind (arith, nat_tests) in
          rw test (crawford-score length less y (omega arith) (omega arith) (omega arith) (omega arith) (omega arith) (omega arith)))
    ]
won-score length x y less Crawford was low fewer some =
    let parts = was.valid.fits.crawford refl in
    let one : min x y ≡ 1 = parts.0 in
    let to = was.valid.needs.to in
    let within = was.within in
    post-score length less y (omega arith) (omega arith) (omega arith) (omega arith) (omega arith) (omega arith)
won-score length x y less Post was low fewer some =
    let one : min x y ≡ 1 = was.valid.fits.post refl in
    let to = was.valid.needs.to in
    let within = was.within in
    let won : max x y ≤ max 1 (length - 1) = was.won refl in
    post-score length less y (omega arith) (omega arith) (omega arith) (omega arith) (omega arith) (omega arith)

-- the same with the sides exchanged
turned-score : (length x y : ℕ) (phase : Phase) → IsOfMatch length (score x y phase) → IsOfMatch length (score y x phase)
turned-score length x y phase was =
    let near : min x y ≡ min y x = omega arith in
    let far : max x y ≡ max y x = omega arith in
    subst (λ (s : MatchScore). IsOfMatch length s) (λ i. record { near = near i; far = far i; phase = phase }) was

or-turned : (a b : Bool) → (a || b) ≡ (b || a)
or-turned true true = refl
or-turned true false = refl
or-turned false true = refl
or-turned false false = refl

phase-turned : (phase : Phase) (x y : ℕ) → next_phase phase x y ≡ next_phase phase y x
phase-turned Normal x y = ap (λ b. cond b Crawford Normal) (or-turned (x == 1) (y == 1))
phase-turned Crawford x y = refl
phase-turned Post x y = refl

pub won-stands : (length : ℕ) (standing : Standing) (player : Player) (won : ℕ) → Stands length standing → 1 ≤ standing.a → 1 ≤ standing.b → 1 ≤ won → Stands length (standing_after_win standing player won)
won-stands length standing A won was a b some = λ low high.
    won-score length standing.a standing.b (standing.a - won) standing.phase (was a b) low (omega arith) b
won-stands length standing B won was a b some = λ low high.
    subst (λ phase. IsOfMatch length (score standing.a (standing.b - won) phase)) (phase-turned standing.phase (standing.b - won) standing.a)
    (turned-score length (standing.b - won) standing.a (next_phase standing.phase (standing.b - won) standing.a)
    (won-score length standing.b standing.a (standing.b - won) standing.phase (turned-score length standing.a standing.b standing.phase (was a b)) high (omega arith) a))

pub won-in-range : (standing : Standing) (player : Player) (won : ℕ) → IsInRange standing → IsInRange (standing_after_win standing player won)
won-in-range standing A won h = (omega (arith, h.0), h.1)
won-in-range standing B won h = (h.0, omega (arith, h.1))

-- ---- the cube

-- the cube is where it can come at the score: centred at 1, or a player's at 2, 4 or 8
abbrev pub IsPlace : Standing → ℕ → Option Player → Type 0
IsPlace standing turns None = turns ≡ 0
IsPlace standing turns (Some owner) =
    (1 ≤ turns) × (turns ≤ 3) × (is_crawford standing.phase ≡ false) × (can_own (at_score standing) (2 ^ turns) (side_of standing owner) ≡ true)

pub few-turns : (standing : Standing) (turns : ℕ) (owner : Option Player) → IsPlace standing turns owner → turns ≤ 3
few-turns standing turns None h = omega (arith, h)
few-turns standing turns (Some owner) h = h.1

-- a side that turns the cube hands it to the other side
own-next : (score : MatchScore) (side : Side) (turns : ℕ) → turns ≤ 2 → nat_lt (2 ^ turns) (side_needs score side) ≡ true → (turns ≡ 0) ⊎ (can_own score (2 ^ turns) side ≡ true) → can_own score (2 ^ (turns + 1)) (other_side side) ≡ true
own-next score Near zero few more was = more
own-next score Far zero few more was = more
own-next score Near (suc zero) few more (inl e) = absurd (omega (arith, e))
own-next score Far (suc zero) few more (inl e) = absurd (omega (arith, e))
own-next score Near (suc zero) few more (inr own) = rw (more, own) refl
own-next score Far (suc zero) few more (inr own) = rw (more, own) refl
own-next score Near (suc (suc zero)) few more (inl e) = absurd (omega (arith, e))
own-next score Far (suc (suc zero)) few more (inl e) = absurd (omega (arith, e))
own-next score Near (suc (suc zero)) few more (inr own) = rw (more, own) refl
own-next score Far (suc (suc zero)) few more (inr own) = rw (more, own) refl
own-next score side (suc (suc (suc n))) few more was = absurd (omega arith)

-- ---- the kind

filter-among : {X : Type 0} (test : X → Bool) (x : X) (xs : List X) → test x ≡ true → Among x xs → Among x (filter test xs)
filter-among test x [] pass h = absurd h
filter-among test x (y ∷ xs) pass (inl e) = subst (λ y. Among x (filter test (y ∷ xs))) e (rw pass (inl refl))
filter-among test x (y ∷ xs) pass (inr h) = elim (test y) as (λ b. Among x (cond b (y ∷ filter test xs) (filter test xs))) [
  | true ↦ inr (filter-among test x xs pass h)
  | false ↦ filter-among test x xs pass h
]

map-among : {X Y : Type 0} (f : X → Y) (x : X) (xs : List X) → Among x xs → Among (f x) (map f xs)
map-among f x [] h = absurd h
map-among f x (y ∷ xs) (inl e) = inl (ap f e)
map-among f x (y ∷ xs) (inr h) = inr (map-among f x xs h)

-- centred at 1, or owned at 2, 4 or 8
abbrev MatchPlace : ℕ → Option Side → Type 0
MatchPlace turns None = turns ≡ 0
MatchPlace turns (Some owner) = (1 ≤ turns) × (turns ≤ 3)

pub place-known : (mover : Side) (turns : ℕ) (owner : Option Side) → MatchPlace turns owner → Among (record { mover = mover; cube = 2 ^ turns; owner = owner }) every_kind
place-known Near zero None h = inl refl
place-known Far zero None h = inr (inl refl)
place-known mover (suc n) None h = absurd (omega (arith, h))
place-known Near (suc zero) (Some Near) h = inr (inr (inl refl))
place-known Far (suc zero) (Some Near) h = inr (inr (inr (inl refl)))
place-known Near (suc zero) (Some Far) h = inr (inr (inr (inr (inl refl))))
place-known Far (suc zero) (Some Far) h = inr (inr (inr (inr (inr (inl refl)))))
place-known Near (suc (suc zero)) (Some Near) h = inr (inr (inr (inr (inr (inr (inl refl))))))
place-known Far (suc (suc zero)) (Some Near) h = inr (inr (inr (inr (inr (inr (inr (inl refl)))))))
place-known Near (suc (suc zero)) (Some Far) h = inr (inr (inr (inr (inr (inr (inr (inr (inl refl))))))))
place-known Far (suc (suc zero)) (Some Far) h = inr (inr (inr (inr (inr (inr (inr (inr (inr (inl refl)))))))))
place-known Near (suc (suc (suc zero))) (Some Near) h = inr (inr (inr (inr (inr (inr (inr (inr (inr (inr (inl refl))))))))))
place-known Far (suc (suc (suc zero))) (Some Near) h = inr (inr (inr (inr (inr (inr (inr (inr (inr (inr (inr (inl refl)))))))))))
place-known Near (suc (suc (suc zero))) (Some Far) h = inr (inr (inr (inr (inr (inr (inr (inr (inr (inr (inr (inr (inl refl))))))))))))
place-known Far (suc (suc (suc zero))) (Some Far) h = inr (inr (inr (inr (inr (inr (inr (inr (inr (inr (inr (inr (inr (inl refl)))))))))))))
place-known mover zero (Some owner) h = absurd (omega (arith, h.0))
place-known mover (suc (suc (suc (suc n)))) (Some owner) h = absurd (omega (arith, h.1))

-- the place of the cube has a kind for either player
pub kinds-known : (standing : Standing) (player : Player) (turns : ℕ) (owner : Option Player) → IsPlace standing turns owner
    → Contains (names_of (OfMatch (at_score standing))) (InMatch (side_of standing player) (2 ^ turns) (option_map (side_of standing) owner))
unfolding match_kinds
kinds-known standing player turns None h =
    let kinds = filter (can_come (at_score standing)) every_kind in
    Among-Contains _ (map name_of kinds) (map-among name_of (record { mover = side_of standing player; cube = 2 ^ turns; owner = None }) kinds (filter-among (can_come (at_score standing)) (record { mover = side_of standing player; cube = 2 ^ turns; owner = None }) every_kind refl
    (place-known (side_of standing player) turns None h)))
kinds-known standing player turns (Some owner) h =
    let kinds = filter (can_come (at_score standing)) every_kind in
    let side = side_of standing owner in
    Among-Contains _ (map name_of kinds) (map-among name_of (record { mover = side_of standing player; cube = 2 ^ turns; owner = Some side }) kinds (filter-among (can_come (at_score standing)) (record { mover = side_of standing player; cube = 2 ^ turns; owner = Some side }) every_kind (rw (h.2, h.3) refl)
    (place-known (side_of standing player) turns (Some side) (h.0, h.1))))

-- ---- a take

small-turns : (turns points : ℕ) → turns ≤ 3 → points ≤ 5 → nat_lt (2 ^ turns) points ≡ true → turns ≤ 2
small-turns zero points few low h = omega arith
small-turns (suc zero) points few low h = omega arith
small-turns (suc (suc zero)) points few low h = omega arith
small-turns (suc (suc (suc zero))) points few low h = grind (arith, nat_tests)
small-turns (suc (suc (suc (suc n)))) points few low h = absurd (omega arith)

few-needed : (standing : Standing) (player : Player) → IsInRange standing → points_needed standing player ≤ 5
few-needed standing A h = h.0
few-needed standing B h = h.1

owned-already : (standing : Standing) (doubler : Player) (turns : ℕ) (owner : Option Player) → IsPlace standing turns owner → is_free_to doubler owner ≡ true → (turns ≡ 0) ⊎ (can_own (at_score standing) (2 ^ turns) (side_of standing doubler) ≡ true)
owned-already standing doubler turns None place free = inl place
owned-already standing doubler turns (Some owner) place free =
    inr (subst (λ (p : Player). can_own (at_score standing) (2 ^ turns) (side_of standing p) ≡ true) (same-players owner doubler free) place.3)

-- where a player has the right to double, the other may come to own the cube
pub taken-place : (length : ℕ) (standing : Standing) (player : Player) (cube : Cube) → IsInRange standing → IsPlace standing cube.turns cube.owner → has_right (Match length) standing (other_player player) cube ≡ true → IsPlace standing (cube.turns + 1) (Some player)
taken-place length standing player cube range place right =
    let doubler = other_player player in
    let first = both (not (is_crawford standing.phase) && is_free_to doubler cube.owner) (nat_lt (shows cube) (points_needed standing doubler)) right in
    let second = both (not (is_crawford standing.phase)) (is_free_to doubler cube.owner) first.0 in
    let normal : is_crawford standing.phase ≡ false = not-true (is_crawford standing.phase) second.0 in
    let more : nat_lt (shows cube) (points_needed standing doubler) ≡ true = first.1 in
    let few : cube.turns ≤ 2 = small-turns cube.turns (points_needed standing doubler) (few-turns standing cube.turns cube.owner place) (few-needed standing doubler range) more in
    let by_side : nat_lt (2 ^ cube.turns) (side_needs (at_score standing) (side_of standing doubler)) ≡ true = rw (side-needs standing doubler) more in
    let own = own-next (at_score standing) (side_of standing doubler) cube.turns few by_side (owned-already standing doubler cube.turns cube.owner place second.1) in
    let to : other_side (side_of standing doubler) ≡ side_of standing player = other-side standing doubler ∙ ap (side_of standing) (other-other player) in
    (omega arith, omega (arith, few), normal, subst (λ (s : Side). can_own (at_score standing) (2 ^ (cube.turns + 1)) s ≡ true) to own)
