-- Stakes that are no match: without a cube, or with one, by the Jacoby rule or without it, with beavers or without them.
use Rattle.std.specs.Prelude.{Bool, true, false, List, [], ◌∷◌, Some, None}
use Rattle.directed_fixed.specs.Bounds.{Bounds}
use Rattle.cube_actions.specs.Stakes.{Terms, exactly, point_units}
use Rattle.cube_actions.specs.declared.kind.Kind.{Kind}
use Rattle.cube_actions.specs.declared.kind.Double.{Double}
use Rattle.cube_actions.specs.declared.kind.Taken.{Taken}
use Rattle.cube_actions.specs.declared.name.MoneyRule.{MoneyRule}
use Rattle.cube_actions.specs.declared.name.MoneyRule.TheVariants.{Cubeless, Money, Jacoby, MoneyBeavers, JacobyBeavers}
use Rattle.cube_actions.specs.declared.name.StakesName.TheVariants.{Unlimited}

-- a gammon counts two points and a backgammon three
abbrev pub all_count : List Bounds
all_count = exactly 1 ∷ exactly 2 ∷ exactly 3 ∷ []

-- gammons and backgammons count single
abbrev pub all_single : List Bounds
all_single = exactly 1 ∷ exactly 1 ∷ exactly 1 ∷ []

-- the one kind of a game without a cube
abbrev pub alone : Kind
alone = record { next = 0; win = all_count; double = None }

-- the cube is turned once and goes to the other side, or is turned once more and goes there
abbrev pub take : Taken
take = record { kind = 2; factor = 2 }

abbrev pub beaver : Taken
beaver = record { kind = 2; factor = 4 }

-- a double that is passed wins a point
abbrev pub double_of : List Taken → Double
double_of answers = record { pass = exactly 1; answers = record { items = answers } }

-- The three places of the cube: 0 centred, 1 the mover's, 2 the other side's. What is the mover's is the other side's once the turn
-- has passed. The side whose cube it is may double, and both may while it is centred.
abbrev pub cube_kinds : List Bounds → List Taken → List Kind
cube_kinds centred_wins answers =
    record { next = 0; win = centred_wins; double = Some (double_of answers) }
    ∷ record { next = 2; win = all_count; double = Some (double_of answers) }
    ∷ record { next = 1; win = all_count; double = None }
    ∷ []

-- The kinds of state by each rule. By the Jacoby rule all games count single while the cube is centred.
abbrev pub kinds_by : MoneyRule → List Kind
kinds_by Cubeless = alone ∷ []
kinds_by Money = cube_kinds all_count (take ∷ [])
kinds_by Jacoby = cube_kinds all_single (take ∷ [])
kinds_by MoneyBeavers = cube_kinds all_count (take ∷ beaver ∷ [])
kinds_by JacobyBeavers = cube_kinds all_single (take ∷ beaver ∷ [])

-- what games are played for by a rule of money
abbrev pub unlimited : MoneyRule → Terms
unlimited rule = record { kinds = kinds_by rule; bound = point_units 3; name = Unlimited rule }

-- a game without a cube: a single win is a point, a gammon two, a backgammon three
abbrev pub cubeless : Terms
cubeless = unlimited Cubeless

abbrev pub has_beavers : MoneyRule → Bool
has_beavers MoneyBeavers = true
has_beavers JacobyBeavers = true
has_beavers _ = false
