-- The groups of tests that are joined to each other.
use Rattle.std.specs.Prelude.{◌≡◌, Bool, true, false, List, [], ◌∷◌, ◌++◌}
use Rattle.base_scan.specs.declared.condition.Test.{Test}
use Rattle.base_scan.specs.declared.condition.Part.{Part}
use Rattle.base_scan.specs.declared.condition.Part.TheVariants.{Bar, Asks}
use Rattle.base_scan.specs.declared.condition.Joined.{Joined}
use Rattle.base_scan.specs.declared.condition.Joint.{Joint}
use Rattle.base_scan.specs.declared.condition.Joint.TheVariants.{And, Or}

-- the tests that go on with a group, and the groups after it
pub record Grouped : Type 0 where
  pub rest : List Test
  pub later : List (List Test)

-- one more test before them
abbrev pub joined_to : Joint → Test → Grouped → Grouped
joined_to And test after = record { rest = test ∷ after.rest; later = after.later }
joined_to Or test after = record { rest = []; later = (test ∷ after.rest) ∷ after.later }

abbrev pub grouped : List Joined → Grouped
grouped [] = record { rest = []; later = [] }
grouped (one ∷ tests) = joined_to one.joint one.test (grouped tests)

abbrev pub groups_of : List Joined → List (List Test)
groups_of tests = (grouped tests).later

-- a test with this joint begins a group
abbrev pub begins_group : Joint → Bool
begins_group And = false
begins_group Or = true

-- a test that has to come begins a group
abbrev pub joint_of : Bool → Joint
joint_of true = Or
joint_of false = And

-- Tests that were read, and whether one has to come, before and after one more part: a bar says that a test has to come, and a test is put
-- behind the others.
abbrev pub TakesInPart : Part → List Joined → Bool → List Joined → Bool → Type 0
TakesInPart Bar old wanted new wants = (new ≡ old) × (wants ≡ true)
TakesInPart (Asks test) old wanted new wants =
    (new ≡ old ++ record { joint = joint_of wanted; test = test } ∷ []) × (wants ≡ false)
