-- Conditions as texts.
use Rattle.std.specs.Prelude.{◌≡◌, ◌≤◌, ◌<◌, ◌+◌, ◌^◌, ℕ, ℤ, pos, neg_ℤ, Bool, false, if◌then◌else◌, List, [], ◌∷◌, ◌++◌, length, map, take, flat_map, All, codes, decimal}
use Rattle.std.specs.List.{AllZip}
use Rattle.base_scan.specs.declared.condition.Test.{Test}
use Rattle.base_scan.specs.declared.condition.Field.{Field}
use Rattle.base_scan.specs.declared.condition.Field.TheVariants.{LowerWord, UpperWord, Width, KindNumber, Pips, OtherPips, Off, OtherOff, OnBar, OtherOnBar, Offered, Answered}
use Rattle.base_scan.specs.declared.condition.Comparison.{Comparison}
use Rattle.base_scan.specs.declared.condition.Comparison.TheVariants.{Below, Equal, Above}
use Rattle.base_scan.specs.declared.condition.Part.{Part}
use Rattle.base_scan.specs.declared.condition.Part.TheVariants.{Bar, Asks}

abbrev pub field_text : Field → List ℕ
field_text LowerWord = codes "lower"
field_text UpperWord = codes "upper"
field_text Width = codes "width"
field_text KindNumber = codes "kind"
field_text Pips = codes "pips"
field_text OtherPips = codes "opips"
field_text Off = codes "off"
field_text OtherOff = codes "ooff"
field_text OnBar = codes "bar"
field_text OtherOnBar = codes "obar"
field_text Offered = codes "offer"
field_text Answered = codes "answer"

abbrev pub comparison_text : Comparison → List ℕ
comparison_text Below = codes "<"
comparison_text Equal = codes "="
comparison_text Above = codes ">"

-- what stands before a test that is turned round
abbrev pub not_text : Bool → List ℕ
not_text negated = if negated then codes "!" else []

abbrev pub minus_text : Bool → List ℕ
minus_text minus = if minus then codes "-" else []

abbrev pub signed : Bool → ℕ → ℤ
signed minus count = if minus then neg_ℤ (pos count) else pos count

-- the text of a whole number: decimal digits, at most twelve, perhaps behind a minus
pub record IsNumberText (word : List ℕ) (number : ℤ) : Type 0 where
  pub minus : Bool
  pub count : ℕ
  pub short : count < 10 ^ 12
  pub text : word ≡ minus_text minus ++ decimal count
  pub value : number ≡ signed minus count

-- the text of a test: perhaps a !, a field, a comparison and a number
pub record IsTestText (word : List ℕ) (test : Test) : Type 0 where
  pub number : List ℕ
  pub value : IsNumberText number test.number
  pub text : word ≡ not_text test.negated
      ++ (field_text test.field ++ (comparison_text test.comparison ++ number))

-- a word of a condition is the bar between two groups, or that of a test
abbrev pub IsWordOf : Part → List ℕ → Type 0
IsWordOf Bar word = word ≡ codes "|"
IsWordOf (Asks test) word = IsTestText word test

abbrev pub behind_bar : List Test → List Part
behind_bar tests = Bar ∷ map Asks tests

abbrev pub tests_of : List (List Test) → List Test
tests_of groups = flat_map (λ group. group) groups

-- The words of a condition, by this grammar, with at most 64 tests. With one more bar before them, they are a bar and the tests of each group.
--     condition = group { "|" group }
--     group = test { test }
--     test = [ "!" ] field comparison number
pub record AreConditionWords (groups : List (List Test)) (all : List (List ℕ)) : Type 0 where
  pub some : 0 < length groups
  pub each : All (λ group. 0 < length group) groups
  pub few : length (tests_of groups) ≤ 64
  pub words : AllZip IsWordOf (flat_map behind_bar groups) (codes "|" ∷ all)

-- some condition's words begin with the same so many, where the end counts as a word
abbrev pub CanGoOn : List (List ℕ) → ℕ → Type 0
CanGoOn all number = (groups : List (List Test)) × (words : List (List ℕ))
    × AreConditionWords groups words × (take number words ≡ take number all)

-- the first word with which no condition's words can go on
pub record IsFirstBad (all : List (List ℕ)) (number : ℕ) : Type 0 where
  pub before : CanGoOn all number
  pub here : CanGoOn all (number + 1) → ⊥

-- a word may come next: a bar where no test has to come, and anything only where there is room for one more test
abbrev pub MayComeInCondition : Bool → Bool → Part → Type 0
MayComeInCondition wanted full Bar = (wanted ≡ false) × (full ≡ false)
MayComeInCondition wanted full (Asks test) = full ≡ false
