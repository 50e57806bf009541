-- Where the comparison of a test stands in its text.
use Rattle.std.specs.Prelude.{◌≡◌, ℕ, ◌==◌, Bool, not, IsTrue, List, ◌++◌}
use Rattle.std.specs.List.{list_all}
use Rattle.base_scan.specs.declared.condition.Comparison.{Comparison}
use Rattle.base_scan.specs.declared.condition.Comparison.TheVariants.{Below, Equal, Above}
use Rattle.base_scan.specs.Conditions.{comparison_text}

abbrev pub sign_of : Comparison → ℕ
sign_of Below = 60
sign_of Equal = 61
sign_of Above = 62

-- a text in which this byte doesn't stand
abbrev pub lacks : ℕ → List ℕ → Bool
lacks byte text = list_all (λ b. not (b == byte)) text

-- a text with no comparison in it
abbrev pub LacksSigns : List ℕ → Type 0
LacksSigns text = (comparison : Comparison) → IsTrue (lacks (sign_of comparison) text)

-- a text is a name, a comparison and a number, and there is no other comparison in the first and the last
pub record IsCutAt (whole name : List ℕ) (comparison : Comparison) (number : List ℕ) : Type 0 where
  pub before : LacksSigns name
  pub behind : LacksSigns number
  pub text : whole ≡ name ++ (comparison_text comparison ++ number)

-- these parts make up the text, and no others can with one comparison among them
pub record MakeUp (whole name : List ℕ) (comparison : Comparison) (number : List ℕ) : Type 0 where
  pub text : whole ≡ name ++ (comparison_text comparison ++ number)
  pub only :
      (other_name : List ℕ) (other : Comparison) (other_number : List ℕ)
      → IsCutAt whole other_name other other_number
      → (name ≡ other_name) × (comparison ≡ other) × (number ≡ other_number)
