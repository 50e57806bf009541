-- What follows of a value that was checked, and of checks one after the other.
use Rattle.std.proofs.Common.{◌≡◌, Bool, true, false, not, ◌&&◌, Option, Some, None, Result, Ok, Err, IsErr, IsErrAnd, List, [], ◌∷◌, ◌++◌, if◌then◌else◌, refl, ap, arith}
use Rattle.std.specs.Option.{option_or}
use Rattle.std.proofs.lemmas.Bool.{false≢true}
use Rattle.base_head.specs.Faults.{Check, checked, first_wrong}
use Rattle.base_head.specs.declared.fault.BadFile.{BadFile}

pub checked-err : {A : Type 0} (wrong : Option BadFile) (value : A) (bad : BadFile) → checked wrong value ≡ Err bad → wrong ≡ Some bad
checked-err None value bad is = grind arith
checked-err (Some other) value bad is = grind arith

pub checked-ok : {A : Type 0} (wrong : Option BadFile) (value result : A) → checked wrong value ≡ Ok result → (wrong ≡ None) × (result ≡ value)
checked-ok None value result is = (refl, grind arith)
checked-ok (Some other) value result is = absurd (grind arith)

pub right-if : (right : Bool) (bad : BadFile) → (if not right then Some bad else None) ≡ None → right ≡ true
right-if true bad none = refl
right-if false bad none = absurd (grind arith)

wrong-first : (wrong : Bool) (bad : BadFile) (rest others all : Option BadFile) → all ≡ option_or rest others → (if wrong then Some bad else all) ≡ option_or (if wrong then Some bad else rest) others
wrong-first true bad rest others all same = refl
wrong-first false bad rest others all same = same

-- what is wrong first with checks and others: with the checks, else with the others
pub first_wrong-append : (checks others : List Check) → first_wrong (checks ++ others) ≡ option_or (first_wrong checks) (first_wrong others)
first_wrong-append [] others = refl
first_wrong-append (one ∷ checks) others =
    wrong-first one.wrong (record { fault = one.fault; at = one.at }) (first_wrong checks) (first_wrong others) (first_wrong (checks ++ others)) (first_wrong-append checks others)

pub none_or : {A : Type 0} (first others : Option A) → option_or first others ≡ None → (first ≡ None) × (others ≡ None)
none_or None others none = (refl, none)
none_or (Some x) others none = absurd (grind arith)

pub right-then : (right : Bool) (bad : BadFile) (rest : Option BadFile) → (if not right then Some bad else rest) ≡ None → (right ≡ true) × (rest ≡ None)
right-then true bad rest none = (refl, none)
right-then false bad rest none = absurd (grind arith)

pub both-right : (a b : Bool) → (a && b) ≡ true → (a ≡ true) × (b ≡ true)
both-right true true is = (refl, refl)
both-right true false is = absurd (false≢true is)
both-right false b is = absurd (false≢true is)

pub err-is : {A : Type 0} (result : Result A BadFile) (bad : BadFile) → IsErr result × IsErrAnd result (λ told. told ≡ bad) → result ≡ Err bad
err-is (Ok x) bad is = absurd (false≢true is.0)
err-is (Err other) bad is = ap (λ (b : BadFile). Err b) is.1
