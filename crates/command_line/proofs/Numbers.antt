-- Numbers in decimal digits.
use Rattle.std.proofs.Common.{◌≡◌, ◌≢◌, ℕ, zero, suc, ◌-◌, ◌*◌, ◌^◌, ◌<◌, ◌≤◌, ◌==◌, nat_eq, true, false, not, ◌||◌, List, [], ◌∷◌, length, slice_index, Option, Some, None, IfSome, Result, Ok, Err, option_map, refl, sym, ap, ◌∙◌, arith}
use Rattle.std.proofs.Math.Nat.{mul-lt-mul_of_pos_right, one-le-pow}
use Rattle.std.specs.List.{starts_with}
use Rattle.std.specs.Str.{all_ascii_digits}
use Rattle.std.specs.Str.Parse.{digits_value, ParsesUnsigned}
use Rattle.std.specs.Result.{result_ok}
use Rattle.std.proofs.lemmas.Bool.Decides.{nat_tests}
use Rattle.std.proofs.lemmas.Str.Parse.{IsNumeralModel, numerals_by_value, parse_plain, digits_value_short, tells_all_ascii_digits}
use Rattle.command_line.specs.Values.{number_within, long_number, millionths_behind}

-- a number is its digits
pub own : IsNumeralModel (λ ds. all_ascii_digits ds ≡ true) (digits_value 10)
own = numerals_by_value (λ ds. all_ascii_digits ds ≡ true) tells_all_ascii_digits

-- the first byte is another
pub first-differs : (c : ℕ) (word : List ℕ) → 1 ≤ c → starts_with nat_eq word (c ∷ []) ≡ false → slice_index word 0 ≢ c
first-differs c [] some differs is = omega (arith, some, is)
first-differs c (x ∷ xs) some differs is = grind (arith, nat_tests)

-- digits that write a number in the range
pub number-is : (word : List ℕ) (most n : ℕ) → all_ascii_digits word ≡ true → 0 < length word → slice_index word 0 ≢ 48
    → n ≡ digits_value 10 word → 1 ≤ n → n ≤ most → Some n ≡ number_within most word
number-is word most n digits some lead value least below = grind (arith, nat_tests)

-- none in the range
pub number-none : (word : List ℕ) (most : ℕ) → most < 2 ^ 32 → ((all_ascii_digits word ≡ true) × (0 < length word) × (digits_value 10 word < 2 ^ 32) → ⊥)
    → None ≡ number_within most word
number-none word most limit never = grind (arith, nat_tests)

leading : (word : List ℕ) → (1 < length word → slice_index word 0 ≢ 48) → (not (slice_index word 0 == 48) || length word == 1) ≡ true
leading [] lead = refl
leading (x ∷ []) lead = grind (arith, nat_tests)
leading (x ∷ y ∷ rest) lead = grind (arith, nat_tests)

-- what reading digits of at most 64 bits gives
pub long-is : {E : Type 0} (word : List ℕ) (r : Result ℕ E) → ParsesUnsigned 64 10 word r → slice_index word 0 ≢ 43 → (1 < length word → slice_index word 0 ≢ 48)
    → result_ok r ≡ long_number word
long-is {E = E} word (Ok n) parses sign lead = let found = parse_plain own {E = E} 64 word (Ok n) parses sign in grind (arith, nat_tests, leading word)
long-is {E = E} word (Err e) parses sign lead = let never = parse_plain own {E = E} 64 word (Err e) parses sign in grind (arith, nat_tests)

-- digits, and zeros for those up to the sixth
tens : (n : ℕ) → n ≤ 6 → 10 ^ n * 10 ^ (6 - n) ≡ 1000000
tens zero h = refl
tens (suc zero) h = refl
tens (suc (suc zero)) h = refl
tens (suc (suc (suc zero))) h = refl
tens (suc (suc (suc (suc zero)))) h = refl
tens (suc (suc (suc (suc (suc zero))))) h = refl
tens (suc (suc (suc (suc (suc (suc zero)))))) h = refl
tens (suc (suc (suc (suc (suc (suc (suc n))))))) h = absurd (omega arith)

-- at most six digits behind a point write less than a point
pub part-below : (digits : List ℕ) → all_ascii_digits digits ≡ true → length digits ≤ 6 → digits_value 10 digits * 10 ^ (6 - length digits) < 1000000
part-below digits all short =
    let below : digits_value 10 digits < 10 ^ length digits = digits_value_short own digits (length digits) all (omega arith) in
    let some : 0 < 10 ^ (6 - length digits) = one-le-pow (6 - length digits) 10 (omega arith) in
    omega (arith, mul-lt-mul_of_pos_right below some, tens (length digits) short)

-- what reading at most six digits gives
behind-is : {E : Type 0} (digits : List ℕ) (r : Result ℕ E) → ParsesUnsigned 64 10 digits r → slice_index digits 0 ≢ 43 → length digits ≤ 6
    → option_map (λ n. n * 10 ^ (6 - length digits)) (result_ok r) ≡ millionths_behind digits
behind-is {E = E} digits (Ok n) parses sign short = let found = parse_plain own {E = E} 64 digits (Ok n) parses sign in grind (arith, nat_tests)
behind-is {E = E} digits (Err e) parses sign short =
    let never = parse_plain own {E = E} 64 digits (Err e) parses sign in
    grind (arith, nat_tests, digits_value_short own digits 6)

pub behind-read : {E : Type 0} (digits bytes : List ℕ) (r : Result ℕ E) (found : Option ℕ) → bytes ≡ digits → starts_with nat_eq bytes (43 ∷ []) ≡ false → length digits ≤ 6 → ParsesUnsigned 64 10 digits r → found ≡ result_ok r
    → option_map (λ n. n * 10 ^ (6 - length digits)) found ≡ millionths_behind digits
behind-read digits bytes r found same plain short parses is =
    let sign = first-differs 43 digits (omega arith) (ap (λ bs. starts_with nat_eq bs (43 ∷ [])) (sym same) ∙ plain) in
    ap (option_map (λ n. n * 10 ^ (6 - length digits))) is ∙ behind-is digits r parses sign short

-- where there are any, they write less than a point
pub behind-below : (digits : List ℕ) → IfSome (millionths_behind digits) (λ n. n < 1000000)
behind-below digits = grind (arith, nat_tests, part-below digits)
