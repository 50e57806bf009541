-- The texts of tests.
use Rattle.std.proofs.Common.{◌≡◌, ◌≢◌, ◌<◌, ◌≤◌, ◌^◌, ◌%◌, ◌+◌, ◌⊎◌, ◌&&◌, ℕ, zero, suc, ℤ, pos, Bool, true, false, eqb, nat_eq, List, [], ◌∷◌, ◌++◌, length, codes, decimal, get_or, slice_index, Option, Some, None, Result, Ok, Bor, inl, inr, refl, sym, ap, subst, ◌∙◌, length-append, if◌then◌else◌, arith}
use Rattle.std.specs.List.{starts_with}
use Rattle.std.specs.Option.{MatchOption}
use Rattle.std.specs.Str.{all_ascii_digits}
use Rattle.std.specs.Str.Parse.{digits_value, ParsesUnsigned}
use Rattle.std.proofs.lemmas.Bool.{false≢true}
use Rattle.std.proofs.lemmas.Bool.Decides.{nat_tests, eqb_tells}
use Rattle.std.proofs.lemmas.Fmt.{decimal_by_steps, decimal_digit, decimal_nonempty, decimal-digits_value, digits_decimal, first_decimal, parse-decimal}
use Rattle.std.proofs.lemmas.Str.Parse.{IsNumeralModel, not_in_digits, numerals_by_value, parse_plain, tells_all_ascii_digits}
use Rattle.std.proofs.lemmas.Str.Pattern.{IsSplitOnceResult, split_after, split_parts}
use Rattle.position_text.proofs.PlaceTexts.{both-true, lacks-append, lacks-at, lacks-middle}
use Rattle.base_scan.specs.declared.condition.Comparison.{Comparison}
use Rattle.base_scan.specs.declared.condition.Comparison.TheVariants.{Below, Equal, Above}
use Rattle.base_scan.specs.declared.condition.Test.{Test}
use Rattle.base_scan.specs.declared.condition.Field.{Field}
use Rattle.base_scan.specs.declared.condition.Field.TheVariants.{LowerWord, UpperWord, Width, KindNumber, Pips, OtherPips, Off, OtherOff, OnBar, OtherOnBar, Offered, Answered}
use Rattle.base_scan.specs.Conditions.{IsNumberText, IsTestText, comparison_text, field_text, minus_text, not_text}
use Rattle.base_scan.specs.Cuts.{MakeUp, IsCutAt, LacksSigns, lacks, sign_of}

-- ---- where the comparison stands

sign-text : (c : Comparison) (text : List ℕ) → comparison_text c ++ text ≡ sign_of c ∷ text
sign-text Below text = refl
sign-text Equal text = refl
sign-text Above text = refl

sign-small : (c : Comparison) → sign_of c < 128
sign-small Below = omega arith
sign-small Equal = omega arith
sign-small Above = omega arith

one-sign : (c d : Comparison) → (c ≡ d) ⊎ (eqb (sign_of d) (sign_of c) ≡ false)
one-sign Below Below = inl refl
one-sign Below Equal = inr refl
one-sign Below Above = inr refl
one-sign Equal Below = inr refl
one-sign Equal Equal = inl refl
one-sign Equal Above = inr refl
one-sign Above Below = inr refl
one-sign Above Equal = inr refl
one-sign Above Above = inl refl

other-lacks : (c d : Comparison) (name number : List ℕ) → eqb (sign_of d) (sign_of c) ≡ false → LacksSigns name → LacksSigns number → lacks (sign_of c) (name ++ sign_of d ∷ number) ≡ true
other-lacks c d name number apart before behind =
    lacks-append (sign_of c) name (sign_of d ∷ number) (before c) (rw apart (behind c))

cut-text : (text name : List ℕ) (d : Comparison) (number : List ℕ) → IsCutAt text name d number → text ≡ name ++ sign_of d ∷ number
cut-text text name d number is = is.text ∙ ap (λ (xs : List ℕ). name ++ xs) (sign-text d number)

module _ (c : Comparison) (text : List ℕ) (r : Option (Bor (List ℕ) × Bor (List ℕ))) (cases : IsSplitOnceResult (sign_of c) text r) where
  after : (name number : List ℕ) → IsCutAt text name c number → MatchOption r ⊥ (λ x. (x.0.now ≡ name) × (x.1.now ≡ number))
  after name number is = split_after (sign_of c) text name number r cases (sign-small c) (cut-text text name c number is) (lacks-at (sign_of c) name (is.before c))

  pub parts-none : r ≡ None → (name number : List ℕ) → IsCutAt text name c number → ⊥
  parts-none none name number is = rw none at (after name number is)

  pub parts-found : (name number : Bor (List ℕ)) → r ≡ Some (name, number) → MakeUp text name.now c number.now
  parts-found name number some =
      let parts = rw some at (split_parts (sign_of c) text r cases (sign-small c)) in
      record {
        text = parts.0 ∙ ap (λ (xs : List ℕ). name.now ++ xs) (sym (sign-text c number.now));
        only = λ other_name other other_number is. elim (one-sign c other) [
          | inl same ↦ (
              let here = subst (λ (d : Comparison). IsCutAt text other_name d other_number) (sym same) is in
              let found = rw some at (after other_name other_number here) in
              (found.0, same, found.1))
          | inr apart ↦ absurd (lacks-middle (sign_of c) name.now number.now
              (subst (λ (xs : List ℕ). lacks (sign_of c) xs ≡ true) (sym (cut-text text other_name other other_number is) ∙ parts.0)
              (other-lacks c other other_name other_number apart is.before is.behind)))
        ];
      }

pub none-cut : (text : List ℕ) (r s t : Option (Bor (List ℕ) × Bor (List ℕ))) → IsSplitOnceResult 60 text r → IsSplitOnceResult 61 text s → IsSplitOnceResult 62 text t
    → r ≡ None → s ≡ None → t ≡ None → (name : List ℕ) (c : Comparison) (number : List ℕ) → IsCutAt text name c number → ⊥
none-cut text r s t a b d x y z name Below number is = parts-none Below text r a x name number is
none-cut text r s t a b d x y z name Equal number is = parts-none Equal text s b y name number is
none-cut text r s t a b d x y z name Above number is = parts-none Above text t d z name number is

-- ---- numbers

pub own : IsNumeralModel (λ ds. all_ascii_digits ds ≡ true) (digits_value 10)
own = numerals_by_value (λ ds. all_ascii_digits ds ≡ true) tells_all_ascii_digits

pub first-differs : (c : ℕ) (word : List ℕ) → 1 ≤ c → starts_with nat_eq word (c ∷ []) ≡ false → slice_index word 0 ≢ c
first-differs c [] some differs is = omega (arith, some, is)
first-differs c (x ∷ xs) some differs is = elim (eqb_tells c x) [ inl same ↦ false≢true (sym differs ∙ ap (λ b. b && true) same.0) | inr other ↦ other.1 (sym is) ]

pub first-is : (c : ℕ) (word : List ℕ) → starts_with nat_eq word (c ∷ []) ≡ true → (0 < length word) × (slice_index word 0 ≡ c)
first-is c [] is = absurd (cc)
first-is c (x ∷ xs) is = elim (eqb_tells c x) [ inl same ↦ (omega arith, sym same.1) | inr other ↦ absurd (false≢true (sym (ap (λ b. b && true) other.0) ∙ is)) ]

-- a number begins with a digit, and with a 0 only where that is all
pub no-plus : (n : ℕ) (word : List ℕ) → n < 10 ^ 12 → word ≡ decimal n → 0 < length word → slice_index word 0 ≡ 43 → ⊥
no-plus n word small e some plus =
    not_in_digits own word 43 (subst (λ (ds : List ℕ). all_ascii_digits ds ≡ true) (sym e) (digits_decimal own n (omega arith))) (λ within. omega (arith, within.0, within.1)) 0 some plus

pub no-zero : (n : ℕ) (word : List ℕ) → n < 10 ^ 12 → word ≡ decimal n → 1 < length word → slice_index word 0 ≡ 48 → ⊥
no-zero zero word small e long lead = let one : word ≡ 48 ∷ [] = e ∙ decimal_digit 0 (omega arith) in omega (arith, ap length one, long)
no-zero (suc n) word small e long lead =
    let first : 48 < get_or word 0 0 = subst (λ (ds : List ℕ). 48 < get_or ds 0 0) (sym e) (first_decimal (suc n) (omega arith) (omega arith)) in
    omega (arith, first, lead)

pub count-is : {E : Type 0} (word : List ℕ) (r : Result ℕ E) (n : ℕ) → ParsesUnsigned 64 10 word r → r ≡ Ok n → slice_index word 0 ≢ 43 → (1 < length word → slice_index word 0 ≢ 48) → word ≡ decimal n
count-is {E = E} word r n parses is sign lead =
    let found = rw is at (parse_plain own {E = E} 64 word r parses sign) in
    sym (ap decimal found.1 ∙ decimal-digits_value own word found.0.0 found.0.1 (one-digit word lead) found.0.2) where
      one-digit : (word : List ℕ) → (1 < length word → slice_index word 0 ≢ 48) → get_or word 0 0 ≡ 48 → length word ≡ 1
      one-digit [] lead e = absurd (omega (arith, e))
      one-digit (x ∷ []) lead e = refl
      one-digit (x ∷ y ∷ rest) lead e = absurd (lead (omega arith) e)

pub count-only : {E : Type 0} (word : List ℕ) (r : Result ℕ E) (n : ℕ) → ParsesUnsigned 64 10 word r → n < 10 ^ 12 → word ≡ decimal n → r ≡ Ok n
count-only {E = E} word r n parses small e = parse-decimal {E = E} 64 n word r (omega arith) (omega arith) e parses

-- ---- which bytes stand in a test's text

decimal-lacks : (byte n : ℕ) → (byte < 48) ⊎ (57 < byte) → n < 2 ^ 64 → lacks byte (decimal n) ≡ true
decimal-lacks byte n apart = decimal_by_steps (λ n ds. lacks byte ds ≡ true) (λ n small. one n small) (λ n ds big h. lacks-append byte ds ((48 + n % 10) ∷ []) h (one (n % 10) (omega arith))) n where
  one : (n : ℕ) → n < 10 → lacks byte ((48 + n) ∷ []) ≡ true
  one n small = let other : eqb (48 + n) byte ≡ false = grind (arith, nat_tests, apart) in rw other refl

minus-lacks : (byte : ℕ) (minus : Bool) → eqb 45 byte ≡ false → lacks byte (minus_text minus) ≡ true
minus-lacks byte true h = rw h refl
minus-lacks byte false h = refl

not-lacks : (byte : ℕ) (negated : Bool) → eqb 33 byte ≡ false → lacks byte (not_text negated) ≡ true
not-lacks byte true h = rw h refl
not-lacks byte false h = refl

pub number-lacks : (byte : ℕ) (word : List ℕ) (number : ℤ) → IsNumberText word number → eqb 45 byte ≡ false → (byte < 48) ⊎ (57 < byte) → lacks byte word ≡ true
number-lacks byte word number is minus apart =
    subst (λ (xs : List ℕ). lacks byte xs ≡ true) (sym is.text)
    (lacks-append byte (minus_text is.minus) (decimal is.count) (minus-lacks byte is.minus minus) (decimal-lacks byte is.count apart (omega (arith, is.short))))

-- a field's text has no space, no !, no comparison and no bar
abbrev is_plain : List ℕ → Bool
is_plain text = lacks 32 text && (lacks 33 text && (lacks 60 text && (lacks 61 text && (lacks 62 text && lacks 124 text))))

field-plain : (f : Field) → is_plain (field_text f) ≡ true
field-plain LowerWord = refl
field-plain UpperWord = refl
field-plain Width = refl
field-plain KindNumber = refl
field-plain Pips = refl
field-plain OtherPips = refl
field-plain Off = refl
field-plain OtherOff = refl
field-plain OnBar = refl
field-plain OtherOnBar = refl
field-plain Offered = refl
field-plain Answered = refl

pub record IsPlain (text : List ℕ) : Type 0 where
  pub space : lacks 32 text ≡ true
  pub mark : lacks 33 text ≡ true
  pub signs : LacksSigns text
  pub bar : lacks 124 text ≡ true

pub plain-field : (f : Field) → IsPlain (field_text f)
plain-field f =
    let one = both-true _ _ (field-plain f) in
    let two = both-true _ _ one.1 in
    let three = both-true _ _ two.1 in
    let four = both-true _ _ three.1 in
    let five = both-true _ _ four.1 in
    record { space = one.0; mark = two.0; signs = signs three.0 four.0 five.0; bar = five.1 } where
      signs : lacks 60 (field_text f) ≡ true → lacks 61 (field_text f) ≡ true → lacks 62 (field_text f) ≡ true → LacksSigns (field_text f)
      signs a b d Below = a
      signs a b d Equal = b
      signs a b d Above = d

number-signs : (word : List ℕ) (number : ℤ) → IsNumberText word number → LacksSigns word
number-signs word number is Below = number-lacks 60 word number is refl (inr (omega arith))
number-signs word number is Equal = number-lacks 61 word number is refl (inr (omega arith))
number-signs word number is Above = number-lacks 62 word number is refl (inr (omega arith))

sign-lacks : (byte : ℕ) (c : Comparison) → (byte < 60) ⊎ (62 < byte) → lacks byte (comparison_text c) ≡ true
sign-lacks byte Below apart = let other : eqb 60 byte ≡ false = grind (arith, nat_tests, apart) in rw other refl
sign-lacks byte Equal apart = let other : eqb 61 byte ≡ false = grind (arith, nat_tests, apart) in rw other refl
sign-lacks byte Above apart = let other : eqb 62 byte ≡ false = grind (arith, nat_tests, apart) in rw other refl

-- a text before which something may stand is cut in one way
module _ (byte : ℕ) where
  abbrev pub marked : Bool → List ℕ
  marked mark = if mark then byte ∷ [] else []

  first-lacks : (rest whole : List ℕ) → whole ≡ byte ∷ rest → lacks byte whole ≡ true → ⊥
  first-lacks rest whole e h = lacks-middle byte [] rest (subst (λ (xs : List ℕ). lacks byte xs ≡ true) e h)

  pub cut-one-way : (text rest other : List ℕ) (mark given : Bool) → text ≡ marked mark ++ rest → (mark ≡ false → (r : List ℕ) → text ≡ marked true ++ r → ⊥)
      → text ≡ marked given ++ other → (0 < length other → slice_index other 0 ≢ byte) → 0 < length other → (mark ≡ given) × (rest ≡ other)
  cut-one-way text rest other true true cut none e first some = let same : byte ∷ rest ≡ byte ∷ other = sym cut ∙ e in (refl, cc)
  cut-one-way text rest other true false cut none e first some =
      let same : byte ∷ rest ≡ other = sym cut ∙ e in absurd (first some (ap (λ (xs : List ℕ). slice_index xs 0) (sym same)))
  cut-one-way text rest other false true cut none e first some = absurd (none refl other e)
  cut-one-way text rest other false false cut none e first some = (refl, sym cut ∙ e)

-- ---- the whole text of a test

-- what a number's text is behind its minus
pub number-none : (text digits : List ℕ) (minus : Bool) → text ≡ minus_text minus ++ digits → (minus ≡ false → (r : List ℕ) → text ≡ minus_text true ++ r → ⊥)
    → ((count : ℕ) → count < 10 ^ 12 → digits ≡ decimal count → ⊥) → (number : ℤ) → IsNumberText text number → ⊥
number-none text digits minus cut none never number is =
    let small : is.count < 2 ^ 64 = omega (arith, is.short) in
    let some = decimal_nonempty is.count small in
    let parts = cut-one-way 45 text digits (decimal is.count) minus is.minus cut none is.text
    (λ long first. lacks-at 45 (decimal is.count) (decimal-lacks 45 is.count (inl (omega arith)) small) 0 long first) some in
    never is.count is.short parts.1

first-of : (xs ys : List ℕ) (byte : ℕ) → lacks byte xs ≡ true → 0 < length xs → 0 < length (xs ++ ys) → slice_index (xs ++ ys) 0 ≢ byte
first-of [] ys byte h some long e = omega (arith, some)
first-of (x ∷ xs) ys byte h some long e = lacks-at byte (x ∷ xs) h 0 some e

field-some : (f : Field) → 0 < length (field_text f)
field-some LowerWord = omega arith
field-some UpperWord = omega arith
field-some Width = omega arith
field-some KindNumber = omega arith
field-some Pips = omega arith
field-some OtherPips = omega arith
field-some Off = omega arith
field-some OtherOff = omega arith
field-some OnBar = omega arith
field-some OtherOnBar = omega arith
field-some Offered = omega arith
field-some Answered = omega arith

-- a test with this text has these parts
pub test-parts : (word rest : List ℕ) (negated : Bool) → word ≡ not_text negated ++ rest → (negated ≡ false → (r : List ℕ) → word ≡ not_text true ++ r → ⊥)
    → (test : Test) (is : IsTestText word test) → (negated ≡ test.negated) × IsCutAt rest (field_text test.field) test.comparison is.number
test-parts word rest negated cut none test is =
    let name = field_text test.field in
    let more = comparison_text test.comparison ++ is.number in
    let long : 0 < length (name ++ more) = omega (arith, length-append name more, field-some test.field) in
    let parts = cut-one-way 33 word rest (name ++ more) negated test.negated cut none is.text (first-of name more 33 (plain-field test.field).mark (field-some test.field)) long in
    (parts.0, record { before = (plain-field test.field).signs; behind = number-signs is.number test.number is.value; text = parts.1 })

pub test-lacks : (byte : ℕ) (word : List ℕ) (test : Test) → IsTestText word test → eqb 33 byte ≡ false → lacks byte (field_text test.field) ≡ true → (byte < 60) ⊎ (62 < byte)
    → eqb 45 byte ≡ false → (byte < 48) ⊎ (57 < byte) → lacks byte word ≡ true
test-lacks byte word test is mark field signs minus apart =
    subst (λ (xs : List ℕ). lacks byte xs ≡ true) (sym is.text)
    (lacks-append byte (not_text test.negated) (field_text test.field ++ (comparison_text test.comparison ++ is.number)) (not-lacks byte test.negated mark)
    (lacks-append byte (field_text test.field) (comparison_text test.comparison ++ is.number) field
    (lacks-append byte (comparison_text test.comparison) is.number (sign-lacks byte test.comparison signs) (number-lacks byte is.number test.number is.value minus apart))))

-- the bar is no test
pub bar-no-test : (word : List ℕ) (test : Test) → word ≡ codes "|" → IsTestText word test → ⊥
bar-no-test word test bar is =
    lacks-middle 124 [] [] (subst (λ (xs : List ℕ). lacks 124 xs ≡ true) bar (test-lacks 124 word test is refl (plain-field test.field).bar (inr (omega arith)) refl (inr (omega arith))))

-- there is a test
pub a_test : Test
a_test = record { negated = false; field = Pips; comparison = Equal; number = pos 0 }

pub some-test : IsTestText (codes "pips=" ++ decimal 0) a_test
unfolding a_test
some-test = record { number = decimal 0; value = record { minus = false; count = 0; short = omega arith; text = refl; value = refl }; text = refl }
