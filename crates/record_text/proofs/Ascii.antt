-- Texts of plays, rolls and rules have bytes below 128 alone.
use Rattle.std.proofs.Common.{◌≡◌, ℕ, ◌+◌, ◌<◌, ◌≤◌, Bool, true, false, ltb, List, [], ◌∷◌, ◌++◌, map, codes, zero, suc, inl, inr, refl, sym, subst, arith}
use Rattle.std.proofs.lemmas.Bool.{cases_lt, ltb-true, lt-ltb}
use Rattle.std.proofs.lemmas.Str.Ascii.{IsAscii-from_all}
use Rattle.std.specs.Fmt.{digits}
use Rattle.std.specs.Str.{IsAscii}
use Rattle.std.specs.List.{All, list_all, range_with_len, join_with_byte}
use Rattle.cube_actions.specs.declared.name.MoneyRule.{MoneyRule}
use Rattle.cube_actions.specs.declared.name.MoneyRule.TheVariants.{Cubeless}
use Rattle.cube_text.specs.Texts.{rule_text}
use Rattle.roll_table.specs.Rolls.{Dice, IsRoll}
use Rattle.roll_table.specs.Text.{roll_text}
use Rattle.position_text.specs.Text.{place_text}
use Rattle.position_text.proofs.PlaceTexts.{both-true}
use Rattle.play_text.specs.Notation.{mark, step_text, play_of_words, IsPlayText}
use Rattle.move_rules.specs.declared.written.Step.{Step}

abbrev pub ascii : List ℕ → Bool
ascii text = list_all (λ b. ltb b 128) text

pub ascii-append : (xs ys : List ℕ) → ascii xs ≡ true → ascii ys ≡ true → ascii (xs ++ ys) ≡ true
ascii-append [] ys h k = k
ascii-append (x ∷ xs) ys h k = let both = both-true (ltb x 128) (ascii xs) h in rw both.0 (ascii-append xs ys both.1 k)

all-ascii : (xs : List ℕ) → ascii xs ≡ true → All (λ b. b < 128) xs
all-ascii [] h k d low = absurd (omega arith)
all-ascii (x ∷ xs) h zero d low = ltb-true x 128 (both-true (ltb x 128) (ascii xs) h).0
all-ascii (x ∷ xs) h (suc k) d low = all-ascii xs (both-true (ltb x 128) (ascii xs) h).1 k d (omega arith)

pub is-ascii : (xs : List ℕ) → ascii xs ≡ true → IsAscii xs
is-ascii xs h = IsAscii-from_all xs (all-ascii xs h)

ascii-bytes : (rule : MoneyRule) → ascii (rule_text rule) ≡ true
ascii-bytes Cubeless = refl
ascii-bytes _ = refl

pub ascii-rule : (rule : MoneyRule) → IsAscii (rule_text rule)
ascii-rule rule = is-ascii (rule_text rule) (ascii-bytes rule)

all-places : list_all (λ p. ascii (place_text p)) (range_with_len 0 26) ≡ true
unfolding digits
all-places = refl

each-in-range : (test : ℕ → Bool) (a n i : ℕ) → list_all test (range_with_len a n) ≡ true → a ≤ i → i < a + n → test i ≡ true
each-in-range test a zero i e low high = absurd (omega arith)
each-in-range test a (suc n) i e low high =
    let both = both-true (test a) (list_all test (range_with_len (a + 1) n)) e in
    elim (cases_lt a i) [
      | inl less ↦ each-in-range test (a + 1) n i both.1 (omega arith) (omega arith)
      | inr not_less ↦ (let same : a ≡ i = omega arith in subst (λ j. test j ≡ true) same both.0)
    ]

ascii-place : (p : ℕ) → p ≤ 25 → ascii (place_text p) ≡ true
ascii-place p low = each-in-range (λ p. ascii (place_text p)) 0 26 p all-places (omega arith) (omega arith)

ascii-mark : (hit : Bool) → ascii (mark hit) ≡ true
ascii-mark true = refl
ascii-mark false = refl

ascii-step : (step : Step) → ascii (step_text step) ≡ true
ascii-step step =
    ascii-append (place_text step.from ++ codes "/" ++ place_text step.to) (mark step.hit)
    (ascii-append (place_text step.from ++ codes "/") (place_text step.to) (ascii-append (place_text step.from) (codes "/") (ascii-place step.from step.within) refl) (ascii-place step.to (omega (arith, step.within, step.falls))))
    (ascii-mark step.hit)

ascii-joined : (step : Step) (steps : List Step) → ascii (join_with_byte 32 (map step_text (step ∷ steps))) ≡ true
ascii-joined step [] = ascii-step step
ascii-joined step (next ∷ steps) = ascii-append (step_text step) (32 ∷ join_with_byte 32 (map step_text (next ∷ steps))) (ascii-step step) (ascii-joined next steps)

ascii-steps : (steps : List Step) → ascii (play_of_words (map step_text steps)) ≡ true
ascii-steps [] = refl
ascii-steps (step ∷ steps) = ascii-joined step steps

-- a play's text is one
pub ascii-play : (text : List ℕ) (steps : List Step) → IsPlayText text steps → IsAscii text
ascii-play text steps play = subst IsAscii (sym play.words) (is-ascii (play_of_words (map step_text steps)) (ascii-steps steps))

-- a roll's text is one
pub ascii-roll : (roll : Dice) → IsRoll roll → IsAscii (roll_text roll)
ascii-roll roll valid =
    let high : ltb (48 + roll.high) 128 ≡ true = lt-ltb (48 + roll.high) 128 (omega (arith, valid.to)) in
    let low : ltb (48 + roll.low) 128 ≡ true = lt-ltb (48 + roll.low) 128 (omega (arith, valid.to, valid.in_order)) in
    is-ascii (roll_text roll) (rw high (rw low refl))
