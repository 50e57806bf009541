-- Words of lines: which bytes they lack, and how they are cut.
use Rattle.std.proofs.Common.{◌≡◌, ℕ, zero, suc, ◌+◌, ◌<◌, ◌≤◌, ◌%◌, ◌^◌, Bool, true, false, not, ◌&&◌, eqb, ltb, nat_eq, List, [], ◌∷◌, ◌++◌, length, map, codes, decimal, Some, None, inl, inr, refl, sym, ◌∙◌, ap, subst, arith}
use Rattle.std.proofs.lemmas.Bool.{cases_lt, ltb-true, lt-ltb, eq-eqb, ne_eqb}
use Rattle.std.proofs.lemmas.Fmt.{decimal_by_steps, decimal_nonempty}
use Rattle.std.proofs.lemmas.List.{append-nil}
use Rattle.std.specs.Fmt.{digits}
use Rattle.std.specs.List.{list_all, list_any, range_with_len, join_with_byte}
use Rattle.position_text.specs.Text.{place_text}
use Rattle.position_text.proofs.PlaceTexts.{lacks, lacks-append, both-true, not-true, read-back}
use Rattle.play_text.specs.Notation.{mark, step_text}
use Rattle.move_rules.specs.declared.written.Step.{Step}
use Rattle.record_text.specs.Forms.{cut_at, with_front, same_text, is_word, go_on_as_words, are_words}
use Rattle.record_text.specs.Texts.{steps_text}

-- ---- cuts

pub cut-none : (byte : ℕ) (text : List ℕ) → lacks byte text ≡ true → cut_at byte text ≡ None
cut-none byte [] h = refl
cut-none byte (x ∷ text) h =
    let both = both-true (not (eqb x byte)) (lacks byte text) h in
    rw (not-true _ both.0) (ap (with_front x) (cut-none byte text both.1))

pub cut-some : (byte : ℕ) (text rest : List ℕ) → lacks byte text ≡ true → cut_at byte (text ++ byte ∷ rest) ≡ Some (text, rest)
cut-some byte [] rest h = let same : eqb byte byte ≡ true = eq-eqb byte byte refl in rw same refl
cut-some byte (x ∷ text) rest h =
    let both = both-true (not (eqb x byte)) (lacks byte text) h in
    rw (not-true _ both.0) (ap (with_front x) (cut-some byte text rest both.1))

none-is : (text : List ℕ) → lacks 32 text ≡ true → list_any (λ byte. eqb byte 32) text ≡ false
none-is [] h = refl
none-is (x ∷ text) h =
    let both = both-true (not (eqb x 32)) (lacks 32 text) h in
    rw (not-true _ both.0) (none-is text both.1)

pub word-is : (text : List ℕ) → lacks 32 text ≡ true → 0 < length text → is_word text ≡ true
word-is text h some =
    let long : ltb 0 (length text) ≡ true = lt-ltb 0 (length text) some in
    rw (long, none-is text h) refl

pub other-word : (x y : ℕ) (xs ys : List ℕ) → (x ≡ y → ⊥) → same_text (x ∷ xs) (y ∷ ys) ≡ false
other-word x y xs ys h = let other : nat_eq x y ≡ false = ne_eqb x y h in rw other refl

-- ---- numbers

pub lacks-decimal : (byte n : ℕ) → byte < 48 → n < 2 ^ 64 → lacks byte (decimal n) ≡ true
lacks-decimal byte n low = decimal_by_steps (λ n ds. lacks byte ds ≡ true) (λ n small. one n) (λ n ds big h. lacks-append byte ds ((48 + n % 10) ∷ []) h (one (n % 10))) n where
  one : (n : ℕ) → lacks byte ((48 + n) ∷ []) ≡ true
  one n = let other : eqb (48 + n) byte ≡ false = ne_eqb (48 + n) byte (λ e. omega (arith, low, e)) in rw other refl

pub word-decimal : (n : ℕ) → n < 2 ^ 64 → is_word (decimal n) ≡ true
word-decimal n h = word-is (decimal n) (lacks-decimal 32 n (omega arith) h) (decimal_nonempty n h)

-- ---- plays

lacks-mark : (byte : ℕ) (hit : Bool) → byte < 42 → lacks byte (mark hit) ≡ true
lacks-mark byte true low = let other : eqb 42 byte ≡ false = ne_eqb 42 byte (λ e. omega (arith, low, e)) in rw other refl
lacks-mark byte false low = refl

all-places : list_all (λ p. lacks 10 (place_text p) && ltb 0 (length (place_text p))) (range_with_len 0 26) ≡ true
unfolding digits
all-places = refl

each-in-range : (test : ℕ → Bool) (a n i : ℕ) → list_all test (range_with_len a n) ≡ true → a ≤ i → i < a + n → test i ≡ true
each-in-range test a zero i e low high = absurd (omega arith)
each-in-range test a (suc n) i e low high =
    let both = both-true (test a) (list_all test (range_with_len (a + 1) n)) e in
    elim (cases_lt a i) [
      | inl less ↦ each-in-range test (a + 1) n i both.1 (omega arith) (omega arith)
      | inr not_less ↦ (let same : a ≡ i = omega arith in subst (λ j. test j ≡ true) same both.0)
    ]

place-facts : (p : ℕ) → p ≤ 25 → (lacks 10 (place_text p) ≡ true) × (ltb 0 (length (place_text p)) ≡ true)
place-facts p low = both-true (lacks 10 (place_text p)) (ltb 0 (length (place_text p))) (each-in-range (λ p. lacks 10 (place_text p) && ltb 0 (length (place_text p))) 0 26 p all-places (omega arith) (omega arith))

lacks-step : (byte : ℕ) (step : Step) → byte < 42 → ((p : ℕ) → p ≤ 25 → lacks byte (place_text p) ≡ true) → lacks byte (step_text step) ≡ true
lacks-step byte step low places =
    let slash : lacks byte (codes "/") ≡ true = (let other : eqb 47 byte ≡ false = ne_eqb 47 byte (λ e. omega (arith, low, e)) in rw other refl) in
    lacks-append byte (place_text step.from ++ codes "/" ++ place_text step.to) (mark step.hit)
    (lacks-append byte (place_text step.from ++ codes "/") (place_text step.to) (lacks-append byte (place_text step.from) (codes "/") (places step.from step.within) slash) (places step.to (omega (arith, step.within, step.falls))))
    (lacks-mark byte step.hit low)

step-no-space : (step : Step) → lacks 32 (step_text step) ≡ true
step-no-space step = lacks-step 32 step (omega arith) (λ p low. (read-back p low).no_space)

step-no-end : (step : Step) → lacks 10 (step_text step) ≡ true
step-no-end step = lacks-step 10 step (omega arith) (λ p low. (place-facts p low).0)

steps-no-end-joined : (step : Step) (steps : List Step) → lacks 10 (join_with_byte 32 (map step_text (step ∷ steps))) ≡ true
steps-no-end-joined step [] = step-no-end step
steps-no-end-joined step (next ∷ steps) = lacks-append 10 (step_text step) (32 ∷ join_with_byte 32 (map step_text (next ∷ steps))) (step-no-end step) (steps-no-end-joined next steps)

pub steps-no-end : (steps : List Step) → lacks 10 (steps_text steps) ≡ true
steps-no-end [] = refl
steps-no-end (step ∷ steps) = steps-no-end-joined step steps

go-on : (word rest : List ℕ) → lacks 32 word ≡ true → go_on_as_words false (word ++ rest) ≡ go_on_as_words false rest
go-on [] rest h = refl
go-on (x ∷ word) rest h =
    let both = both-true (not (eqb x 32)) (lacks 32 word) h in
    rw (not-true _ both.0) (go-on word rest both.1)

begin : (word rest : List ℕ) → lacks 32 word ≡ true → 0 < length word → go_on_as_words true (word ++ rest) ≡ go_on_as_words false rest
begin [] rest h some = absurd (omega arith)
begin (x ∷ word) rest h some =
    let both = both-true (not (eqb x 32)) (lacks 32 word) h in
    rw (not-true _ both.0) (go-on word rest both.1)

longer : (xs ys : List ℕ) → 0 < length xs → 0 < length (xs ++ ys)
longer [] ys h = absurd (omega arith)
longer (x ∷ xs) ys h = omega arith

step-some : (step : Step) → 0 < length (step_text step)
step-some step =
    let first : 0 < length (place_text step.from) = ltb-true 0 (length (place_text step.from)) (place-facts step.from step.within).1 in
    longer (place_text step.from ++ codes "/" ++ place_text step.to) (mark step.hit) (longer (place_text step.from ++ codes "/") (place_text step.to) (longer (place_text step.from) (codes "/") first))

joined-words : (step : Step) (steps : List Step) → are_words (join_with_byte 32 (map step_text (step ∷ steps))) ≡ true
joined-words step [] = ap are_words (sym (append-nil (step_text step))) ∙ begin (step_text step) [] (step-no-space step) (step-some step)
joined-words step (next ∷ steps) = begin (step_text step) (32 ∷ join_with_byte 32 (map step_text (next ∷ steps))) (step-no-space step) (step-some step) ∙ joined-words next steps

-- a play is words with single spaces
pub steps-words : (steps : List Step) → are_words (steps_text steps) ≡ true
steps-words [] = refl
steps-words (step ∷ steps) = joined-words step steps
