-- The texts of plays.
use Rattle.std.proofs.Common.{◌≡◌, ◌≤◌, ◌<◌, ◌+◌, ℕ, Bool, true, false, not, eqb, nat_eq, List, [], ◌∷◌, ◌++◌, length, map, take, codes, get_or, refl, sym, ap, subst, ◌∙◌, arith}
use mathlib.Core.HLevel.{is_prop→PathP}
use native.Mathlib.Bridge.{le_prop}
use Rattle.std.proofs.lemmas.Bool.Decides.{nat_tests}
use Rattle.std.proofs.lemmas.List.{append-nil, length-map, get_or-map, take_all, take_more, map-append}
use Rattle.std.proofs.lemmas.List.Elements.{All-get_or, All-push, All-nil}
use Rattle.std.proofs.lemmas.List.Splits.{slice_split_none, slice_split_at, join_with_byte-slice_split, length-slice_split}
use Rattle.std.specs.Cmp.Lexicographic.{pointwise}
use Rattle.std.specs.List.{All, join_with_byte}
use Rattle.position_text.specs.Text.{place_text, words}
use Rattle.play_text.specs.Notation.{mark, step_text, play_of_words, HitsPoint, IsPlayText}
use Rattle.move_rules.specs.declared.written.Step.{Step}
use Rattle.position_text.proofs.PlaceTexts.{lacks, lacks-append, lacks-middle, all-lack, not-true, both-true, read-back, place-same}
use Rattle.play_text.proofs.NotationWords.{step_word-cut, cut-mark}

-- ---- the words of a text

mark-spaceless : (hit : Bool) → lacks 32 (mark hit) ≡ true
mark-spaceless true = refl
mark-spaceless false = refl

to-within : (step : Step) → step.to ≤ 25
to-within step = omega (arith, step.within, step.falls)

word_of-spaceless : (step : Step) → lacks 32 (step_text step) ≡ true
word_of-spaceless step =
    lacks-append 32 (place_text step.from ++ codes "/" ++ place_text step.to) (mark step.hit)
    (lacks-append 32 (place_text step.from ++ codes "/") (place_text step.to) (lacks-append 32 (place_text step.from) (codes "/") (read-back step.from step.within).no_space refl) (read-back step.to (to-within step)).no_space)
    (mark-spaceless step.hit)

pub words-again : (step : Step) (steps : List Step) → words (play_of_words (map step_text (step ∷ steps))) ≡ map step_text (step ∷ steps)
words-again step [] = slice_split_none (λ byte. eqb byte 32) (step_text step) (all-lack 32 (step_text step) (word_of-spaceless step))
words-again step (next ∷ steps) =
    slice_split_at (λ byte. eqb byte 32) (step_text step) 32 (join_with_byte 32 (map step_text (next ∷ steps))) (all-lack 32 (step_text step) (word_of-spaceless step)) refl
    ∙ ap (λ rest. step_text step ∷ rest) (words-again next steps)

pub whole-text : (text : List ℕ) (ws : List (List ℕ)) → ws ≡ words text → text ≡ play_of_words ws
whole-text text [] e = let long = length-slice_split (λ byte. eqb byte 32) text in let short : length (words text) ≡ 0 = sym (ap length e) in absurd (omega (arith, long, short))
whole-text text (w ∷ ws) e = sym (ap (join_with_byte 32) e ∙ join_with_byte-slice_split 32 text)

-- ---- reading

-- the first few words were read as these steps
pub record HasRead (ws : List (List ℕ)) (steps : List Step) (n : ℕ) : Type 0 where
  pub so_far : map step_text steps ≡ take n ws
  pub hits : All HitsPoint steps
  pub count : length steps ≡ n
  pub few : length steps ≤ 4

pub read-none : (ws : List (List ℕ)) → HasRead ws [] 0
read-none ws = record { so_far = refl; hits = All-nil HitsPoint; count = refl; few = omega arith }

pub read-one : (ws : List (List ℕ)) (steps : List Step) (n : ℕ) (step : Step) (word : List ℕ) → HasRead ws steps n → n < length ws → word ≡ get_or ws n word → length steps < 4 → HitsPoint step → word ≡ step_text step → HasRead ws (steps ++ step ∷ []) (n + 1)
read-one ws steps n step word read low is room hits e = record {
  so_far = map-append step_text steps (step ∷ [])
      ∙ (ap (λ xs. xs ++ step_text step ∷ []) read.so_far
      ∙ (ap (λ w. take n ws ++ w ∷ []) (sym e ∙ is)
      ∙ sym (take_more ws n word low)));
  hits = All-push HitsPoint steps step read.hits hits;
  count = omega (arith, read.count, length-snoc steps step);
  few = omega (arith, length-snoc steps step);
} where
  length-snoc : (xs : List Step) (x : Step) → length (xs ++ x ∷ []) ≡ length xs + 1
  length-snoc [] x = refl
  length-snoc (y ∷ xs) x = omega (arith, length-snoc xs x)

abbrev pub is_dash : List ℕ → Bool
is_dash text = pointwise nat_eq text (codes "-")

-- where the text isn't a dash, its words are those of the steps
pub text-words : (text : List ℕ) (steps : List Step) → is_dash text ≡ false → IsPlayText text steps → (0 < length steps) × (words text ≡ map step_text steps)
text-words text [] other is = let dash : is_dash text ≡ true = ap is_dash is.words in absurd (cc)
text-words text (step ∷ steps) other is = (omega arith, ap words is.words ∙ words-again step steps)

pub too-many : (text : List ℕ) (n : ℕ) → is_dash text ≡ false → n < length (words text) → 4 ≤ n → (steps : List Step) → IsPlayText text steps → ⊥
too-many text n other low full steps is =
    let long : length (words text) ≡ length steps = ap length (text-words text steps other is).1 ∙ length-map steps step_text in
    omega (arith, long, low, full, is.few)

pub wrong-word : (text : List ℕ) (n : ℕ) (word : List ℕ) → is_dash text ≡ false → (n < length (words text)) × (word ≡ get_or (words text) n word) → ((step : Step) → HitsPoint step → word ≡ step_text step → ⊥) → (steps : List Step) → IsPlayText text steps → ⊥
wrong-word text n word other at none [] is = let some = (text-words text [] other is).0 in absurd (omega (arith, some))
wrong-word text n word other at none (step ∷ steps) is =
    let all = (text-words text (step ∷ steps) other is).1 in
    let low : n < length (step ∷ steps) = omega (arith, at.0, ap length all, length-map (step ∷ steps) step_text) in
    none (get_or (step ∷ steps) n step) (All-get_or HitsPoint (step ∷ steps) n step low is.hits)
    (at.1 ∙ (ap (λ ws. get_or ws n word) all ∙ get_or-map step_text (step ∷ steps) n step word low))

pub read-all : (text : List ℕ) (steps : List Step) (n : ℕ) → HasRead (words text) steps n → n ≡ length (words text) → IsPlayText text steps
read-all text steps n read e = record {
  words = whole-text text (map step_text steps) (read.so_far ∙ take_all n (words text) (omega (arith, e)));
  hits = read.hits;
  few = read.few;
}

-- ---- one text, one play

step-same : (a b : Step) → a.from ≡ b.from → a.to ≡ b.to → a.hit ≡ b.hit → a ≡ b
step-same a b f t h = λ i. record {
  from = f i;
  to = t i;
  hit = h i;
  within = is_prop→PathP (λ j. f j ≤ 25) (λ j. le_prop) a.within b.within i;
  falls = is_prop→PathP (λ j. t j < f j) (λ j. le_prop) a.falls b.falls i;
}

cut-same : (byte : ℕ) (xs ys us vs : List ℕ) → lacks byte xs ≡ true → lacks byte us ≡ true → xs ++ byte ∷ ys ≡ us ++ byte ∷ vs → (xs ≡ us) × (ys ≡ vs)
cut-same byte [] ys [] vs h k e = (refl, cc)
cut-same byte [] ys (u ∷ us) vs h k e =
    let here : byte ≡ u = cc in
    let none = not-true _ (both-true (not (eqb u byte)) (lacks byte us) k).0 in absurd (grind (arith, nat_tests))
cut-same byte (x ∷ xs) ys [] vs h k e =
    let here : x ≡ byte = cc in
    let none = not-true _ (both-true (not (eqb x byte)) (lacks byte xs) h).0 in absurd (grind (arith, nat_tests))
cut-same byte (x ∷ xs) ys (u ∷ us) vs h k e =
    let here : x ≡ u = cc in
    let later : xs ++ byte ∷ ys ≡ us ++ byte ∷ vs = cc in
    let rest = cut-same byte xs ys us vs (both-true (not (eqb x byte)) (lacks byte xs) h).1 (both-true (not (eqb u byte)) (lacks byte us) k).1 later in
    (ap (λ z. z ∷ xs) here ∙ ap (λ zs. u ∷ zs) rest.0, rest.1)

same-place : (p q : ℕ) → p ≤ 25 → q ≤ 25 → place_text p ≡ place_text q → p ≡ q
same-place p q h k e = place-same (place_text p) q p k (read-back p h).same e

same-word : (a b : Step) → step_text a ≡ step_text b → a ≡ b
same-word a b e =
    let parts = cut-same 47 (place_text a.from) (place_text a.to ++ mark a.hit) (place_text b.from) (place_text b.to ++ mark b.hit)
    (read-back a.from a.within).no_slash (read-back b.from b.within).no_slash
    (sym (step_word-cut a.from a.to a.hit) ∙ (e ∙ step_word-cut b.from b.to b.hit)) in
    let ends = cut-mark (place_text a.to ++ mark a.hit) (place_text a.to) a.hit refl (starless a.to a.hit (to-within a)) b.to b.hit (to-within b) parts.1 in
    step-same a b (same-place a.from b.from a.within b.within parts.0) (same-place a.to b.to (to-within a) (to-within b) ends.0) ends.1 where
      starless : (p : ℕ) (hit : Bool) → p ≤ 25 → hit ≡ false → (front : List ℕ) → place_text p ++ mark hit ≡ front ++ mark true → ⊥
      starless p hit low bare front e =
          let text : place_text p ≡ front ++ mark true = sym (append-nil (place_text p)) ∙ (ap (λ h. place_text p ++ mark h) (sym bare) ∙ e) in
          lacks-middle 42 front [] (subst (λ xs. lacks 42 xs ≡ true) text (read-back p low).no_star)

same-words : (a b : List Step) → map step_text a ≡ map step_text b → a ≡ b
same-words [] [] e = refl
same-words [] (y ∷ b) e = absurd (cc)
same-words (x ∷ a) [] e = absurd (cc)
same-words (x ∷ a) (y ∷ b) e =
    let here : step_text x ≡ step_text y = cc in
    let later : map step_text a ≡ map step_text b = cc in
    ap (λ s. s ∷ a) (same-word x y here) ∙ ap (λ ss. y ∷ ss) (same-words a b later)

not-dash : (step : Step) (steps : List Step) → play_of_words (map step_text (step ∷ steps)) ≡ codes "-" → ⊥
not-dash step steps e =
    let ws : step_text step ∷ map step_text steps ≡ codes "-" ∷ [] = sym (words-again step steps) ∙ ap words e in
    let word : step_text step ≡ codes "-" = cc in
    lacks-middle 47 (place_text step.from) (place_text step.to ++ mark step.hit) (subst (λ xs. lacks 47 xs ≡ true) (sym word ∙ step_word-cut step.from step.to step.hit) refl)

pub one-play : (text : List ℕ) (steps others : List Step) → IsPlayText text steps → IsPlayText text others → steps ≡ others
one-play text [] [] a b = refl
one-play text [] (y ∷ others) a b = absurd (not-dash y others (sym b.words ∙ a.words))
one-play text (x ∷ steps) [] a b = absurd (not-dash x steps (sym a.words ∙ b.words))
one-play text (x ∷ steps) (y ∷ others) a b =
    same-words (x ∷ steps) (y ∷ others) (sym (words-again x steps) ∙ (ap words (sym a.words ∙ b.words) ∙ words-again y others))
