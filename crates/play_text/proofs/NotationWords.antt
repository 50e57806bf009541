-- The words of steps.
use Rattle.std.proofs.Common.{◌≡◌, ◌≤◌, ℕ, Bool, true, false, List, [], ◌∷◌, ◌++◌, codes, Option, Some, None, Bor, lit<, refl, sym, ap, subst, ◌∙◌, arith, append_assoc}
use Rattle.std.proofs.lemmas.List.{append-nil, append_cancel_right}
use Rattle.std.proofs.lemmas.Str.Pattern.{IsSplitOnceResult, split_after, split_parts}
use Rattle.std.specs.Option.{MatchOption}
use Rattle.position_text.specs.Text.{place_text}
use Rattle.position_text.proofs.PlaceTexts.{lacks, lacks-middle, lacks-at, read-back}
use Rattle.play_text.specs.Notation.{mark, step_word, step_text}
use Rattle.move_rules.specs.declared.written.Step.{Step}

-- ---- the parts of a word

pub step_word-cut : (from to : ℕ) (hit : Bool) → step_word from to hit ≡ place_text from ++ 47 ∷ (place_text to ++ mark hit)
step_word-cut from to hit = append_assoc (place_text from ++ codes "/") (place_text to) (mark hit) ∙ append_assoc (place_text from) (codes "/") (place_text to ++ mark hit)

-- a place with its mark is cut in one way
pub cut-mark : (text to : List ℕ) (hit : Bool) → text ≡ to ++ mark hit → (hit ≡ false → (front : List ℕ) → text ≡ front ++ mark true → ⊥)
    → (p : ℕ) (h : Bool) → p ≤ 25 → text ≡ place_text p ++ mark h → (to ≡ place_text p) × (hit ≡ h)
cut-mark text to true cut none p true low e = (append_cancel_right to (place_text p) (codes "*") (sym cut ∙ e), refl)
cut-mark text to true cut none p false low e = absurd (lacks-middle 42 to [] (subst (λ xs. lacks 42 xs ≡ true) (sym (append-nil (place_text p)) ∙ (sym e ∙ cut)) (read-back p low).no_star))
cut-mark text to false cut none p true low e = absurd (none refl (place_text p) e)
cut-mark text to false cut none p false low e = (sym (append-nil to) ∙ (sym cut ∙ (e ∙ append-nil (place_text p))), refl)

-- where a step's word is cut
cut-word : (word : List ℕ) (r : Option (Bor (List ℕ) × Bor (List ℕ))) → IsSplitOnceResult 47 word r → (step : Step) → word ≡ step_text step → MatchOption r ⊥ (λ x. (x.0.now ≡ place_text step.from) × (x.1.now ≡ place_text step.to ++ mark step.hit))
cut-word word r cases step e =
    split_after 47 word (place_text step.from) (place_text step.to ++ mark step.hit) r cases (lit< tt) (e ∙ step_word-cut step.from step.to step.hit)
    (lacks-at 47 (place_text step.from) (read-back step.from step.within).no_slash)

pub no-cut : (word : List ℕ) (r : Option (Bor (List ℕ) × Bor (List ℕ))) → IsSplitOnceResult 47 word r → r ≡ None → (step : Step) → word ≡ step_text step → ⊥
no-cut word r cases none step e = rw none at (cut-word word r cases step e)

-- the parts that were found are those of any step with this word
pub record IsCut (word from to : List ℕ) (hit : Bool) : Type 0 where
  pub whole : (f t : ℕ) → from ≡ place_text f → to ≡ place_text t → word ≡ step_word f t hit
  pub only : (step : Step) → word ≡ step_text step → (from ≡ place_text step.from) × (to ≡ place_text step.to) × (hit ≡ step.hit)

pub is-cut : (word : List ℕ) (r : Option (Bor (List ℕ) × Bor (List ℕ))) → IsSplitOnceResult 47 word r → (from rest : Bor (List ℕ)) → r ≡ Some (from, rest)
    → (to : List ℕ) (hit : Bool) → rest.now ≡ to ++ mark hit → (hit ≡ false → (front : List ℕ) → rest.now ≡ front ++ mark true → ⊥) → IsCut word from.now to hit
is-cut word r cases from rest some to hit cut none = record {
  whole = λ f t a b.
      let parts = rw some at (split_parts 47 word r cases (lit< tt)) in
      parts.0 ∙ (ap (λ xs. from.now ++ 47 ∷ xs) cut ∙ (ap (λ xs. xs ++ 47 ∷ (to ++ mark hit)) a ∙ (ap (λ xs. place_text f ++ 47 ∷ (xs ++ mark hit)) b ∙ sym (step_word-cut f t hit))));
  only = λ step e.
      let parts = rw some at (cut-word word r cases step e) in
      let marked = cut-mark rest.now to hit cut none step.to step.hit (omega (arith, step.within, step.falls)) parts.1 in
      (parts.0, marked.0, marked.1);
}
