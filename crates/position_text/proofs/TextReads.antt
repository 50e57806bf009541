-- From words to places, and from the first few places to all of them.
use Rattle.std.proofs.Common.{◌≡◌, ◌≤◌, ℕ, Bool, true, false, ◌&&◌, List, [], ◌∷◌, length, All, Option, Some, None, refl, arith, length-take}
use Rattle.std.proofs.lemmas.Bool.Decides.{nat_tests}
use Rattle.std.proofs.lemmas.List.{take_all}
use Rattle.std.specs.List.{filter_map, cons_option}
use Rattle.position_text.specs.Text.{place, have_shape, are_places, numbers_fit, read_places, read_words, before_slash, after_slash}
use Rattle.position_text.specs.declared.text.TheConstants.{KEPT}
use Rattle.position_text.proofs.PlaceTexts.{place-text}
use Rattle.position_text.proofs.TextLists.{Each-take, Each-at}
use Rattle.position_text.proofs.TextPrint.{ArePlaces}
use Rattle.position_text.proofs.TextSides.{first}

onto-places : (o : Option ℕ) (places : List ℕ) → ((p : ℕ) → o ≡ Some p → p ≤ 25) → ArePlaces places → ArePlaces (cons_option o places)
onto-places None places h k = k
onto-places (Some p) places h k = (h p refl, k)

pub words-places : (ws : List (List ℕ)) → ArePlaces (filter_map place ws)
words-places [] = tt
words-places (w ∷ ws) = onto-places (place w) (filter_map place ws) (λ p e. (place-text w p e).0) (words-places ws)

pub first-places : (ws : List (List ℕ)) (places : List ℕ) → places ≡ first (filter_map place ws) → All (λ p. p ≤ 25) places
first-places ws places e = rw e (Each-at (λ p. p ≤ 25) (first (filter_map place ws)) (Each-take (λ p. p ≤ 25) KEPT (filter_map place ws) (words-places ws)))

fits-first : (mover other : List ℕ) → numbers_fit mover other ≡ true → (length mover ≤ KEPT) × (length other ≤ KEPT)
fits-first mover other e = (grind (arith, nat_tests), grind (arith, nat_tests))

unfit-first : (mover other : List ℕ) → numbers_fit mover other ≡ false → numbers_fit (first mover) (first other) ≡ false
unfit-first mover other e =
    let m = length-take KEPT mover in
    let o = length-take KEPT other in
    grind (arith, nat_tests, m, o)

pub read_places-first : (mover other : List ℕ) → read_places (first mover) (first other) ≡ read_places mover other
read_places-first mover other = by-fit (numbers_fit mover other) refl where
  by-fit : (b : Bool) → numbers_fit mover other ≡ b → read_places (first mover) (first other) ≡ read_places mover other
  by-fit true e =
      let kept = fits-first mover other e in
      rw (take_all KEPT mover kept.0, take_all KEPT other kept.1) refl
  by-fit false e = rw (unfit-first mover other e, e) refl

pub read_words-done : (ws : List (List ℕ)) (mover other : List ℕ) → have_shape ws ≡ true → (are_places (before_slash ws) && are_places (after_slash ws)) ≡ true → mover ≡ first (filter_map place (before_slash ws)) → other ≡ first (filter_map place (after_slash ws)) → read_places mover other ≡ read_words ws
read_words-done ws mover other shape places m o =
    rw (m, o) (rw (shape, places) (read_places-first (filter_map place (before_slash ws)) (filter_map place (after_slash ws))))
