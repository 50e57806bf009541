-- Texts that are printed word by word.
use Rattle.std.proofs.Common.{◌≡◌, ◌≤◌, ◌<◌, ◌+◌, ◌-◌, ℕ, zero, suc, List, [], ◌∷◌, ◌++◌, length, map, fold, replicate, take, sum, slice_index, refl, sym, ap, ◌∙◌, arith, append_assoc, length-append, eqb, Bool, true, false, cond, lit<, codes, decimal}
use Rattle.std.proofs.lemmas.Fmt.{decimal_nonempty}
use Rattle.std.proofs.lemmas.List.{map-append, take_more}
use Rattle.std.proofs.lemmas.List.Sums.{fold-append, sum_by-append}
use Rattle.std.proofs.lemmas.Bool.Decides.{nat_tests}
use Rattle.std.specs.List.{flat_map, join_with_byte}
use Rattle.position_rank.specs.Placement.{Placement}
use Rattle.position_text.specs.Text.{place_text, places_below, places_of, position_words, position_text}
use Rattle.position_text.specs.TextParts.{add_word}
use Rattle.position_text.proofs.TextLists.{Each, Each-append}

abbrev pub held : List ℕ → ℕ → List ℕ
held counts place = replicate (slice_index counts place) place

-- the texts of a side's places below one
unfoldable pub texts_below : List ℕ → ℕ → List (List ℕ)
texts_below counts place = map place_text (flat_map (held counts) (places_below place))

pub texts-all : (counts : List ℕ) → texts_below counts 26 ≡ map place_text (places_of counts)
unfolding texts_below places_of
texts-all counts = refl

pub texts-none : (counts : List ℕ) → texts_below counts 0 ≡ []
unfolding texts_below
texts-none counts = refl

map-replicate : (n place : ℕ) → map place_text (replicate n place) ≡ replicate n (place_text place)
map-replicate zero place = refl
map-replicate (suc n) place = ap (λ ws. place_text place ∷ ws) (map-replicate n place)

texts-next : (counts : List ℕ) (place : ℕ) → texts_below counts (suc place) ≡ replicate (slice_index counts place) (place_text place) ++ texts_below counts place
unfolding texts_below
texts-next counts place =
    map-append place_text (held counts place) (flat_map (held counts) (places_below place))
    ∙ ap (λ ws. ws ++ map place_text (flat_map (held counts) (places_below place))) (map-replicate (slice_index counts place) place)

pub words-step : (counts : List ℕ) (place : ℕ) (text text' : List ℕ) → 0 < place → text' ≡ fold add_word text (replicate (slice_index counts (place - 1)) (place_text (place - 1))) → fold add_word text' (texts_below counts (place - 1)) ≡ fold add_word text (texts_below counts place)
words-step counts zero text text' h e = absurd (omega arith)
words-step counts (suc place) text text' h e =
    let back : suc place - 1 ≡ place = omega arith in
    rw back
    (let e' : text' ≡ fold add_word text (replicate (slice_index counts place) (place_text place)) = rw back at e in
    rw e' (sym (ap (fold add_word text) (texts-next counts place) ∙ fold-append add_word text (replicate (slice_index counts place) (place_text place)) (texts_below counts place))))

pub sum-step : (counts : List ℕ) (place : ℕ) → 0 < place → place ≤ length counts → sum (take place counts) ≡ sum (take (place - 1) counts) + slice_index counts (place - 1)
sum-step counts place low high =
    let more : place - 1 + 1 ≡ place = omega arith in
    let inside : place - 1 < length counts = omega arith in
    let one : sum (take (place - 1 + 1) counts) ≡ sum (take (place - 1) counts ++ slice_index counts (place - 1) ∷ []) = ap sum (take_more counts (place - 1) 0 inside) in
    let two = sum_by-append (λ (x : ℕ). x) (take (place - 1) counts) (slice_index counts (place - 1) ∷ []) in
    ap (λ n. sum (take n counts)) (sym more) ∙ omega (arith, one, two)

join-glue : (text word : List ℕ) (ws : List (List ℕ)) → join_with_byte 32 ((text ++ 32 ∷ word) ∷ ws) ≡ text ++ 32 ∷ join_with_byte 32 (word ∷ ws)
join-glue text word [] = refl
join-glue text word (w ∷ ws) = append_assoc text (32 ∷ word) (32 ∷ join_with_byte 32 (w ∷ ws))

joined-behind : (text : List ℕ) (ws : List (List ℕ)) → 0 < length text → fold add_word text ws ≡ join_with_byte 32 (text ∷ ws)
joined-behind text [] h = refl
joined-behind text (word ∷ ws) h =
    let some : eqb (length text) 0 ≡ false = grind (arith, nat_tests) in
    let longer : 0 < length (text ++ 32 ∷ word) = omega (arith, length-append text (32 ∷ word)) in
    rw some (joined-behind (text ++ 32 ∷ word) ws longer ∙ join-glue text word ws)

-- the words of a text, the first not empty, with single spaces
pub joined : (word : List ℕ) (ws : List (List ℕ)) → 0 < length word → fold add_word [] (word ∷ ws) ≡ join_with_byte 32 (word ∷ ws)
joined word ws h = joined-behind word ws h

-- the first word of a list, none of which is empty
joined-full : (ws : List (List ℕ)) → Each (λ word. 0 < length word) ws → fold add_word [] ws ≡ join_with_byte 32 ws
joined-full [] h = refl
joined-full (word ∷ ws) h = joined word ws h.0

-- places from off to the bar
abbrev pub ArePlaces : List ℕ → Type 0
ArePlaces places = Each (λ place. place ≤ 25) places

replicate-places : (n place : ℕ) → place ≤ 25 → ArePlaces (replicate n place)
replicate-places zero place h = tt
replicate-places (suc n) place h = (h, replicate-places n place h)

below-places : (counts : List ℕ) (place : ℕ) → place ≤ 26 → ArePlaces (flat_map (held counts) (places_below place))
below-places counts zero h = tt
below-places counts (suc place) h = Each-append (λ p. p ≤ 25) (held counts place) _ (replicate-places (slice_index counts place) place (omega arith)) (below-places counts place (omega arith))

pub places_of-places : (counts : List ℕ) → ArePlaces (places_of counts)
unfolding places_of
places_of-places counts = below-places counts 26 (omega arith)

place_text-full : (place : ℕ) → place ≤ 25 → 0 < length (place_text place)
place_text-full place h = by-cases (eqb place 0) (eqb place 25) where
  by-cases : (a b : Bool) → 0 < length (cond a (codes "off") (cond b (codes "bar") (decimal place)))
  by-cases true b = lit< tt
  by-cases false true = lit< tt
  by-cases false false = decimal_nonempty place (omega arith)

pub side-full : (places : List ℕ) → ArePlaces places → Each (λ word. 0 < length word) (map place_text places)
side-full [] h = tt
side-full (place ∷ places) h = (place_text-full place h.0, side-full places h.1)

pub position_words-full : (p : Placement) → Each (λ word. 0 < length word) (position_words p)
position_words-full p =
    Each-append (λ word. 0 < length word) (map place_text (places_of p.mover)) _ (side-full _ (places_of-places p.mover)) (lit< tt, side-full _ (places_of-places p.other))

pub joined-position : (p : Placement) (one two three : List ℕ) → one ≡ fold add_word [] (map place_text (places_of p.mover)) → two ≡ add_word one (codes "/") → three ≡ fold add_word two (map place_text (places_of p.other)) → three ≡ position_text p
joined-position p one two three a b c =
    c ∙ (ap (λ text. fold add_word text (map place_text (places_of p.other))) (b ∙ ap (λ text. add_word text (codes "/")) a)
    ∙ (sym (fold-append add_word [] (map place_text (places_of p.mover)) (codes "/" ∷ map place_text (places_of p.other))) ∙ joined-full (position_words p) (position_words-full p)))
