-- The places that the bits of a position tell.
use Rattle.std.proofs.Common.{◌≡◌, ℕ, zero, suc, ◌+◌, ◌-◌, ◌<◌, ◌≤◌, Bool, true, false, cond, ◌||◌, nat_lt, nat_le, List, [], ◌∷◌, ◌++◌, length, map, replicate, All, refl, ap, ◌∙◌, sym, arith, append_assoc, append-nil}
use Rattle.std.proofs.lemmas.Bool.Decides.{nat_tests}
use Rattle.std.proofs.lemmas.List.{map-append}
use Rattle.std.proofs.lemmas.List.Elements.{filter-append, filter_passes, All-nil, All-cons, All-append, All-replicate, All-weaker}
use Rattle.std.proofs.lemmas.List.Folds.{list_any-append}
use Rattle.std.specs.List.{filter, flat_map, list_any}
use Rattle.position_rank.specs.Ranks.{places_from}
use Rattle.position_id.specs.Ids.{place_bits}
use Rattle.position_id.specs.Readings.{places_told, mover_told, other_told, with_off}

told-place : (place count : ℕ) (rest : List Bool) → places_told place (place_bits count ++ rest) ≡ replicate count place ++ places_told (place + 1) rest
told-place place zero rest = refl
told-place place (suc count) rest = ap (λ places. place ∷ places) (told-place place count rest)

pub told-side : (place : ℕ) (counts : List ℕ) (rest : List Bool) → places_told place (flat_map place_bits counts ++ rest) ≡ places_from place counts ++ places_told (place + length counts) rest
told-side place [] rest = ap (λ at. places_told at rest) (omega arith)
told-side place (count ∷ counts) rest =
    ap (λ bits. places_told place bits) (append_assoc (place_bits count) (flat_map place_bits counts) rest)
    ∙ (told-place place count (flat_map place_bits counts ++ rest)
    ∙ (ap (λ places. replicate count place ++ places) (told-side (place + 1) counts rest ∙ ap (λ at. places_from (place + 1) counts ++ places_told at rest) (omega arith))
    ∙ sym (append_assoc (replicate count place) (places_from (place + 1) counts) (places_told (place + length (count ∷ counts)) rest))))

pub told-none : (place count : ℕ) → places_told place (replicate count false) ≡ []
told-none place zero = refl
told-none place (suc count) = told-none (place + 1) count

-- ---- whose they are

filter-same : (test : ℕ → Bool) (count place : ℕ) → test place ≡ true → filter test (replicate count place) ≡ replicate count place
filter-same test zero place e = refl
filter-same test (suc count) place e = rw e (ap (λ places. place ∷ places) (filter-same test count place e))

filter-none : (test : ℕ → Bool) (count place : ℕ) → test place ≡ false → filter test (replicate count place) ≡ []
filter-none test zero place e = refl
filter-none test (suc count) place e = rw e (filter-none test count place e)

keeps : (test : ℕ → Bool) (place : ℕ) (counts : List ℕ) → ((p : ℕ) → place ≤ p → p < place + length counts → test p ≡ true) → filter test (places_from place counts) ≡ places_from place counts
keeps test place [] h = refl
keeps test place (count ∷ counts) h =
    filter-append test (replicate count place) (places_from (place + 1) counts)
    ∙ (ap (λ places. places ++ filter test (places_from (place + 1) counts)) (filter-same test count place (h place (omega arith) (omega arith)))
    ∙ ap (λ places. replicate count place ++ places) (keeps test (place + 1) counts (λ p low high. h p (omega arith) (omega arith))))

drops : (test : ℕ → Bool) (place : ℕ) (counts : List ℕ) → ((p : ℕ) → place ≤ p → p < place + length counts → test p ≡ false) → filter test (places_from place counts) ≡ []
drops test place [] h = refl
drops test place (count ∷ counts) h =
    filter-append test (replicate count place) (places_from (place + 1) counts)
    ∙ (ap (λ places. places ++ filter test (places_from (place + 1) counts)) (filter-none test count place (h place (omega arith) (omega arith)))
    ∙ drops test (place + 1) counts (λ p low high. h p (omega arith) (omega arith)))

lower-same : (count place : ℕ) → map (λ p. p - 25) (replicate count (place + 25)) ≡ replicate count place
lower-same zero place = refl
lower-same (suc count) place = let here : place + 25 - 25 ≡ place = omega arith in rw here (ap (λ places. place ∷ places) (lower-same count place))

lower : (place : ℕ) (counts : List ℕ) → map (λ p. p - 25) (places_from (place + 25) counts) ≡ places_from place counts
lower place [] = refl
lower place (count ∷ counts) =
    let next : place + 25 + 1 ≡ place + 1 + 25 = omega arith in
    map-append (λ p. p - 25) (replicate count (place + 25)) (places_from (place + 25 + 1) counts)
    ∙ (ap (λ places. places ++ map (λ p. p - 25) (places_from (place + 25 + 1) counts)) (lower-same count place)
    ∙ ap (λ places. replicate count place ++ places) (ap (λ at. map (λ p. p - 25) (places_from at counts)) next ∙ lower (place + 1) counts))

pub other-again : (other mover : List ℕ) → length other ≡ 25 → other_told (places_from 1 other ++ places_from 26 mover) ≡ places_from 1 other
other-again other mover h =
    filter-append (λ p. nat_le p 25) (places_from 1 other) (places_from 26 mover)
    ∙ (ap (λ places. places ++ filter (λ p. nat_le p 25) (places_from 26 mover)) (keeps (λ p. nat_le p 25) 1 other (λ p low high. grind (arith, nat_tests)))
    ∙ (ap (λ places. places_from 1 other ++ places) (drops (λ p. nat_le p 25) 26 mover (λ p low high. grind (arith, nat_tests)))
    ∙ append-nil (places_from 1 other)))

pub mover-again : (other mover : List ℕ) → length other ≡ 25 → mover_told (places_from 1 other ++ places_from 26 mover) ≡ places_from 1 mover
mover-again other mover h =
    ap (map (λ p. p - 25))
    (filter-append (λ p. nat_lt 25 p) (places_from 1 other) (places_from 26 mover)
    ∙ (ap (λ places. places ++ filter (λ p. nat_lt 25 p) (places_from 26 mover)) (drops (λ p. nat_lt 25 p) 1 other (λ p low high. grind (arith, nat_tests)))
    ∙ keeps (λ p. nat_lt 25 p) 26 mover (λ p low high. grind (arith, nat_tests))))
    ∙ lower 1 mover

none-behind : (place : ℕ) (counts : List ℕ) → place + length counts ≤ 51 → list_any (λ p. nat_lt 50 p) (places_from place counts) ≡ false
none-behind place [] h = refl
none-behind place (count ∷ counts) h =
    list_any-append (λ p. nat_lt 50 p) (replicate count place) (places_from (place + 1) counts)
    ∙ rw (here count) (none-behind (place + 1) counts (omega arith)) where
      here : (n : ℕ) → list_any (λ p. nat_lt 50 p) (replicate n place) ≡ false
      here zero = refl
      here (suc n) = let low : nat_lt 50 place ≡ false = grind (arith, nat_tests) in rw low (here n)

pub none-after : (other mover : List ℕ) → length other ≡ 25 → length mover ≡ 25 → list_any (λ p. nat_lt 50 p) (places_from 1 other ++ places_from 26 mover) ≡ false
none-after other mover h k =
    list_any-append (λ p. nat_lt 50 p) (places_from 1 other) (places_from 26 mover)
    ∙ rw (none-behind 1 other (omega arith)) (none-behind 26 mover (omega arith))

-- ---- within a side's places

pub mover-within : (places : List ℕ) → list_any (λ p. nat_lt 50 p) places ≡ false → All (λ p. p ≤ 25) (mover_told places)
mover-within [] h = All-nil (λ p. p ≤ 25)
mover-within (place ∷ places) h =
    let both = neither (nat_lt 50 place) (list_any (λ p. nat_lt 50 p) places) h in
    onto (nat_lt 25 place) place (filter (λ p. nat_lt 25 p) places) (let low = both.0 in grind (arith, nat_tests)) (mover-within places both.1) where
      neither : (a b : Bool) → (a || b) ≡ false → (a ≡ false) × (b ≡ false)
      neither true b e = absurd (cc)
      neither false b e = (refl, e)

      onto : (b : Bool) (place : ℕ) (places : List ℕ) → place - 25 ≤ 25 → All (λ p. p ≤ 25) (map (λ p. p - 25) places) → All (λ p. p ≤ 25) (map (λ p. p - 25) (cond b (place ∷ places) places))
      onto true place places here rest = All-cons (λ p. p ≤ 25) (place - 25) (map (λ p. p - 25) places) here rest
      onto false place places here rest = rest

pub other-within : (places : List ℕ) → All (λ p. p ≤ 25) (other_told places)
other-within places = All-weaker (λ p. nat_le p 25 ≡ true) (λ p. p ≤ 25) (λ p e. grind (arith, nat_tests)) (other_told places) (filter_passes (λ p. nat_le p 25) places)

pub off-within : (mine theirs : List ℕ) → All (λ p. p ≤ 25) mine → All (λ p. p ≤ 25) (with_off mine theirs)
off-within mine theirs h = All-append (λ p. p ≤ 25) (replicate (length theirs - length mine) 0) mine (All-replicate (λ p. p ≤ 25) (length theirs - length mine) 0 (omega arith)) h
