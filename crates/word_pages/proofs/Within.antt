-- Pairs have no flaw exactly where each lies within the bound.
use Rattle.std.proofs.Common.{◌≡◌, ◌⊎◌, inl, inr, ℕ, zero, suc, ◌+◌, ◌*◌, ◌/◌, ◌≤◌, ◌<◌, ◌&&◌, Bool, true, false, not, nat_lt, T, All, List, [], ◌∷◌, length, get_or, slice_index, Option, None, Some, is_none, ℤ, ◌≤ℤ◌, int_le, refl, sym, ap, ap₂, subst, arith}
use Rattle.std.proofs.lemmas.Bool.{cases_lt, false≢true}
use Rattle.std.proofs.lemmas.Bool.Decides.{nat_tests}
use Rattle.std.proofs.lemmas.List.Elements.{All-from_get_or}
use Rattle.std.specs.Option.{option_or}
use Rattle.directed_fixed.specs.declared.word.TheConstants.{WORD_OFFSET}
use Rattle.directed_fixed.specs.Bounds.{IsWithin, IsWithinUnits}
use Rattle.hyper_outside.specs.declared.outside.PageFault.{PageFault}
use Rattle.hyper_outside.specs.declared.outside.PageFault.TheVariants.{Word, Crossed}
use Rattle.word_pages.specs.declared.version.Version.{Version}
use Rattle.word_pages.specs.declared.version.Version.TheVariants.{One, Two, Three}
use Rattle.word_pages.specs.Words.{word_size, Fits}
use Rattle.word_pages.specs.Flaws.{unpacked, is_in_range, flaw_unless, pair_flaw, pairs_flaw, pair_in_words, LieWithin}
use Rattle.word_pages.proofs.PageFlaws.{no_flaw}

some_flaw : {A : Type 0} (flaw : A) → Some flaw ≡ None → ⊥
some_flaw {A = A} flaw same = false≢true (ap (λ (flaw : Option A). is_none flaw) same)

pub none_or : {A : Type 0} (first then : Option A) → option_or first then ≡ None → (first ≡ None) × (then ≡ None)
none_or None then none = (refl, none)
none_or (Some flaw) then none = absurd (some_flaw flaw none)

pub or_none : {A : Type 0} (first then : Option A) → first ≡ None → then ≡ None → option_or first then ≡ None
or_none None then one two = two
or_none (Some flaw) then one two = absurd (some_flaw flaw one)

pub is_well : (well : Bool) (fault : PageFault) (at : ℕ) → flaw_unless well fault at ≡ None → well ≡ true
is_well true fault at none = refl
is_well false fault at none = absurd (some_flaw (record { fault = fault; at = at }) none)

both : (a b : Bool) → (a && b) ≡ true → (a ≡ true) × (b ≡ true)
both true b e = (refl, e)
both false b e = absurd (false≢true e)

both_true : (a b : Bool) → a ≡ true → b ≡ true → (a && b) ≡ true
both_true true b one two = two
both_true false b one two = absurd (false≢true one)

at_most : (a b : ℤ) → int_le a b ≡ true → a ≤ℤ b
at_most a b e = record { le = subst T (sym e) tt }

is_at_most : (a b : ℤ) → a ≤ℤ b → int_le a b ≡ true
is_at_most a b le = from_T (int_le a b) le.le
  where
    from_T : (b : Bool) → T b → b ≡ true
    from_T true t = refl
    from_T false t = absurd t

in_order : (lower upper : ℕ) → not (nat_lt upper lower) ≡ true → unpacked lower ≤ℤ unpacked upper
in_order lower upper e = grind (arith, nat_tests)

is_in_order : (lower upper : ℕ) → unpacked lower ≤ℤ unpacked upper → not (nat_lt upper lower) ≡ true
is_in_order lower upper le = grind (arith, nat_tests)

higher : (a b c : ℤ) → a ≤ℤ b → b ≤ℤ c → a ≤ℤ c
higher a b c one two = grind arith

-- ---- one pair

pair_within : (version : Version) (bound : ℤ) (at lower upper : ℕ) → pair_flaw version bound at lower upper ≡ None → IsWithin bound (record { lower = unpacked lower; upper = unpacked upper })
pair_within version bound at lower upper none =
    let outer = none_or _ _ none in
    let inner = none_or _ _ outer.1 in
    let low = both _ _ (is_well (is_in_range bound lower) Word at outer.0) in
    let high = both _ _ (is_well (is_in_range bound upper) Word (at + word_size version) inner.0) in
    let order = is_well (not (nat_lt upper lower)) Crossed at inner.1 in
    record { from = at_most _ _ low.0; in_order = in_order lower upper order; to = at_most _ _ high.1 }

within_pair : (version : Version) (bound : ℤ) (at lower upper : ℕ) → IsWithin bound (record { lower = unpacked lower; upper = unpacked upper }) → pair_flaw version bound at lower upper ≡ None
within_pair version bound at lower upper within =
    or_none _ _ (no_flaw (is_in_range bound lower) Word at (both_true _ _ (is_at_most _ _ within.from) (is_at_most _ _ (higher _ _ _ within.in_order within.to))))
    (or_none _ _ (no_flaw (is_in_range bound upper) Word (at + word_size version) (both_true _ _ (is_at_most _ _ (higher _ _ _ within.from within.in_order)) (is_at_most _ _ within.to)))
    (no_flaw (not (nat_lt upper lower)) Crossed at (is_in_order lower upper within.in_order)))

-- ---- the first flaw of a pair

pub out_of_range : (bound : ℤ) (word : ℕ) → (IsWithinUnits bound (unpacked word) → ⊥) → is_in_range bound word ≡ false
out_of_range bound word outside = by_test (is_in_range bound word) refl
  where
    by_test : (b : Bool) → is_in_range bound word ≡ b → is_in_range bound word ≡ false
    by_test false e = e
    by_test true e = let parts = both _ _ e in absurd (outside (record { from = at_most _ _ parts.0; to = at_most _ _ parts.1 }))

pub in_range : (bound : ℤ) (word : ℕ) → IsWithinUnits bound (unpacked word) → is_in_range bound word ≡ true
in_range bound word within = both_true _ _ (is_at_most _ _ within.from) (is_at_most _ _ within.to)

pub lower-flaw : (version : Version) (bound : ℤ) (at lower upper : ℕ) → is_in_range bound lower ≡ false → Some (record { fault = Word; at = at }) ≡ pair_flaw version bound at lower upper
lower-flaw version bound at lower upper wrong =
    sym (ap (λ (well : Bool). option_or (flaw_unless well Word at) (option_or (flaw_unless (is_in_range bound upper) Word (at + word_size version)) (flaw_unless (not (nat_lt upper lower)) Crossed at))) wrong)

pub upper-flaw : (version : Version) (bound : ℤ) (at lower upper : ℕ) → is_in_range bound lower ≡ true → is_in_range bound upper ≡ false → Some (record { fault = Word; at = at + word_size version }) ≡ pair_flaw version bound at lower upper
upper-flaw version bound at lower upper right wrong =
    sym (ap₂ (λ (low high : Bool). option_or (flaw_unless low Word at) (option_or (flaw_unless high Word (at + word_size version)) (flaw_unless (not (nat_lt upper lower)) Crossed at))) right wrong)

pub order-flaw : (version : Version) (bound : ℤ) (at lower upper : ℕ) → is_in_range bound lower ≡ true → is_in_range bound upper ≡ true → flaw_unless (not (nat_lt upper lower)) Crossed at ≡ pair_flaw version bound at lower upper
order-flaw version bound at lower upper low high =
    sym (ap₂ (λ (low high : Bool). option_or (flaw_unless low Word at) (option_or (flaw_unless high Word (at + word_size version)) (flaw_unless (not (nat_lt upper lower)) Crossed at))) low high)

pub crossed : (lower upper at : ℕ) → upper < lower → Some (record { fault = Crossed; at = at }) ≡ flaw_unless (not (nat_lt upper lower)) Crossed at
crossed lower upper at less = grind (arith, nat_tests)

pub ordered : (lower upper at : ℕ) → lower ≤ upper → None ≡ flaw_unless (not (nat_lt upper lower)) Crossed at
ordered lower upper at le = grind (arith, nat_tests)

-- ---- all pairs

pair_next : (lower upper : ℕ) (words : List ℕ) (k : ℕ) → pair_in_words (lower ∷ upper ∷ words) (suc k) ≡ pair_in_words words k
pair_next lower upper words k =
    let low : 2 * suc k ≡ suc (suc (2 * k)) = omega arith in
    let high : 2 * suc k + 1 ≡ suc (suc (2 * k + 1)) = omega arith in
    ap₂ (λ (i j : ℕ). record { lower = unpacked (slice_index (lower ∷ upper ∷ words) i); upper = unpacked (slice_index (lower ∷ upper ∷ words) j) }) low high

-- pairs without a flaw lie within the bound
pub none-within : (version : Version) (bound : ℤ) (at : ℕ) (words : List ℕ) → pairs_flaw version bound at words ≡ None → LieWithin bound words
none-within version bound at [] none = λ k lt. absurd (omega (arith, lt))
none-within version bound at (word ∷ []) none = λ k lt. absurd (omega (arith, lt))
none-within version bound at (lower ∷ upper ∷ words) none = each (none-within version bound (at + 2 * word_size version) words (none_or _ _ none).1)
  where
    each : LieWithin bound words → LieWithin bound (lower ∷ upper ∷ words)
    each rest zero lt = pair_within version bound at lower upper (none_or _ _ none).0
    each rest (suc k) lt = subst (IsWithin bound) (sym (pair_next lower upper words k)) (rest k (omega (arith, lt)))

-- and those within it have none
pub within-none : (version : Version) (bound : ℤ) (at : ℕ) (words : List ℕ) → LieWithin bound words → pairs_flaw version bound at words ≡ None
within-none version bound at [] within = refl
within-none version bound at (word ∷ []) within = refl
within-none version bound at (lower ∷ upper ∷ words) within =
    or_none _ _ (within_pair version bound at lower upper (within 0 (omega arith)))
    (within-none version bound (at + 2 * word_size version) words (λ k lt. subst (IsWithin bound) (pair_next lower upper words k) (within (suc k) (omega (arith, lt)))))

-- ---- their words fit

low_fits : (version : Version) (bound : ℤ) (word : ℕ) → bound ≤ℤ WORD_OFFSET → unpacked word ≤ℤ bound → Fits version word
low_fits One bound word most le = grind arith
low_fits Two bound word most le = grind arith
low_fits Three bound word most le = grind arith

pub within-fit : (version : Version) (bound : ℤ) (n : ℕ) (words : List ℕ) → bound ≤ℤ WORD_OFFSET → length words ≡ 2 * n → LieWithin bound words → All (Fits version) words
within-fit version bound n words most even within = All-from_get_or (Fits version) words 0 (λ i lt. each i lt (cases_lt i (2 * (i / 2) + 1)))
  where
    each : (i : ℕ) → i < length words → (i < 2 * (i / 2) + 1) ⊎ (2 * (i / 2) + 1 ≤ i) → Fits version (get_or words i 0)
    each i lt (inl low) =
        let pair = within (i / 2) (omega (arith, lt, even, low)) in
        let is : 2 * (i / 2) ≡ i = omega (arith, low) in
        subst (λ (k : ℕ). Fits version (get_or words k 0)) is (low_fits version bound (slice_index words (2 * (i / 2))) most (higher _ _ _ pair.in_order pair.to))
    each i lt (inr high) =
        let pair = within (i / 2) (omega (arith, lt, even, high)) in
        let is : 2 * (i / 2) + 1 ≡ i = omega (arith, high) in
        subst (λ (k : ℕ). Fits version (get_or words k 0)) is (low_fits version bound (slice_index words (2 * (i / 2) + 1)) most pair.to)
