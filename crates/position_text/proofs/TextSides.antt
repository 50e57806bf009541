-- The places of both sides, as the words are read from the front.
use Rattle.std.proofs.Common.{◌≡◌, ◌≤◌, ◌<◌, ◌+◌, ℕ, zero, suc, Bool, true, false, not, cond, ◌&&◌, List, [], ◌∷◌, ◌++◌, length, take, drop, count_by, Option, Some, None, refl, sym, ap, ◌∙◌, arith, append_assoc, length-take, length-append, get_or}
use Rattle.std.proofs.lemmas.List.{append-nil, take_all}
use Rattle.std.proofs.lemmas.List.Sums.{sum_by-cons}
use Rattle.std.proofs.Math.Seq.{drop-cons}
use Rattle.std.specs.List.{filter_map, prefix_len}
use Rattle.position_text.specs.Text.{place, is_slash, before_slash, after_slash, are_places}
use Rattle.position_text.specs.declared.text.TheConstants.{KEPT}

abbrev pub first : List ℕ → List ℕ
first places = take KEPT places

-- what the places so far and the words that are left give
abbrev pub outcome : Bool → List ℕ → List ℕ → List (List ℕ) → Option (List ℕ × List ℕ)
outcome true mover other left = cond (are_places left) (Some (first mover, first (other ++ filter_map place left))) None
outcome false mover other left =
    cond (are_places (before_slash left) && are_places (after_slash left)) (Some (first (mover ++ filter_map place (before_slash left)), first (other ++ filter_map place (after_slash left)))) None

abbrev pub slashes_left : Bool → ℕ
slashes_left past = cond past 0 1

-- these words are left of all of them, after these places of both sides
pub record IsRead (all : List (List ℕ)) (past : Bool) (mover other : List ℕ) (left : List (List ℕ)) : Type 0 where
  pub same : outcome false [] [] all ≡ outcome past mover other left
  pub slashes : count_by is_slash left ≡ slashes_left past
  pub mover_kept : length mover ≤ KEPT
  pub other_kept : length other ≤ KEPT

pub before-slash : (w : List ℕ) (ws : List (List ℕ)) → is_slash w ≡ true → before_slash (w ∷ ws) ≡ []
before-slash w ws e = rw e refl

pub after-slash : (w : List ℕ) (ws : List (List ℕ)) → is_slash w ≡ true → after_slash (w ∷ ws) ≡ ws
after-slash w ws e = rw e refl

pub before-word : (w : List ℕ) (ws : List (List ℕ)) → is_slash w ≡ false → before_slash (w ∷ ws) ≡ w ∷ before_slash ws
before-word w ws e =
    let n = prefix_len (λ x. not (is_slash x)) ws in
    let next : 1 + n ≡ suc n = omega arith in
    rw e (rw next refl)

pub after-word : (w : List ℕ) (ws : List (List ℕ)) → is_slash w ≡ false → after_slash (w ∷ ws) ≡ after_slash ws
after-word w ws e =
    let n = prefix_len (λ x. not (is_slash x)) ws in
    let next : 1 + n + 1 ≡ suc (n + 1) = omega arith in
    rw e (rw next refl)

pub count-slash : (w : List ℕ) (ws : List (List ℕ)) → is_slash w ≡ true → count_by is_slash (w ∷ ws) ≡ 1 + count_by is_slash ws
count-slash w ws e = sum_by-cons (λ x. cond (is_slash x) 1 0) w ws ∙ ap (λ b. cond b 1 0 + count_by is_slash ws) e

pub count-word : (w : List ℕ) (ws : List (List ℕ)) → is_slash w ≡ false → count_by is_slash (w ∷ ws) ≡ 0 + count_by is_slash ws
count-word w ws e = sum_by-cons (λ x. cond (is_slash x) 1 0) w ws ∙ ap (λ b. cond b 1 0 + count_by is_slash ws) e

take-onto : {X : Type 0} (n : ℕ) (xs ys : List X) → take n (take n xs ++ ys) ≡ take n (xs ++ ys)
take-onto zero xs ys = refl
take-onto (suc n) [] ys = refl
take-onto (suc n) (x ∷ xs) ys = ap (λ zs. x ∷ zs) (take-onto n xs ys)

first-onto : (xs : List ℕ) (p : ℕ) (ys : List ℕ) → first (first (xs ++ p ∷ []) ++ ys) ≡ first (xs ++ p ∷ ys)
first-onto xs p ys = take-onto KEPT (xs ++ p ∷ []) ys ∙ ap first (append_assoc xs (p ∷ []) ys)

first-kept : (xs : List ℕ) → length (first xs) ≤ KEPT
first-kept xs = omega (arith, length-take KEPT xs)

pub read-start : (ws : List (List ℕ)) → count_by is_slash ws ≡ 1 → IsRead ws false [] [] ws
read-start ws e = record { same = refl; slashes = e; mover_kept = omega arith; other_kept = omega arith }

pub read-slash : (ws : List (List ℕ)) (past : Bool) (mover other : List ℕ) (w : List ℕ) (left : List (List ℕ)) → IsRead ws past mover other (w ∷ left) → is_slash w ≡ true → IsRead ws true mover other left
read-slash ws true mover other w left h e =
    absurd (omega (arith, h.slashes, count-slash w left e))
read-slash ws false mover other w left h e =
    record {
      same = h.same ∙ rw (before-slash w left e, after-slash w left e, append-nil mover) refl;
      slashes = omega (arith, h.slashes, count-slash w left e);
      mover_kept = h.mover_kept;
      other_kept = h.other_kept;
    }

pub read-other : (ws : List (List ℕ)) (past : Bool) (mover other kept : List ℕ) (w : List ℕ) (left : List (List ℕ)) (p : ℕ) → IsRead ws past mover other (w ∷ left) → past ≡ true → is_slash w ≡ false → place w ≡ Some p → kept ≡ first (other ++ p ∷ []) → IsRead ws past mover kept left
read-other ws false mover other kept w left p h b e at k = absurd (cc)
read-other ws true mover other kept w left p h b e at k = rw k (record {
  same = h.same ∙ rw (at, first-onto other p (filter_map place left)) refl;
  slashes = omega (arith, h.slashes, count-word w left e);
  mover_kept = h.mover_kept;
  other_kept = first-kept (other ++ p ∷ []);
})

pub read-mover : (ws : List (List ℕ)) (past : Bool) (mover other kept : List ℕ) (w : List ℕ) (left : List (List ℕ)) (p : ℕ) → IsRead ws past mover other (w ∷ left) → past ≡ false → is_slash w ≡ false → place w ≡ Some p → kept ≡ first (mover ++ p ∷ []) → IsRead ws past kept other left
read-mover ws true mover other kept w left p h b e at k = absurd (cc)
read-mover ws false mover other kept w left p h b e at k = rw k (record {
  same = h.same ∙ rw (before-word w left e, after-word w left e) (rw (at, first-onto mover p (filter_map place (before_slash left))) refl);
  slashes = omega (arith, h.slashes, count-word w left e);
  mover_kept = first-kept (mover ++ p ∷ []);
  other_kept = h.other_kept;
})

told-none : {X : Type 0} (b : Bool) (x : X) → cond b (Some x) None ≡ None → b ≡ false
told-none true x e = absurd (cc)
told-none false x e = refl

told-some : {X : Type 0} (b : Bool) (x y : X) → cond b (Some x) None ≡ Some y → (b ≡ true) × (x ≡ y)
told-some true x y e = (refl, cc)
told-some false x y e = absurd (cc)

pub read-wrong : (ws : List (List ℕ)) (past : Bool) (mover other : List ℕ) (w : List ℕ) (left : List (List ℕ)) → IsRead ws past mover other (w ∷ left) → is_slash w ≡ false → place w ≡ None → (are_places (before_slash ws) && are_places (after_slash ws)) ≡ false
read-wrong ws true mover other w left h e at = told-none _ _ (h.same ∙ rw at refl)
read-wrong ws false mover other w left h e at = told-none _ _ (h.same ∙ rw (before-word w left e, after-word w left e) (rw at refl))

pub record AreSides (ws : List (List ℕ)) (mover other : List ℕ) : Type 0 where
  pub places : (are_places (before_slash ws) && are_places (after_slash ws)) ≡ true
  pub mover_is : mover ≡ first (filter_map place (before_slash ws))
  pub other_is : other ≡ first (filter_map place (after_slash ws))

pub read-done : (ws : List (List ℕ)) (past : Bool) (mover other : List ℕ) → IsRead ws past mover other [] → AreSides ws mover other
read-done ws false mover other h = absurd (omega (arith, h.slashes))
read-done ws true mover other h =
    let told = told-some _ _ _ h.same in
    record {
      places = told.0;
      mover_is = sym (ap (λ (s : List ℕ × List ℕ). s.0) told.1 ∙ take_all KEPT mover h.mover_kept);
      other_is = sym (ap (λ (s : List ℕ × List ℕ). s.1) told.1 ∙ ap first (append-nil other) ∙ take_all KEPT other h.other_kept);
    }

-- the item at its place is the next of the words that are left
pub next-word : {B : Type 0} (ws : List (List ℕ)) (items : List B) (item : B) (w : List ℕ) → (length items < length ws) × (w ≡ get_or ws (length items) w) → drop (length items) ws ≡ w ∷ drop (length (items ++ item ∷ [])) ws
next-word ws items item w (low, is) =
    let more : length (items ++ item ∷ []) ≡ suc (length items) = omega (arith, length-append items (item ∷ [])) in
    rw more (drop-cons ws (length items) w low ∙ ap (λ v. v ∷ drop (suc (length items)) ws) (sym is))

pub drop_all : {X : Type 0} (xs : List X) (n : ℕ) → n ≡ length xs → drop n xs ≡ []
drop_all xs n e = drop-past xs n (omega arith) where
  drop-past : {X : Type 0} (xs : List X) (n : ℕ) → length xs ≤ n → drop n xs ≡ []
  drop-past [] zero h = refl
  drop-past [] (suc n) h = refl
  drop-past (x ∷ xs) zero h = absurd (omega arith)
  drop-past (x ∷ xs) (suc n) h = drop-past xs n (omega arith)

pub told-apart : (b : Bool) → b ≡ false → b ≡ true → ⊥
told-apart b f t = cc
