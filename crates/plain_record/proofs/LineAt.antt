-- The line of a number, as the parts before it are cut off one by one.
use Rattle.std.proofs.Common.{◌≡◌, ◌∙◌, ◌<◌, ◌≤◌, ◌+◌, ◌-◌, ℕ, zero, suc, List, [], ◌∷◌, drop, get_or, ap, sym, arith, get_or-drop}

behind : (n : ℕ) (ps : List (List ℕ)) (p : List ℕ) (more : List (List ℕ)) → drop n ps ≡ p ∷ more → drop (suc n) ps ≡ more
behind zero ps p more is = ap (λ (qs : List (List ℕ)). drop 1 qs) is
behind (suc n) [] p more is = cc
behind (suc n) (q ∷ qs) p more is = behind n qs p more is

-- one part more is cut off
pub cut-more : (i : ℕ) (ps : List (List ℕ)) (p : List ℕ) (more : List (List ℕ)) → 1 ≤ i → drop (i - 1) ps ≡ p ∷ more → drop (i + 1 - 1) ps ≡ more
cut-more i ps p more some is =
    let same : i + 1 - 1 ≡ suc (i - 1) = omega arith in
    rw same (behind (i - 1) ps p more is)

at : (n k : ℕ) (ps qs : List (List ℕ)) → drop n ps ≡ qs → get_or ps (n + k) [] ≡ get_or qs k []
at n k ps qs is = sym (get_or-drop n ps k []) ∙ ap (λ (rest : List (List ℕ)). get_or rest k []) is

-- the first part that is left is the line
pub line-there : (number : ℕ) (ps : List (List ℕ)) (p : List ℕ) (more : List (List ℕ)) → 1 ≤ number → drop (number - 1) ps ≡ p ∷ more → get_or ([] ∷ ps) number [] ≡ p
line-there zero ps p more some is = absurd (omega arith)
line-there (suc n) ps p more some is =
    let same : suc n - 1 ≡ n = omega arith in
    let last : n ≡ n + 0 = omega arith in
    ap (λ (k : ℕ). get_or ps k []) last ∙ at n 0 ps (p ∷ more) (rw same at is)

-- the last part is left, and the line is a later one
pub line-past : (number i : ℕ) (ps : List (List ℕ)) (p : List ℕ) → 1 ≤ i → i < number → drop (i - 1) ps ≡ p ∷ [] → get_or ([] ∷ ps) number [] ≡ []
line-past zero i ps p some later is = absurd (omega arith)
line-past (suc n) i ps p some later is =
    let past : n ≡ (i - 1) + suc (n - i) = omega arith in
    ap (λ (k : ℕ). get_or ps k []) past ∙ at (i - 1) (suc (n - i)) ps (p ∷ []) is
