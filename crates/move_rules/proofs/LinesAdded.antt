-- Entries as lines, and what adding lines to them leaves.
use Rattle.std.proofs.Common.{◌≡◌, ◌≢◌, ◌≤◌, ◌<◌, ◌+◌, ◌-◌, ℕ, zero, suc, List, [], ◌∷◌, ◌++◌, length, take, drop, get_or, Some, None, ◌⊎◌, inl, inr, refl, ap, subst, sym, ◌∙◌, arith, add-one, length-append}
use Rattle.std.proofs.lemmas.List.{append-nil, take-append-le, take_all}
use Rattle.position_rank.specs.Placement.{Placement}
use Rattle.std.proofs.lemmas.Bool.{cases_lt}
use Rattle.std.specs.List.{flat_map}
use Rattle.move_rules.specs.Ends.{Line, down_from, places, after_move}
use Rattle.move_rules.specs.Listing.{full, full_from, or_else, double_lines, pair_lines, HasEnd, AddsNewEnds, lines_of}
use Rattle.move_rules.specs.declared.play.Entry.{Entry}
use Rattle.move_rules.specs.declared.play.Move.{Move}

end_at : (entries : List Entry) (i : ℕ) (d : Entry) → i < length entries → HasEnd (lines_of entries) (get_or entries i d).end
end_at [] i d h = absurd (omega arith)
end_at (e ∷ entries) zero d h = inl refl
end_at (e ∷ entries) (suc i) d h = inr (end_at entries i d (omega arith))

pub reaches-at : (entries : List Entry) (i : ℕ) (entry : Entry) (end : Placement) → i < length entries → entry ≡ get_or entries i entry → entry.end ≡ end → HasEnd (lines_of entries) end
reaches-at entries i entry end h e same =
    subst (λ (q : Placement). HasEnd (lines_of entries) q) (ap (λ (x : Entry). x.end) (sym e) ∙ same) (end_at entries i entry h)

end_cases : (entries : List Entry) (i : ℕ) (d : Entry) (end : Placement) → i < length entries → HasEnd (lines_of (take (suc i) entries)) end → HasEnd (lines_of (take i entries)) end ⊎ (end ≡ (get_or entries i d).end)
end_cases [] i d end h r = absurd (omega arith)
end_cases (e ∷ entries) zero d end h (inl here) = inr here
end_cases (e ∷ entries) zero d end h (inr there) = inl there
end_cases (e ∷ entries) (suc i) d end h (inl here) = inl (inl here)
end_cases (e ∷ entries) (suc i) d end h (inr there) = elim (end_cases entries i d end (omega arith) there) [ inl a ↦ inl (inr a) | inr b ↦ inr b ]

pub reaches-more : (entries : List Entry) (i : ℕ) (entry : Entry) (end : Placement) → i < length entries → entry ≡ get_or entries i entry
    → (HasEnd (lines_of (take i entries)) end → ⊥) → (entry.end ≡ end → ⊥) → HasEnd (lines_of (take (i + 1) entries)) end → ⊥
reaches-more entries i entry end h e before here r = elim (end_cases entries i entry end h (rw add-one at r)) [
  | inl a ↦ before a
  | inr b ↦ here (ap (λ (x : Entry). x.end) e ∙ sym b)
]

-- ---- lines that are added one after the other

pub Adds-append : (found lines after others all : List Line) → AddsNewEnds found lines after → AddsNewEnds after others all → AddsNewEnds found (lines ++ others) all
Adds-append found [] after others all e h = subst (λ (x : List Line). AddsNewEnds x others all) e h
Adds-append found (line ∷ lines) after others all (inl (old, a)) h = inl (old, Adds-append found lines after others all a h)
Adds-append found (line ∷ lines) after others all (inr (new, a)) h = inr (new, Adds-append (found ++ line ∷ []) lines after others all a h)

pub Adds-length : (found lines after : List Line) → AddsNewEnds found lines after → length after ≤ length found + length lines
Adds-length found [] after e = omega (arith, ap (λ (x : List Line). length x) e)
Adds-length found (line ∷ lines) after (inl (old, a)) = omega (arith, Adds-length found lines after a)
Adds-length found (line ∷ lines) after (inr (new, a)) = omega (arith, Adds-length (found ++ line ∷ []) lines after a, length-append found (line ∷ []))

-- ---- places that hold no checker add nothing

pub full_from-empty : (later : List Move → Placement → List Line) (moves : List Move) (p : Placement) (die from : ℕ) → get_or p.mover from 0 ≡ 0 → full_from later moves p die from ≡ []
unfolding full_from after_move
full_from-empty later moves p die from e = rw e refl

pub full_from-none : (later : List Move → Placement → List Line) (moves : List Move) (p : Placement) (die from : ℕ) → after_move p die from ≡ None → full_from later moves p die from ≡ []
unfolding full_from
full_from-none later moves p die from e = rw e refl

pub full_from-some : (later : List Move → Placement → List Line) (moves : List Move) (p : Placement) (die from : ℕ) (q : Placement) → after_move p die from ≡ Some q
    → full_from later moves p die from ≡ later (moves ++ record { from = from; die = die } ∷ []) q
unfolding full_from
full_from-some later moves p die from q e = rw e (append-nil (later (moves ++ record { from = from; die = die } ∷ []) q))

skip : (F : ℕ → List Line) (low n : ℕ) → low ≤ n → ((k : ℕ) → low < k → k ≤ n → F k ≡ []) → flat_map F (down_from n) ≡ flat_map F (down_from low)
skip F low zero h none = let e : low ≡ 0 = omega arith in rw e refl
skip F low (suc n) h none = elim (cases_lt low (suc n)) [
  | inl less ↦ rw (none (suc n) less (omega arith)) (skip F low n (omega arith) (λ k a b. none k a (omega arith)))
  | inr more ↦ (let e : low ≡ suc n = omega arith in rw e refl)
]

-- what is still to be added when the places above this one are done
abbrev pub still : List ℕ → List Move → Placement → ℕ → List Line
still dice moves p from = flat_map (full_from (full (drop 1 dice)) moves p (get_or dice 0 0)) (down_from from)

still-here : (dice : List ℕ) (moves : List Move) (p : Placement) (from low : ℕ) → low < from → ((k : ℕ) → low < k → k < from → get_or p.mover k 0 ≡ 0)
    → still dice moves p from ≡ full_from (full (drop 1 dice)) moves p (get_or dice 0 0) from ++ still dice moves p low
still-here dice moves p zero low h empty = absurd (omega arith)
still-here dice moves p (suc n) low h empty =
    let F : ℕ → List Line = full_from (full (drop 1 dice)) moves p (get_or dice 0 0) in
    ap (λ (x : List Line). F (suc n) ++ x) (skip F low n (omega arith) (λ k a b. full_from-empty (full (drop 1 dice)) moves p (get_or dice 0 0) k (empty k a (omega arith))))

pub full-still : (dice : List ℕ) (moves : List Move) (p : Placement) (low : ℕ) → 0 < length dice → low ≤ 25 → ((k : ℕ) → low < k → k < 26 → get_or p.mover k 0 ≡ 0)
    → full dice moves p ≡ still dice moves p low
unfolding full places
full-still [] moves p low h within empty = absurd (omega arith)
full-still (die ∷ dice) moves p low h within empty =
    skip (full_from (full dice) moves p die) low 25 within (λ k a b. full_from-empty (full dice) moves p die k (empty k a (omega arith)))

pub full-end : (dice : List ℕ) (moves : List Move) (p : Placement) → length dice ≡ 0 → full dice moves p ≡ (moves, p) ∷ []
unfolding full
full-end [] moves p h = refl
full-end (die ∷ dice) moves p h = absurd (omega arith)

-- while lines are added, from the highest place on
pub record AddsUpTo (dice : List ℕ) (moves : List Move) (p : Placement) (found : List Line) (from : ℕ) (now : List Move) (after : List Line) : Type 0 where
  pub place : from ≤ 25
  pub held : 0 < from → 0 < get_or p.mover from 0
  pub same : now ≡ moves
  pub room : length after + length (still dice moves p from) ≤ 81
  pub then : (all : List Line) → AddsNewEnds after (still dice moves p from) all → AddsNewEnds found (full dice moves p) all

pub adds-begin : (dice : List ℕ) (moves : List Move) (p : Placement) (found : List Line) (from : ℕ) → 0 < length dice → from < 26 → (0 < from → 0 < get_or p.mover from 0)
    → ((k : ℕ) → from < k → k < 26 → get_or p.mover k 0 ≡ 0) → length found + length (full dice moves p) ≤ 81 → AddsUpTo dice moves p found from moves found
adds-begin dice moves p found from some within held empty room =
    let e = full-still dice moves p from some (omega arith) empty in
    record { place = omega arith; held = held; same = refl; room = subst (λ (x : List Line). length found + length x ≤ 81) e room; then = λ all h. subst (λ (x : List Line). AddsNewEnds found x all) (sym e) h }

pub adds-more : (dice : List ℕ) (moves : List Move) (p : Placement) (found : List Line) (from : ℕ) (now : List Move) (after : List Line) (low : ℕ) (then : List Move) (new : List Line)
    → AddsUpTo dice moves p found from now after → then ≡ moves → low < from → (0 < low → 0 < get_or p.mover low 0) → ((k : ℕ) → low < k → k < from → get_or p.mover k 0 ≡ 0)
    → AddsNewEnds after (full_from (full (drop 1 dice)) moves p (get_or dice 0 0) from) new → AddsUpTo dice moves p found low then new
adds-more dice moves p found from now after low then new was same less held empty adds =
    let here : List Line = full_from (full (drop 1 dice)) moves p (get_or dice 0 0) from in
    let e = still-here dice moves p from low less empty in
    let count : length (still dice moves p from) ≡ length here + length (still dice moves p low) = rw e (length-append here (still dice moves p low)) in
    record {
      place = omega (arith, was.place);
      held = held;
      same = same;
      room = omega (arith, was.room, count, Adds-length after here new adds);
      then = λ all h. was.then all (rw e (Adds-append after here new (still dice moves p low) all adds h));
    }

-- at a place from which a move can be made there is room for what goes on from it
pub room-here : (dice : List ℕ) (moves : List Move) (p : Placement) (found : List Line) (from : ℕ) (now : List Move) (after : List Line) (q : Placement) (pushed : List Move)
    → AddsUpTo dice moves p found from now after → 0 < from → after_move p (get_or dice 0 0) from ≡ Some q → pushed ≡ now ++ record { from = from; die = get_or dice 0 0 } ∷ []
    → length after + length (full (drop 1 dice) pushed q) ≤ 81
room-here dice moves p found from now after q pushed was some e pushes =
    let split = still-here dice moves p from (from - 1) (omega arith) (λ k a b. absurd (omega arith)) in
    let here : List Line = full_from (full (drop 1 dice)) moves p (get_or dice 0 0) from in
    let count : length (still dice moves p from) ≡ length here + length (still dice moves p (from - 1)) = rw split (length-append here (still dice moves p (from - 1))) in
    let all : here ≡ full (drop 1 dice) pushed q =
    full_from-some (full (drop 1 dice)) moves p (get_or dice 0 0) from q e
    ∙ ap (λ (x : List Move). full (drop 1 dice) x q) (ap (λ (x : List Move). x ++ record { from = from; die = get_or dice 0 0 } ∷ []) (sym was.same) ∙ sym pushes) in
    omega (arith, was.room, count, ap (λ (x : List Line). length x) all)

-- ---- the dice that are left

pub rest-is : (dice : List ℕ) → take (length dice - 1) (drop 1 dice) ≡ drop 1 dice
rest-is [] = refl
rest-is (die ∷ dice) = take_all (length (die ∷ dice) - 1) dice (omega arith)

pub rest-right : (dice : List ℕ) → ((k d : ℕ) → k < length dice → (1 ≤ get_or dice k d) × (get_or dice k d ≤ 6)) → (k d : ℕ) → k < length (drop 1 dice) → (1 ≤ get_or (drop 1 dice) k d) × (get_or (drop 1 dice) k d ≤ 6)
rest-right [] right k d h = absurd (omega arith)
rest-right (die ∷ dice) right k d h = right (suc k) d (omega arith)

pub rest-length : (dice : List ℕ) → length dice ≢ 0 → length (drop 1 dice) + 1 ≡ length dice
rest-length [] h = absurd (h refl)
rest-length (die ∷ dice) h = omega arith

-- ---- one place more

pub popped-is : (old pushed after popped : List Move) (move : Move) → pushed ≡ old ++ move ∷ [] → after ≡ pushed → popped ≡ take (length after - 1) after → popped ≡ old
popped-is old pushed after popped move a b e =
    let whole : after ≡ old ++ move ∷ [] = b ∙ a in
    let count : length after - 1 ≡ length old = omega (arith, ap (λ (x : List Move). length x) whole, length-append old (move ∷ [])) in
    e ∙ (rw (count, whole) (take-append-le (length old) old (move ∷ []) (omega arith) ∙ take_all (length old) old (omega arith)))

pub adds-some : (dice : List ℕ) (moves : List Move) (p : Placement) (found : List Line) (from : ℕ) (now : List Move) (after : List Line) (low : ℕ) (then : List Move) (new : List Line) (q : Placement) (pushed : List Move)
    → AddsUpTo dice moves p found from now after → then ≡ now → low < from → (0 < low → 0 < get_or p.mover low 0) → ((k : ℕ) → low < k → k < from → get_or p.mover k 0 ≡ 0)
    → after_move p (get_or dice 0 0) from ≡ Some q → pushed ≡ now ++ record { from = from; die = get_or dice 0 0 } ∷ []
    → AddsNewEnds after (full (drop 1 dice) pushed q) new → AddsUpTo dice moves p found low then new
adds-some dice moves p found from now after low then new q pushed was same less held empty e pushes adds =
    let all : full_from (full (drop 1 dice)) moves p (get_or dice 0 0) from ≡ full (drop 1 dice) pushed q =
    full_from-some (full (drop 1 dice)) moves p (get_or dice 0 0) from q e
    ∙ ap (λ (x : List Move). full (drop 1 dice) x q) (ap (λ (x : List Move). x ++ record { from = from; die = get_or dice 0 0 } ∷ []) (sym was.same) ∙ sym pushes) in
    adds-more dice moves p found from now after low then new was (same ∙ was.same) less held empty (subst (λ (x : List Line). AddsNewEnds after x new) (sym all) adds)

pub adds-none : (dice : List ℕ) (moves : List Move) (p : Placement) (found : List Line) (from : ℕ) (now : List Move) (after : List Line) (low : ℕ)
    → AddsUpTo dice moves p found from now after → low < from → (0 < low → 0 < get_or p.mover low 0) → ((k : ℕ) → low < k → k < from → get_or p.mover k 0 ≡ 0)
    → after_move p (get_or dice 0 0) from ≡ None → AddsUpTo dice moves p found low now after
adds-none dice moves p found from now after low was less held empty e =
    let all = full_from-none (full (drop 1 dice)) moves p (get_or dice 0 0) from e in
    adds-more dice moves p found from now after low now after was was.same less held empty (subst (λ (x : List Line). AddsNewEnds after x after) (sym all) refl)

pub length-lines : (entries : List Entry) → length (lines_of entries) ≡ length entries
length-lines [] = refl
length-lines (entry ∷ entries) = omega (arith, length-lines entries)

-- ---- lines that are added only if there are none

Adds-grows : (found lines after : List Line) → AddsNewEnds found lines after → length found ≤ length after
Adds-grows found [] after e = omega (arith, ap (λ (x : List Line). length x) e)
Adds-grows found (line ∷ lines) after (inl (old, a)) = Adds-grows found lines after a
Adds-grows found (line ∷ lines) after (inr (new, a)) = omega (arith, Adds-grows (found ++ line ∷ []) lines after a, length-append found (line ∷ []))

Adds-some : (line : Line) (lines after : List Line) → AddsNewEnds [] (line ∷ lines) after → 0 < length after
Adds-some line lines after (inl (old, a)) = absurd old
Adds-some line lines after (inr (new, a)) = omega (arith, Adds-grows (line ∷ []) lines after a)

no_lines : (lines : List Line) → length lines ≡ 0 → lines ≡ []
no_lines [] h = refl
no_lines (line ∷ lines) h = absurd (omega arith)

pub or_else-adds : (found others before after : List Line) → AddsNewEnds [] found before → (length before ≡ 0 → AddsNewEnds before others after) → (0 < length before → after ≡ before) → AddsNewEnds [] (or_else found others) after
or_else-adds [] others before after a none some =
    let empty : length before ≡ 0 = omega (arith, ap (λ (x : List Line). length x) a) in
    subst (λ (x : List Line). AddsNewEnds x others after) (no_lines before empty) (none empty)
or_else-adds (line ∷ lines) others before after a none some = subst (λ (x : List Line). AddsNewEnds [] (line ∷ lines) x) (sym (some (Adds-some line lines before a))) a

pub or_else-four : (a b c d : List Line) → or_else (or_else (or_else a b) c) d ≡ or_else a (or_else b (or_else c d))
or_else-four (x ∷ a) b c d = refl
or_else-four [] (x ∷ b) c d = refl
or_else-four [] [] (x ∷ c) d = refl
or_else-four [] [] [] d = refl

pub or_else-five : (a b c d e : List Line) → or_else (or_else (or_else (or_else a b) c) d) e ≡ or_else a (or_else b (or_else c (or_else d e)))
or_else-five (x ∷ a) b c d e = refl
or_else-five [] b c d e = or_else-four b c d e

-- these lines were added, if there were none
abbrev pub AddsIfNone : List Line → List Line → List Line → Type 0
AddsIfNone before others after = (found : List Line) → AddsNewEnds [] found before → AddsNewEnds [] (or_else found others) after

pub adds-double : (p : Placement) (die : ℕ) (start one two three four five : List Line) → start ≡ []
    → AddsIfNone start (full (die ∷ die ∷ die ∷ die ∷ []) [] p) one → AddsIfNone one (full (die ∷ die ∷ die ∷ []) [] p) two → AddsIfNone two (full (die ∷ die ∷ []) [] p) three
    → AddsIfNone three (full (die ∷ []) [] p) four → AddsIfNone four (full [] [] p) five → AddsNewEnds [] (double_lines p die) five
unfolding double_lines
adds-double p die start one two three four five none a b c d e =
    let A : List Line = full (die ∷ die ∷ die ∷ die ∷ []) [] p in
    let B : List Line = full (die ∷ die ∷ die ∷ []) [] p in
    let C : List Line = full (die ∷ die ∷ []) [] p in
    let D : List Line = full (die ∷ []) [] p in
    let E : List Line = full [] [] p in
    let h : AddsNewEnds [] A one = a [] none in
    let i : AddsNewEnds [] (or_else (or_else (or_else (or_else A B) C) D) E) five = e (or_else (or_else (or_else A B) C) D) (d (or_else (or_else A B) C) (c (or_else A B) (b A h))) in
    subst (λ (x : List Line). AddsNewEnds [] x five) (or_else-five A B C D E) i

pub adds-pair : (p : Placement) (high low : ℕ) (start one two three four five : List Line) → start ≡ []
    → AddsNewEnds start (full (high ∷ low ∷ []) [] p) one → AddsNewEnds one (full (low ∷ high ∷ []) [] p) two
    → AddsIfNone two (full (high ∷ []) [] p) three → AddsIfNone three (full (low ∷ []) [] p) four → AddsIfNone four (full [] [] p) five → AddsNewEnds [] (pair_lines p high low) five
unfolding pair_lines
adds-pair p high low start one two three four five none a b c d e =
    let A : List Line = full (high ∷ low ∷ []) [] p in
    let B : List Line = full (low ∷ high ∷ []) [] p in
    let C : List Line = full (high ∷ []) [] p in
    let D : List Line = full (low ∷ []) [] p in
    let E : List Line = full [] [] p in
    let h : AddsNewEnds [] (A ++ B) two = subst (λ (x : List Line). AddsNewEnds x (A ++ B) two) none (Adds-append start A one B two a b) in
    let i : AddsNewEnds [] (or_else (or_else (or_else (A ++ B) C) D) E) five = e (or_else (or_else (A ++ B) C) D) (d (or_else (A ++ B) C) (c (A ++ B) h)) in
    subst (λ (x : List Line). AddsNewEnds [] x five) (or_else-four (A ++ B) C D E) i
