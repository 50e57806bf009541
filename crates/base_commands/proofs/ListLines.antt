-- The first line of a text.
use Rattle.std.proofs.Common.{◌≡◌, ◌∙◌, ◌<◌, ◌≤◌, ◌+◌, ℕ, suc, Bool, false, true, eqb, ltb, List, [], ◌∷◌, length, take, drop, cond, Option, Some, None, refl, sym, ap, arith}
use Rattle.std.specs.Str.Lines.{lines, lines_of_parts, strip_carriage_return}
use Rattle.std.specs.List.{slice_split, position_or_len, before_first, after_first, onto_first}
use Rattle.std.proofs.lemmas.Bool.Decides.{nat_tests}
use Rattle.std.proofs.lemmas.List.Splits.{length-slice_split, slice_split_first}

abbrev pub is_end : ℕ → Bool
is_end byte = eqb byte 10

more-parts : (x : List ℕ) (parts : List (List ℕ)) → 0 < length parts → lines_of_parts (x ∷ parts) ≡ strip_carriage_return x ∷ lines_of_parts parts
more-parts x [] some = absurd (omega arith)
more-parts x (y ∷ more) some = refl

one-part : (text : List ℕ) → length text ≤ position_or_len is_end text → slice_split is_end text ≡ text ∷ []
one-part [] none = refl
one-part (x ∷ text) none = grind (arith, nat_tests, one-part text)

-- where a search for a line end comes to
abbrev pub found_at : List ℕ → Option ℕ
found_at text = cond (ltb (position_or_len is_end text) (length text)) (Some (position_or_len is_end text)) None

is-at : (n long end : ℕ) → cond (ltb n long) (Some n) None ≡ Some end → (n < long) × (n ≡ end)
is-at n long end is = grind (arith, nat_tests)

is-none : (n long : ℕ) → cond (ltb n long) (Some n) None ≡ None → long ≤ n
is-none n long is = grind (arith, nat_tests)

-- a text with a line end
pub line-ended : (text : List ℕ) (end : ℕ) → found_at text ≡ Some end → lines text ≡ strip_carriage_return (take end text) ∷ lines (drop (end + 1) text)
line-ended text end found =
    let at = is-at (position_or_len is_end text) (length text) end found in
    let behind = after_first is_end text in
    ap lines_of_parts (slice_split_first is_end text 0 at.0)
    ∙ more-parts (before_first is_end text) (slice_split is_end behind) (omega (arith, length-slice_split is_end behind))
    ∙ ap (λ (n : ℕ). strip_carriage_return (take n text) ∷ lines (drop (n + 1) text)) at.1

pub none-left : (text : List ℕ) → eqb (length text) 0 ≡ true → text ≡ []
none-left [] none = refl
none-left (x ∷ text) none = grind (arith, nat_tests)

-- one without
pub line-unended : (text : List ℕ) → 1 ≤ length text → found_at text ≡ None → lines text ≡ text ∷ []
line-unended [] some found = absurd (omega arith)
line-unended (x ∷ text) some found =
    let full : eqb (length (x ∷ text)) 0 ≡ false = grind (arith, nat_tests) in
    ap lines_of_parts (one-part (x ∷ text) (is-none (position_or_len is_end (x ∷ text)) (length (x ∷ text)) found))
    ∙ ap (λ (none : Bool). cond none [] ((x ∷ text) ∷ [])) full
