-- The parts of a text, and its first line.
use Rattle.std.proofs.Common.{◌≡◌, ◌∙◌, ◌<◌, ◌≤◌, ◌+◌, ℕ, Bool, false, eqb, ltb, List, [], ◌∷◌, length, take, drop, cond, Option, Some, None, refl, ap, arith}
use Rattle.std.specs.Str.Lines.{lines, lines_of_parts, strip_carriage_return}
use Rattle.std.specs.List.{position_or_len}
use Rattle.std.proofs.lemmas.Bool.Decides.{nat_tests}
use Rattle.std.proofs.lemmas.List.Splits.{length-slice_split, slice_split_first}
use Rattle.plain_record.specs.Plain.{parts}

abbrev pub is_byte : ℕ → ℕ → Bool
is_byte byte other = eqb other byte

-- where a search for the byte comes to
abbrev pub found_at : ℕ → List ℕ → Option ℕ
found_at byte text = cond (ltb (position_or_len (is_byte byte) text) (length text)) (Some (position_or_len (is_byte byte) text)) None

one-part : (byte : ℕ) (text : List ℕ) → length text ≤ position_or_len (is_byte byte) text → parts byte text ≡ text ∷ []
one-part byte [] none = refl
one-part byte (x ∷ text) none = grind (arith, nat_tests, one-part byte text)

is-at : (n long end : ℕ) → cond (ltb n long) (Some n) None ≡ Some end → (n < long) × (n ≡ end)
is-at n long end is = grind (arith, nat_tests)

is-none : (n long : ℕ) → cond (ltb n long) (Some n) None ≡ None → long ≤ n
is-none n long is = grind (arith, nat_tests)

pub cut-some : (byte : ℕ) (text : List ℕ) (at : ℕ) → found_at byte text ≡ Some at → parts byte text ≡ take at text ∷ parts byte (drop (at + 1) text)
cut-some byte text at found =
    let is = is-at (position_or_len (is_byte byte) text) (length text) at found in
    slice_split_first (is_byte byte) text 0 is.0 ∙ ap (λ (n : ℕ). take n text ∷ parts byte (drop (n + 1) text)) is.1

pub cut-none : (byte : ℕ) (text : List ℕ) → found_at byte text ≡ None → parts byte text ≡ text ∷ []
cut-none byte text found = one-part byte text (is-none (position_or_len (is_byte byte) text) (length text) found)

-- ---- lines

pub more-parts : (x : List ℕ) (ps : List (List ℕ)) → 0 < length ps → lines_of_parts (x ∷ ps) ≡ strip_carriage_return x ∷ lines_of_parts ps
more-parts x [] some = absurd (omega arith)
more-parts x (y ∷ more) some = refl

-- a text with a line end
pub line-ended : (text : List ℕ) (end : ℕ) → found_at 10 text ≡ Some end → lines text ≡ strip_carriage_return (take end text) ∷ lines (drop (end + 1) text)
line-ended text end found =
    ap lines_of_parts (cut-some 10 text end found)
    ∙ more-parts (take end text) (parts 10 (drop (end + 1) text)) (omega (arith, length-slice_split (is_byte 10) (drop (end + 1) text)))

-- one without
pub line-unended : (text : List ℕ) → 1 ≤ length text → found_at 10 text ≡ None → lines text ≡ text ∷ []
line-unended [] some found = absurd (omega arith)
line-unended (x ∷ text) some found =
    let full : eqb (length (x ∷ text)) 0 ≡ false = grind (arith, nat_tests) in
    ap lines_of_parts (cut-none 10 (x ∷ text) found) ∙ ap (λ (none : Bool). cond none [] ((x ∷ text) ∷ [])) full

-- ---- what is left

-- it falls with each part that is cut off
abbrev pub left_over : Option (List ℕ) → ℕ
left_over None = 0
left_over (Some rest) = length rest + 1
