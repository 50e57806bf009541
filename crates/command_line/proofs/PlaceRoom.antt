-- The room that the plain form of a text takes.
use Rattle.std.proofs.Common.{◌≡◌, ◌≤◌, ◌<◌, ◌+◌, ◌*◌, ◌==◌, ℕ, Bool, true, false, cond, List, [], ◌∷◌, ◌++◌, length, drop, get_or, fold, refl, sym, ap, ◌∙◌, arith, length-append}
use Rattle.std.specs.Prelude.{if◌then◌else◌}
use Rattle.std.specs.List.{onto_first}
use Rattle.std.proofs.lemmas.List.{drop_more}
use Rattle.position_text.specs.TextParts.{add_word}
use Rattle.position_text.specs.Text.{words}
use Rattle.command_line.specs.Plain.{whole_place, add_place}

-- a space before each word, and at most two signs more
abbrev pub space_for : List (List ℕ) → ℕ
space_for [] = 0
space_for (w ∷ ws) = 2 * (length w + 1) + space_for ws

onto-space : (x n : ℕ) (parts : List (List ℕ)) → space_for parts ≡ 2 * (n + 1) → space_for (onto_first x parts) ≡ 2 * (n + 2)
onto-space x n [] e = absurd (omega (arith, e))
onto-space x n (part ∷ parts) e = omega (arith, e)

cut-space : (cut : Bool) (b : ℕ) (text : List ℕ) → space_for (words text) ≡ 2 * (length text + 1) → space_for (cond cut ([] ∷ words text) (onto_first b (words text))) ≡ 2 * (length text + 2)
cut-space true b text e = omega (arith, e)
cut-space false b text e = onto-space b (length text) (words text) e

pub split-space : (text : List ℕ) → space_for (words text) ≡ 2 * (length text + 1)
split-space [] = refl
split-space (b ∷ text) = cut-space (b == 32) b text (split-space text) ∙ omega arith

-- the next of the words that are left
pub next-place : (ws : List (List ℕ)) (i : ℕ) (w : List ℕ) → (i < length ws) × (w ≡ get_or ws i w) → drop i ws ≡ w ∷ drop (i + 1) ws
next-place ws i w h = drop_more ws i w h.0 ∙ ap (λ x. x ∷ drop (i + 1) ws) (sym h.1)

-- a word behind a text, and the space for it
behind-room : (empty : Bool) (text word : List ℕ) → length (if empty then word else text ++ 32 ∷ word) ≤ length text + 1 + length word
behind-room true text word = omega arith
behind-room false text word = omega (arith, length-append text (32 ∷ word))

pub word-room : (text word whole : List ℕ) (left : ℕ) → length whole ≤ 2 * length word + 1 → length text + (2 * (length word + 1) + left) ≤ 1538 → length (add_word text whole) + left ≤ 1538
word-room text word whole left short room = omega (arith, behind-room (length text == 0) text whole)

-- one word more is read
pub place-step : (text word : List ℕ) (ws : List (List ℕ)) (whole : List ℕ) → (length word == 0) ≡ false → whole ≡ whole_place word → fold add_place text (word ∷ ws) ≡ fold add_place (add_word text whole) ws
place-step text word ws whole some is = ap (λ (b : Bool). fold add_place (if b then text else add_word text (whole_place word)) ws) some ∙ ap (λ w. fold add_place (add_word text w) ws) (sym is)

pub empty-step : (text word : List ℕ) (ws : List (List ℕ)) → (length word == 0) ≡ true → fold add_place text (word ∷ ws) ≡ fold add_place text ws
empty-step text word ws none = ap (λ (b : Bool). fold add_place (if b then text else add_word text (whole_place word)) ws) none
