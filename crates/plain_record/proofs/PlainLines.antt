-- Plain lines are read as themselves.
use Rattle.std.proofs.Common.{◌≡◌, ◌∙◌, ◌<◌, ◌≤◌, ◌+◌, ◌-◌, ℕ, zero, suc, Bool, true, false, ◌&&◌, eqb, ltb, nat_eq, List, [], ◌∷◌, ◌++◌, length, drop, get_or, codes, append_assoc, refl, sym, ap, subst, arith}
use Rattle.std.specs.Cmp.Lexicographic.{pointwise}
use Rattle.std.specs.List.{All, flat_map, join_with_byte, list_all, range_with_len}
use Rattle.std.specs.List.{count_by}
use Rattle.std.specs.Str.Lines.{lines, lines_of_parts, strip_carriage_return}
use Rattle.std.proofs.lemmas.Bool.Decides.{nat_tests}
use Rattle.std.proofs.lemmas.List.{append-nil}
use Rattle.std.proofs.lemmas.List.Splits.{slice_split_none, slice_split_at, join_with_byte-slice_split, length-slice_split}
use Rattle.plain_record.specs.Plain.{line_if_any, line_numbers, line_of_words, line_read, more_checkers, numbers_from, parts, plain_text, says_nothing, spaced, steps_of, way_told, word_read, words_read}
use Rattle.plain_record.specs.PlainLines.{IsPlainLine, ended_lines, is_plain_byte, is_plain_word, is_slash_byte}
use Rattle.plain_record.proofs.Parts.{is_byte, more-parts}

pub both : (a b : Bool) → (a && b) ≡ true → (a ≡ true) × (b ≡ true)
both true b e = (refl, e)
both false b e = absurd (cc)

-- ---- words

-- no byte up to 40 stands in it
abbrev Lacks : ℕ → List ℕ → Type 0
Lacks byte text = All (λ x. eqb x byte ≡ false) text

lacks-cons : (byte x : ℕ) (text : List ℕ) → eqb x byte ≡ false → Lacks byte text → Lacks byte (x ∷ text)
lacks-cons byte x text here later zero d low = here
lacks-cons byte x text here later (suc k) d low = later k d (omega arith)

lacks-low : (byte : ℕ) (word : List ℕ) → byte ≤ 40 → list_all is_plain_byte word ≡ true → Lacks byte word
lacks-low byte [] low h = λ k d below. absurd (omega arith)
lacks-low byte (x ∷ word) low h =
    let (here, later) = both (ltb 40 x) (list_all is_plain_byte word) h in
    let other : eqb x byte ≡ false = grind (arith, nat_tests) in
    lacks-cons byte x word other (lacks-low byte word low later)

-- no number of checkers stands behind it
no-count : (digit k : ℕ) (word : List ℕ) → list_all is_plain_byte word ≡ true → pointwise nat_eq (40 ∷ digit ∷ 41 ∷ []) (drop k word) ≡ false
no-count digit zero [] h = refl
no-count digit (suc k) [] h = refl
no-count digit zero (x ∷ word) h =
    let (here, later) = both (ltb 40 x) (list_all is_plain_byte word) h in
    let other : nat_eq 40 x ≡ false = grind (arith, nat_tests) in
    rw other refl
no-count digit (suc k) (x ∷ word) h = no-count digit k word (both (ltb 40 x) (list_all is_plain_byte word) h).1

none-more : (word : List ℕ) → list_all is_plain_byte word ≡ true → more_checkers word ≡ 0
none-more word h = rw (no-count 50 (length word - 3) word h, no-count 51 (length word - 3) word h, no-count 52 (length word - 3) word h) refl

same-way : (word : List ℕ) → list_all is_plain_byte word ≡ true → way_told word ≡ word
same-way word h = rw (none-more word h) refl

-- a word that is one step at most
one-step : (word : List ℕ) (ps : List (List ℕ)) → length ps ≤ 2 → word ≡ join_with_byte 47 ps → steps_of word 0 ps ≡ word ∷ []
one-step word [] few is = refl
one-step word (p ∷ []) few is = refl
one-step word (p ∷ q ∷ []) few is = ap (λ (w : List ℕ). w ∷ []) (append_assoc p (codes "/") q ∙ sym is)
one-step word (p ∷ q ∷ r ∷ ps) few is = absurd (omega arith)

pub plain-word : (word : List ℕ) → is_plain_word word ≡ true → words_read word ≡ word ∷ []
plain-word word h =
    let (front, slashes) = both (ltb 0 (length word) && list_all is_plain_byte word) (ltb (count_by is_slash_byte word) 2) h in
    let bytes = (both (ltb 0 (length word)) (list_all is_plain_byte word) front).1 in
    let few : count_by is_slash_byte word < 2 = grind (arith, nat_tests) in
    let long = length-slice_split (is_byte 47) word in
    let short : length (parts 47 word) ≤ 2 = omega (arith, long, few) in
    ap (λ (n : ℕ). steps_of word n (parts 47 (way_told word))) (none-more word bytes)
    ∙ ap (λ (way : List ℕ). steps_of word 0 (parts 47 way)) (same-way word bytes)
    ∙ one-step word (parts 47 word) short (sym (join_with_byte-slice_split 47 word))

-- ---- lines

words-stay : (first : List ℕ) (later : List (List ℕ)) → list_all is_plain_word later ≡ true → line_of_words (first ∷ later) ≡ join_with_byte 32 (first ∷ later)
words-stay first [] h = append-nil first
words-stay first (word ∷ later) h =
    let (here, more) = both (is_plain_word word) (list_all is_plain_word later) h in
    let one : word_read word ≡ 32 ∷ word = ap (flat_map spaced) (plain-word word here) ∙ append-nil (32 ∷ word) in
    ap (λ (text : List ℕ). first ++ (text ++ flat_map word_read later)) one ∙ ap (λ (text : List ℕ). first ++ (32 ∷ text)) (words-stay word later more)

bytes-of : (word : List ℕ) → is_plain_word word ≡ true → list_all is_plain_byte word ≡ true
bytes-of word h = (both (ltb 0 (length word)) (list_all is_plain_byte word) (both (ltb 0 (length word) && list_all is_plain_byte word) (ltb (count_by is_slash_byte word) 2) h).0).1

split-words : (first : List ℕ) (later : List (List ℕ)) → list_all is_plain_word (first ∷ later) ≡ true → parts 32 (join_with_byte 32 (first ∷ later)) ≡ first ∷ later
split-words first [] h = slice_split_none (is_byte 32) first (lacks-low 32 first (omega arith) (bytes-of first (both (is_plain_word first) true h).0))
split-words first (word ∷ later) h =
    let (here, more) = both (is_plain_word first) (list_all is_plain_word (word ∷ later)) h in
    slice_split_at (is_byte 32) first 32 (join_with_byte 32 (word ∷ later)) (lacks-low 32 first (omega arith) (bytes-of first here)) refl ∙ ap (λ (ws : List (List ℕ)). first ∷ ws) (split-words word later more)

line-stays : (line : List ℕ) → IsPlainLine line → line_read line ≡ line
line-stays line plain =
    let later = (both (is_plain_word plain.first) (list_all is_plain_word plain.later) plain.plain).1 in
    ap line_read plain.words ∙ ap line_of_words (split-words plain.first plain.later plain.plain) ∙ words-stay plain.first plain.later later ∙ sym plain.words

-- its bytes
abbrev is_inner : ℕ → Bool
is_inner byte = ltb 13 byte

inner-append : (a b : List ℕ) → list_all is_plain_byte a ≡ true → list_all is_inner b ≡ true → list_all is_inner (a ++ b) ≡ true
inner-append [] b h k = k
inner-append (x ∷ a) b h k =
    let (here, later) = both (ltb 40 x) (list_all is_plain_byte a) h in
    let high : ltb 13 x ≡ true = grind (arith, nat_tests) in
    rw high (inner-append a b later k)

inner-words : (first : List ℕ) (later : List (List ℕ)) → list_all is_plain_word (first ∷ later) ≡ true → list_all is_inner (join_with_byte 32 (first ∷ later)) ≡ true
inner-words first [] h = subst (λ (text : List ℕ). list_all is_inner text ≡ true) (append-nil first) (inner-append first [] (bytes-of first (both (is_plain_word first) true h).0) refl)
inner-words first (word ∷ later) h =
    let (here, more) = both (is_plain_word first) (list_all is_plain_word (word ∷ later)) h in
    inner-append first (32 ∷ join_with_byte 32 (word ∷ later)) (bytes-of first here) (inner-words word later more)

inner-at : (line : List ℕ) (k : ℕ) → list_all is_inner line ≡ true → k < length line → ltb 13 (get_or line k 0) ≡ true
inner-at [] k h low = absurd (omega arith)
inner-at (x ∷ line) zero h low = (both (ltb 13 x) (list_all is_inner line) h).0
inner-at (x ∷ line) (suc k) h low = inner-at line k (both (ltb 13 x) (list_all is_inner line) h).1 (omega arith)

inner-no-end : (line : List ℕ) → list_all is_inner line ≡ true → Lacks 10 line
inner-no-end [] h = λ k d low. absurd (omega arith)
inner-no-end (x ∷ line) h =
    let (here, later) = both (ltb 13 x) (list_all is_inner line) h in
    let other : eqb x 10 ≡ false = grind (arith, nat_tests) in
    lacks-cons 10 x line other (inner-no-end line later)

no-return : (line : List ℕ) → 0 < length line → list_all is_inner line ≡ true → strip_carriage_return line ≡ line
no-return line some h =
    let at = inner-at line (length line - 1) h (omega arith) in
    let other : eqb (get_or line (length line - 1) 0) 13 ≡ false = grind (arith, nat_tests) in
    rw other refl

-- a text whose first byte is high
says-high : (x : ℕ) (line : List ℕ) → ltb 40 x ≡ true → says_nothing (x ∷ line) ≡ false
says-high x line high =
    let hash : eqb x 35 ≡ false = grind (arith, nat_tests) in
    let space : eqb x 32 ≡ false = grind (arith, nat_tests) in
    let tab : eqb x 9 ≡ false = grind (arith, nat_tests) in
    rw (hash, space, tab) refl

says-words : (first : List ℕ) (later : List (List ℕ)) → is_plain_word first ≡ true → (says_nothing (join_with_byte 32 (first ∷ later)) ≡ false) × (0 < length (join_with_byte 32 (first ∷ later)))
says-words [] later h = absurd (cc)
says-words (x ∷ first) [] h = (says-high x first (both (ltb 40 x) (list_all is_plain_byte first) (bytes-of (x ∷ first) h)).0, omega arith)
says-words (x ∷ first) (word ∷ later) h = (says-high x (first ++ 32 ∷ join_with_byte 32 (word ∷ later)) (both (ltb 40 x) (list_all is_plain_byte first) (bytes-of (x ∷ first) h)).0, omega arith)

-- what is known of a plain line
record Stays (line : List ℕ) : Type 0 where
  no_end : Lacks 10 line
  no_return : strip_carriage_return line ≡ line
  says : says_nothing line ≡ false
  read : line_read line ≡ line

stays : (line : List ℕ) → IsPlainLine line → Stays line
stays line plain =
    let says = says-words plain.first plain.later (both (is_plain_word plain.first) (list_all is_plain_word plain.later) plain.plain).0 in
    let inner = subst (λ (text : List ℕ). list_all is_inner text ≡ true) (sym plain.words) (inner-words plain.first plain.later plain.plain) in
    record {
      no_end = inner-no-end line inner;
      no_return = no-return line (subst (λ (text : List ℕ). 0 < length text) (sym plain.words) says.1) inner;
      says = ap says_nothing plain.words ∙ says.0;
      read = line-stays line plain;
    }

-- ---- texts

lines-again : (list : List (List ℕ)) → All IsPlainLine list → lines (ended_lines list) ≡ list
lines-again [] h = refl
lines-again (line ∷ list) h =
    let one = stays line (h 0 line (omega arith)) in
    let rest = ended_lines list in
    let apart : (line ++ 10 ∷ []) ++ rest ≡ line ++ 10 ∷ rest = append_assoc line (10 ∷ []) rest in
    ap lines apart
    ∙ ap lines_of_parts (slice_split_at (is_byte 10) line 10 rest one.no_end refl)
    ∙ more-parts line (parts 10 rest) (omega (arith, length-slice_split (is_byte 10) rest))
    ∙ ap (λ (l : List ℕ). l ∷ lines rest) one.no_return
    ∙ ap (λ (ls : List (List ℕ)). line ∷ ls) (lines-again list (λ k d low. h (suc k) d (omega arith)))

each-line : (list : List (List ℕ)) → All IsPlainLine list → flat_map line_if_any list ≡ ended_lines list
each-line [] h = refl
each-line (line ∷ list) h =
    let one = stays line (h 0 line (omega arith)) in
    rw (one.says, one.read) (ap (λ (text : List ℕ). (line ++ 10 ∷ []) ++ text) (each-line list (λ k d low. h (suc k) d (omega arith))))

each-number : (number : ℕ) (list : List (List ℕ)) → All IsPlainLine list → numbers_from number list ≡ range_with_len number (length list + 1)
each-number number [] h = refl
each-number number (line ∷ list) h =
    let one = stays line (h 0 line (omega arith)) in
    let more : suc (length list) + 1 ≡ suc (length list + 1) = omega arith in
    rw (one.says, more) (ap (λ (ns : List ℕ). number ∷ ns) (each-number (number + 1) list (λ k d low. h (suc k) d (omega arith))))

pub text-stays : (list : List (List ℕ)) → All IsPlainLine list → plain_text (ended_lines list) ≡ ended_lines list
text-stays list h = ap (flat_map line_if_any) (lines-again list h) ∙ each-line list h

pub numbers-stay : (list : List (List ℕ)) → All IsPlainLine list → line_numbers (ended_lines list) ≡ range_with_len 0 (length list + 2)
numbers-stay list h =
    let more : length list + 2 ≡ suc (length list + 1) = omega arith in
    rw more (ap (λ (ls : List (List ℕ)). 0 ∷ numbers_from 1 ls) (lines-again list h) ∙ ap (λ (ns : List ℕ). 0 ∷ ns) (each-number 1 list h))
