-- Pairs of words, two at a time.
use Rattle.std.proofs.Common.{◌≡◌, ◌∙◌, ℕ, ◌+◌, ◌*◌, ◌<◌, List, [], ◌∷◌, length, drop, get_or, refl, sym, ap, arith, ℤ, Option, None}
use Rattle.std.proofs.lemmas.List.{drop_more}
use Rattle.word_pages.specs.declared.version.Version.{Version}
use Rattle.std.specs.Option.{option_or}
use Rattle.word_pages.specs.declared.flaws.Flaw.{Flaw}
use Rattle.word_pages.specs.Words.{word_size}
use Rattle.word_pages.specs.Flaws.{pair_flaw, pairs_flaw}

-- the next two words
pub drop_pair : (n : ℕ) (words : List ℕ) → n + 1 < length words → drop n words ≡ get_or words n 0 ∷ get_or words (n + 1) 0 ∷ drop (n + 2) words
drop_pair n words lt =
    let two : n + 1 + 1 ≡ n + 2 = omega arith in
    drop_more words n 0 (omega (arith, lt)) ∙ ap (λ (rest : List ℕ). get_or words n 0 ∷ rest) (drop_more words (n + 1) 0 lt ∙ ap (λ k. get_or words (n + 1) 0 ∷ drop k words) two)

-- less than two words are no pair
pub no_pair : (version : Version) (bound : ℤ) (at : ℕ) (words : List ℕ) → length words < 2 → pairs_flaw version bound at words ≡ None
no_pair version bound at [] short = refl
no_pair version bound at (word ∷ []) short = refl
no_pair version bound at (lower ∷ upper ∷ words) short = absurd (omega (arith, short))

-- after a pair without a flaw come the others
pub pairs_on : (version : Version) (bound : ℤ) (at n : ℕ) (words : List ℕ) → n + 1 < length words → None ≡ pair_flaw version bound at (get_or words n 0) (get_or words (n + 1) 0)
    → pairs_flaw version bound at (drop n words) ≡ pairs_flaw version bound (at + 2 * word_size version) (drop (n + 2) words)
pairs_on version bound at n words lt right =
    ap (pairs_flaw version bound at) (drop_pair n words lt)
    ∙ ap (λ (flaw : Option Flaw). option_or flaw (pairs_flaw version bound (at + 2 * word_size version) (drop (n + 2) words))) (sym right)
