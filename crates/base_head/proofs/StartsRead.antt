-- The starts that were read.
use Rattle.std.proofs.Common.{◌≡◌, ◌∙◌, ℕ, zero, suc, ◌*◌, Bool, true, List, [], ◌∷◌, length, take, drop, Some, if◌then◌else◌, refl, sym, ap, arith}
use Rattle.std.specs.Option.{option_map}
use Rattle.directed_fixed.specs.Bounds.{Bounds}
use Rattle.cube_actions.specs.declared.name.StakesName.{StakesName}
use Rattle.cube_actions.specs.declared.name.StakesName.TheVariants.{Unlimited, Match}
use Rattle.cube_actions.specs.Stakes.{point_units}
use Rattle.word_pages.specs.Flaws.{pairs_flaw}
use Rattle.word_pages.specs.Sealed.{is_sealed}
use Rattle.word_pages.specs.Words.{words_in_bytes}
use Rattle.base_head.specs.Fronts.{bad_of, pairs_of_words, starts_fault, starts_length}
use Rattle.base_head.specs.Heads.{AreStartsOf}
use Rattle.base_head.specs.Headers.{IsLengthOf, digest_place, front_length, starts_told}
use Rattle.base_head.specs.declared.fault.FileFault.TheVariants as faults
use Rattle.base_head.specs.declared.header.Header.{Header}

pub even-pairs : (n : ℕ) (words : List ℕ) → length words ≡ 2 * n → length (pairs_of_words words) ≡ n
even-pairs zero [] is = refl
even-pairs zero (word ∷ words) is = absurd (omega (arith, is))
even-pairs (suc n) [] is = absurd (omega (arith, is))
even-pairs (suc n) (word ∷ []) is = absurd (omega (arith, is))
even-pairs (suc n) (lower ∷ upper ∷ words) is = let rest = even-pairs n words (omega (arith, is)) in omega (arith, rest)

none-of : (pairs : List Bounds) → length pairs ≡ 0 → pairs ≡ []
none-of [] is = refl
none-of (pair ∷ pairs) is = absurd (omega (arith, is))

pub starts-go : (name : StakesName) (match_length n : ℕ) (pairs : List Bounds) → IsLengthOf name match_length → n ≡ starts_told match_length name → length pairs ≡ n
    → AreStartsOf name (record { match_length = starts_length name match_length; pairs = pairs })
starts-go (Unlimited rule) match_length n pairs fitting before is = ap (λ (list : List Bounds). record { match_length = 1; pairs = list }) (none-of pairs (is ∙ before))
starts-go (Match score) match_length n pairs fitting before is = record { listed = fitting.listed; held = is ∙ before }

pub sealed-starts : (header : Header) (bytes rest : List ℕ) → rest ≡ drop 64 bytes → is_sealed (take (front_length header) bytes) ≡ true
    → starts_fault header bytes ≡ option_map bad_of (pairs_flaw header.version (point_units 1) 64 (words_in_bytes header.version (2 * header.starts) rest))
sealed-starts header bytes rest same right =
    ap (λ (b : Bool). if b then option_map bad_of (pairs_flaw header.version (point_units 1) 64 (words_in_bytes header.version (2 * header.starts) (drop 64 bytes))) else Some (record { fault = faults.HeadDigest; at = digest_place header })) right
    ∙ ap (λ (r : List ℕ). option_map bad_of (pairs_flaw header.version (point_units 1) 64 (words_in_bytes header.version (2 * header.starts) r))) (sym same)
