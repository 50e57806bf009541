-- What words are read as.
use Rattle.std.proofs.Common.{◌≡◌, ◌∙◌, ◌<◌, ◌+◌, ◌-◌, ℕ, suc, true, false, List, [], ◌∷◌, ◌++◌, length, append_assoc, refl, sym, ap, arith}
use Rattle.std.specs.List.{flat_map}
use Rattle.std.proofs.lemmas.List.Concat.{flat_map-append}
use Rattle.std.proofs.lemmas.List.Splits.{length-slice_split}
use Rattle.plain_record.specs.Plain.{more_checkers, parts, repeated, spaced, steps_of, steps_on, way_told, word_read}
use Rattle.plain_record.proofs.Parts.{is_byte}

some-steps : (word : List ℕ) (more : ℕ) (from : List ℕ) (ps : List (List ℕ)) → 0 < length ps → steps_of word more (from ∷ ps) ≡ steps_on true from ps ++ repeated more (steps_on false from ps)
some-steps word more from [] some = absurd (omega arith)
some-steps word more from (to ∷ later) some = refl

-- a word with a slash was added
pub steps_added : (old between new word from places : List ℕ) (more : ℕ) → parts 47 (way_told word) ≡ from ∷ parts 47 places → more ≡ more_checkers word → between ≡ old ++ flat_map spaced (steps_on true from (parts 47 places))
    → new ≡ between ++ flat_map spaced (repeated more (steps_on false from (parts 47 places))) → new ≡ old ++ word_read word
steps_added old between new word from places more cut is_more first others =
    let ps = parts 47 places in
    let some : 0 < length ps = omega (arith, length-slice_split (is_byte 47) places) in
    let is = ap (λ (qs : List (List ℕ)). flat_map spaced (steps_of word (more_checkers word) qs)) cut ∙ ap (flat_map spaced) (some-steps word (more_checkers word) from ps some)
    ∙ flat_map-append spaced (steps_on true from ps) (repeated (more_checkers word) (steps_on false from ps)) in
    rw (others, first, is_more, is) (append_assoc old (flat_map spaced (steps_on true from ps)) (flat_map spaced (repeated (more_checkers word) (steps_on false from ps))))

-- the steps of one more checker were added
pub more_added : (old new all : List ℕ) (count i : ℕ) (steps : List (List ℕ)) → i < count → old ++ flat_map spaced (repeated (count - i) steps) ≡ all → new ≡ old ++ flat_map spaced steps
    → new ++ flat_map spaced (repeated (count - (i + 1)) steps) ≡ all
more_added old new all count i steps more before added =
    let one : count - i ≡ suc (count - (i + 1)) = omega arith in
    let later = repeated (count - (i + 1)) steps in
    rw added (append_assoc old (flat_map spaced steps) (flat_map spaced later) ∙ ap (λ (text : List ℕ). old ++ text) (sym (flat_map-append spaced steps later)) ∙ ap (λ (n : ℕ). old ++ flat_map spaced (repeated n steps)) (sym one) ∙ before)
