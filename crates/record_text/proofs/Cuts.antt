-- Where a text is cut.
use Rattle.std.proofs.Common.{◌≡◌, ℕ, ◌+◌, Bool, true, false, not, eqb, ltb, cond, List, [], ◌∷◌, length, take, drop, Option, Some, None, refl, sym, ◌∙◌, ap, suc, arith}
use Rattle.std.proofs.lemmas.Bool.{lt-ltb}
use Rattle.std.specs.List.{position_or_len}
use Rattle.std.proofs.lemmas.Bool.Decides.{nat_tests}
use Rattle.record_text.specs.Forms.{cut_at, with_front}

abbrev pub is_byte : ℕ → ℕ → Bool
is_byte byte other = eqb other byte

abbrev pub parts_at : List ℕ → ℕ → List ℕ × List ℕ
parts_at text at = (take at text, drop (at + 1) text)

abbrev pub parts_if : List ℕ → ℕ → Option (List ℕ × List ℕ)
parts_if text at = cond (ltb at (length text)) (Some (parts_at text at)) None

one_on : (x : ℕ) (text : List ℕ) (at : ℕ) → parts_if (x ∷ text) (1 + at) ≡ with_front x (parts_if text at)
one_on x text at =
    let plus : 1 + at ≡ suc at = omega arith in
    let low : ltb (suc at) (suc (length text)) ≡ ltb at (length text) = grind (arith, nat_tests) in
    rw plus (rw low (elim (ltb at (length text)) as (λ b. cond b (Some (parts_at (x ∷ text) (suc at))) None ≡ with_front x (cond b (Some (parts_at text at)) None)) [
      | true ↦ (let more : suc at + 1 ≡ suc (at + 1) = omega arith in rw more refl)
      | false ↦ refl
    ]))

-- the first such byte is where the text is cut
pub cut_is : (byte : ℕ) (text : List ℕ) → cut_at byte text ≡ parts_if text (position_or_len (is_byte byte) text)
cut_is byte [] = refl
cut_is byte (x ∷ text) = elim (eqb x byte) as (λ b. cond b (Some ([], text)) (with_front x (cut_at byte text)) ≡ parts_if (x ∷ text) (cond (not b) (1 + position_or_len (is_byte byte) text) 0)) [
  | true ↦ (let low : ltb 0 (suc (length text)) ≡ true = lt-ltb 0 (suc (length text)) (omega arith) in rw low refl)
  | false ↦ ap (with_front x) (cut_is byte text) ∙ sym (one_on x text (position_or_len (is_byte byte) text))
]

abbrev pub parts_of : List ℕ → Option ℕ → Option (List ℕ × List ℕ)
parts_of text None = None
parts_of text (Some at) = Some (parts_at text at)

-- a text is cut at the place that a search for the byte gives
pub cut_found : (byte : ℕ) (text : List ℕ) (found : Option ℕ) → found ≡ cond (ltb (position_or_len (is_byte byte) text) (length text)) (Some (position_or_len (is_byte byte) text)) None → cut_at byte text ≡ parts_of text found
cut_found byte text found e =
    let at = position_or_len (is_byte byte) text in
    cut_is byte text ∙ (elim (ltb at (length text)) as (λ b. cond b (Some (parts_at text at)) None ≡ parts_of text (cond b (Some at) None)) [ true ↦ refl | false ↦ refl ]) ∙ ap (parts_of text) (sym e)
