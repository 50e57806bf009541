-- Bits as numbers and bytes.
use Rattle.std.proofs.Common.{◌≡◌, ℕ, zero, suc, ◌+◌, ◌*◌, ◌/◌, ◌%◌, ◌^◌, ◌<◌, ◌≤◌, Bool, true, false, List, [], ◌∷◌, ◌++◌, length, take, drop, slice_index, refl, ap, subst, ◌∙◌, arith, length-drop}
use Rattle.std.proofs.lemmas.List.{length-take-le, take-append-drop}
use Rattle.position_id.specs.Ids.{number_of_bits, bytes_of_bits}
use Rattle.position_id.specs.Readings.{low_bits, bits_of_bytes}

pub number-small : (bits : List Bool) (n : ℕ) → length bits ≤ n → number_of_bits bits < 2 ^ n
number-small [] zero h = omega arith
number-small [] (suc n) h = let rest = number-small [] n (omega arith) in omega arith
number-small (bit ∷ bits) zero h = absurd (omega arith)
number-small (true ∷ bits) (suc n) h = let rest = number-small bits n (omega arith) in omega arith
number-small (false ∷ bits) (suc n) h = let rest = number-small bits n (omega arith) in omega arith

-- the bits of a number that was made of so many
pub bits-again : (bits : List Bool) → low_bits (length bits) (number_of_bits bits) ≡ bits
bits-again [] = refl
bits-again (true ∷ bits) =
    let odd : (1 + 2 * number_of_bits bits) % 2 ≡ 1 = omega arith in
    let half : (1 + 2 * number_of_bits bits) / 2 ≡ number_of_bits bits = omega arith in
    rw (odd, half) (ap (λ rest. true ∷ rest) (bits-again bits))
bits-again (false ∷ bits) =
    let even : (0 + 2 * number_of_bits bits) % 2 ≡ 0 = omega arith in
    let half : (0 + 2 * number_of_bits bits) / 2 ≡ number_of_bits bits = omega arith in
    rw (even, half) (ap (λ rest. false ∷ rest) (bits-again bits))

pub key-again : (n : ℕ) (bits : List Bool) → length bits ≡ 8 * n → bits_of_bytes (bytes_of_bits n bits) ≡ bits
key-again zero [] h = refl
key-again zero (bit ∷ bits) h = absurd (omega arith)
key-again (suc n) bits h =
    let eight : length (take 8 bits) ≡ 8 = length-take-le 8 bits (omega arith) in
    let first = subst (λ k. low_bits k (number_of_bits (take 8 bits)) ≡ take 8 bits) eight (bits-again (take 8 bits)) in
    let rest = key-again n (drop 8 bits) (omega (arith, length-drop 8 bits)) in
    ap (λ byte. byte ++ bits_of_bytes (bytes_of_bits n (drop 8 bits))) first
    ∙ (ap (λ behind. take 8 bits ++ behind) rest ∙ take-append-drop 8 bits)

pub key-bytes : (n : ℕ) (bits : List Bool) (i : ℕ) → slice_index (bytes_of_bits n bits) i < 256
key-bytes zero bits i = omega arith
key-bytes (suc n) bits zero = number-small (take 8 bits) 8 (short 8 bits) where
  short : (k : ℕ) (xs : List Bool) → length (take k xs) ≤ k
  short zero xs = omega arith
  short (suc k) [] = omega arith
  short (suc k) (x ∷ xs) = omega (arith, short k xs)
key-bytes (suc n) bits (suc i) = key-bytes n (drop 8 bits) i
