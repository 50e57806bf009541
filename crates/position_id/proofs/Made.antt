-- Keys and IDs, part by part.
use Rattle.std.proofs.Common.{◌≡◌, ℕ, suc, ◌+◌, ◌-◌, ◌*◌, ◌/◌, ◌%◌, ◌<◌, Bool, false, List, [], ◌∷◌, ◌++◌, length, take, drop, replicate, eqb, ap, sym, ◌∙◌, arith, append_assoc, append-nil, length-drop}
use Rattle.std.proofs.lemmas.List.{nil_from_length, drop-drop}
use Rattle.base64.specs.Engines.{standard_no_pad}
use Rattle.base64.specs.GeneralPurpose.{encode_of, encoded_size_of}
use Rattle.position_rank.specs.Placement.{Placement}
use Rattle.position_id.specs.Ids.{board_bits, bytes_of_bits, id_text, key_bits, key_bytes, number_of_bits, side_bits}
use Rattle.position_id.specs.Readings.{low_bits}

pub board-made : (p : Placement) (none first both : List Bool) → none ≡ [] → first ≡ none ++ side_bits p.other → both ≡ first ++ side_bits p.mover → both ≡ board_bits p
unfolding board_bits
board-made p none first both empty one two = two ∙ ap (λ bits. bits ++ side_bits p.mover) (one ∙ ap (λ bits. bits ++ side_bits p.other) empty)

pub key-made : (p : Placement) (start all : List Bool) (end : ℕ) → start ≡ board_bits p → end ≡ 80 → all ≡ start ++ replicate (end - length start) false → all ≡ key_bits p
unfolding key_bits
key-made p start all end board last made = rw (last, board) at made

pub byte-made : (bits part : List Bool) (key more : List ℕ) (byte number : ℕ) → byte < 10 → part ≡ bits → number ≡ number_of_bits (take (8 * byte + 8 - 8 * byte) (drop (8 * byte) part)) → more ≡ key ++ number ∷ []
    → more ++ bytes_of_bits (10 - (byte + 1)) (drop (8 * (byte + 1)) bits) ≡ key ++ bytes_of_bits (10 - byte) (drop (8 * byte) bits)
byte-made bits part key more byte number low same is made =
    let left : 10 - byte ≡ suc (10 - (byte + 1)) = omega arith in
    let width : 8 * byte + 8 - 8 * byte ≡ 8 = omega arith in
    let here : number ≡ number_of_bits (take 8 (drop (8 * byte) bits)) = rw (width, same) at is in
    let next : drop (8 * (byte + 1)) bits ≡ drop 8 (drop (8 * byte) bits) = ap (λ n. drop n bits) (omega arith) ∙ sym (drop-drop 8 (8 * byte) bits) in
    ap (λ bytes. bytes ++ bytes_of_bits (10 - (byte + 1)) (drop (8 * (byte + 1)) bits)) made
    ∙ (append_assoc key (number ∷ []) (bytes_of_bits (10 - (byte + 1)) (drop (8 * (byte + 1)) bits))
    ∙ ap (λ bytes. key ++ bytes) (ap (λ rest. number ∷ bytes_of_bits (10 - (byte + 1)) rest) next
    ∙ (ap (λ first. first ∷ bytes_of_bits (10 - (byte + 1)) (drop 8 (drop (8 * byte) bits))) here
    ∙ ap (λ count. bytes_of_bits count (drop (8 * byte) bits)) (sym left))))

pub bytes-made : (p : Placement) (bits : List Bool) (key : List ℕ) (byte : ℕ) (rest : List Bool) → bits ≡ key_bits p → 10 - byte ≡ 0 → key ++ bytes_of_bits (10 - byte) rest ≡ bytes_of_bits 10 bits → key ≡ key_bytes p
unfolding key_bytes
bytes-made p bits key byte rest same last made =
    sym (append-nil key) ∙ (ap (λ count. key ++ bytes_of_bits count rest) (sym last) ∙ (made ∙ ap (bytes_of_bits 10) same))

pub id-made : (p : Placement) (key old text : List ℕ) → key ≡ key_bytes p → length old ≡ 14 → text ≡ encode_of standard_no_pad key ++ drop (encoded_size_of standard_no_pad (length key)) old → text ≡ id_text p
unfolding id_text key_bytes
id-made p key old text same long made =
    let none : drop 14 old ≡ [] = nil_from_length (drop 14 old) (omega (arith, length-drop 14 old)) in
    (rw same at made) ∙ (ap (λ rest. encode_of standard_no_pad (bytes_of_bits 10 (key_bits p)) ++ rest) none ∙ append-nil _)

pub bit-made : (counter rest : ℕ) (bits more : List Bool) → counter < 8 → more ≡ bits ++ eqb (rest % 2) 1 ∷ [] → more ++ low_bits (8 - (counter + 1)) (rest / 2) ≡ bits ++ low_bits (8 - counter) rest
bit-made counter rest bits more low made =
    let left : 8 - counter ≡ suc (8 - (counter + 1)) = omega arith in
    ap (λ all. all ++ low_bits (8 - (counter + 1)) (rest / 2)) made
    ∙ (append_assoc bits (eqb (rest % 2) 1 ∷ []) (low_bits (8 - (counter + 1)) (rest / 2))
    ∙ ap (λ count. bits ++ low_bits count rest) (sym left))
