-- An ID is read as the position that it was made of.
use Rattle.std.proofs.Common.{◌≡◌, ℕ, ◌+◌, ◌-◌, ◌≤◌, ◌⊎◌, true, false, List, [], ◌∷◌, ◌++◌, length, sum, drop, replicate, slice_index, Ok, refl, ap, sym, ◌∙◌, inl, inr, arith, append_assoc, append-nil, length-append, length-drop}
use Rattle.std.proofs.lemmas.List.{length-replicate}
use Rattle.std.proofs.lemmas.List.Sums.{sum_by-cons}
use Rattle.std.specs.List.{flat_map}
use Rattle.base64.specs.Engines.{standard_no_pad}
use Rattle.base64.proofs.EngineFacts.{decode_of-encode_of}
use Rattle.position_rank.specs.Placement.{Placement, IsLayout, IsPosition, IsLive}
use Rattle.position_rank.specs.Ranks.{places_from, rising_places}
use Rattle.position_rank.proofs.RisingPlaces.{counts_of-rising_places, length-rising_places}
use Rattle.position_id.specs.Ids.{HasAllOnBoard, bytes_of_bits, board_bits, id_text, key_bits, key_bytes, place_bits, side_bits}
use Rattle.position_id.specs.Readings.{places_told, read_id, read_key, read_told, with_off}
use Rattle.position_id.proofs.Bits.{key-again, key-bytes}
use Rattle.position_id.proofs.Decoded.{length-encoded}
use Rattle.position_id.proofs.Placements.{read-fitting, read-live}
use Rattle.position_id.proofs.Steps.{read-step}
use Rattle.position_id.proofs.Told.{told-side, told-none, other-again, mover-again, none-after}

length-bits : (counts : List ℕ) → length (flat_map place_bits counts) ≡ length counts + sum counts
length-bits [] = refl
length-bits (count ∷ counts) =
    let more = sum_by-cons (λ (n : ℕ). n) count counts in
    omega (arith, more, length-append (place_bits count) (flat_map place_bits counts), length-append (replicate count true) (false ∷ []), length-replicate count true, length-bits counts)

pub sum-behind : (counts : List ℕ) → sum (drop 1 counts) ≤ sum counts
sum-behind [] = omega arith
sum-behind (count ∷ counts) = let more = sum_by-cons (λ (n : ℕ). n) count counts in omega arith

length-side : (counts : List ℕ) → IsLayout counts → length (side_bits counts) ≤ 28
length-side counts is = omega (arith, length-bits (drop 1 counts), length-drop 1 counts, sum-behind counts, is.places, is.at_most_three)

length-board : (p : Placement) → IsPosition p → length (board_bits p) ≤ 56
unfolding board_bits
length-board p is = omega (arith, length-append (side_bits p.other) (side_bits p.mover), length-side p.other is.other, length-side p.mover is.mover)

length-key : (p : Placement) → IsPosition p → length (key_bits p) ≡ 80
unfolding key_bits
length-key p is = omega (arith, length-append (board_bits p) (replicate (80 - length (board_bits p)) false), length-replicate (80 - length (board_bits p)) false, length-board p is)

told-key : (p : Placement) → IsPosition p → places_told 1 (key_bits p) ≡ places_from 1 (drop 1 p.other) ++ places_from 26 (drop 1 p.mover)
unfolding key_bits board_bits
told-key p is =
    let zeros = replicate (80 - length (side_bits p.other ++ side_bits p.mover)) false in
    let behind : 1 + length (drop 1 p.other) ≡ 26 = omega (arith, length-drop 1 p.other, is.other.places) in
    ap (places_told 1) (append_assoc (side_bits p.other) (side_bits p.mover) zeros)
    ∙ (told-side 1 (drop 1 p.other) (side_bits p.mover ++ zeros)
    ∙ ap (λ places. places_from 1 (drop 1 p.other) ++ places)
    (ap (λ place. places_told place (side_bits p.mover ++ zeros)) behind
    ∙ (told-side 26 (drop 1 p.mover) zeros
    ∙ (ap (λ places. places_from 26 (drop 1 p.mover) ++ places) (told-none (26 + length (drop 1 p.mover)) (80 - length (side_bits p.other ++ side_bits p.mover)))
    ∙ append-nil (places_from 26 (drop 1 p.mover))))))

rising-side : (counts : List ℕ) → length counts ≡ 26 → rising_places counts ≡ replicate (slice_index counts 0) 0 ++ places_from 1 (drop 1 counts)
unfolding rising_places
rising-side [] h = absurd (omega arith)
rising-side (count ∷ counts) h = refl

on-board : (counts : List ℕ) → length counts ≡ 26 → slice_index counts 0 + length (places_from 1 (drop 1 counts)) ≡ sum counts
on-board counts h =
    let all = ap length (rising-side counts h) in
    omega (arith, all, length-rising_places counts, length-append (replicate (slice_index counts 0) 0) (places_from 1 (drop 1 counts)), length-replicate {A = ℕ} (slice_index counts 0) 0)

off-again : (mine theirs : List ℕ) → length mine ≡ 26 → length theirs ≡ 26 → sum mine ≡ sum theirs → (slice_index mine 0 ≡ 0) ⊎ (slice_index theirs 0 ≡ 0)
    → with_off (places_from 1 (drop 1 mine)) (places_from 1 (drop 1 theirs)) ≡ rising_places mine
off-again mine theirs long also same all =
    let off : length (places_from 1 (drop 1 theirs)) - length (places_from 1 (drop 1 mine)) ≡ slice_index mine 0 = fewer _ _ _ _ _ _ (on-board mine long) (on-board theirs also) same all in
    ap (λ count. replicate count 0 ++ places_from 1 (drop 1 mine)) off ∙ sym (rising-side mine long) where
      fewer : (a b m o s t : ℕ) → a + m ≡ s → b + o ≡ t → s ≡ t → (a ≡ 0) ⊎ (b ≡ 0) → o - m ≡ a
      fewer a b m o s t x y z (inl none) = omega arith
      fewer a b m o s t x y z (inr none) = omega arith

other-all : (p : Placement) → HasAllOnBoard p → (slice_index p.other 0 ≡ 0) ⊎ (slice_index p.mover 0 ≡ 0)
other-all p (inl none) = inr none
other-all p (inr none) = inl none

told-again : (p : Placement) → IsPosition p → IsLive p → HasAllOnBoard p → read_told (places_told 1 (key_bits p)) ≡ Ok p
unfolding read_told
told-again p is live all =
    let m = drop 1 p.mover in
    let o = drop 1 p.other in
    let long_m : length m ≡ 25 = omega (arith, length-drop 1 p.mover, is.mover.places) in
    let long_o : length o ≡ 25 = omega (arith, length-drop 1 p.other, is.other.places) in
    let mover : length (rising_places p.mover) ≡ sum p.mover = length-rising_places p.mover in
    let other : length (rising_places p.other) ≡ sum p.other = length-rising_places p.other in
    rw (told-key p is)
    (rw (none-after o m long_o long_m, mover-again o m long_o, other-again o m long_o)
    (rw (off-again p.mover p.other is.mover.places is.other.places is.same all, off-again p.other p.mover is.other.places is.mover.places (sym is.same) (other-all p all))
    (read-fitting (rising_places p.mover) (rising_places p.other) (omega (arith, mover, other, is.same)) (omega (arith, mover, is.mover.at_least_one)) (omega (arith, mover, is.mover.at_most_three))
    ∙ rw (counts_of-rising_places p.mover is.mover.places, counts_of-rising_places p.other is.other.places) (read-live p live))))

pub read-printed : (p : Placement) → IsPosition p → IsLive p → HasAllOnBoard p → read_id (id_text p) ≡ Ok p
unfolding id_text key_bytes
read-printed p is live all =
    read-step (id_text p) (length-encoded (bytes_of_bits 10 (key_bits p)))
    ∙ (ap read_key (decode_of-encode_of standard_no_pad (bytes_of_bits 10 (key_bits p)) refl (key-bytes 10 (key_bits p)))
    ∙ (ap (λ bits. read_told (places_told 1 bits)) (key-again 10 (key_bits p) (length-key p is)) ∙ told-again p is live all))
