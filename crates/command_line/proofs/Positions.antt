-- Texts and IDs that are read as positions give live ones.
use Rattle.std.proofs.Common.{◌≡◌, ◌≤◌, ◌-◌, ◌∙◌, ℕ, Bool, true, false, ◌&&◌, nat_lt, slice_index, get_or, List, [], ◌∷◌, length, Option, Some, None, Result, Ok, Err, All, refl, inl, inr, arith}
use Rattle.std.specs.Prelude.{IfOk, ◌==◌, if◌then◌else◌}
use Rattle.std.specs.List.{filter_map, cons_option, list_any, range_with_len}
use Rattle.std.proofs.lemmas.Bool.{cases_lt}
use Rattle.std.proofs.lemmas.Bool.Decides.{nat_tests}
use Rattle.std.proofs.lemmas.List.Elements.{All-cons, All-nil}
use Rattle.std.proofs.lemmas.List.Folds.{list_any_at}
use Rattle.std.proofs.lemmas.List.FromFn.{length-range_with_len, get_or-range_with_len}
use Rattle.position_rank.specs.Placement.{Placement, IsLayout, IsPosition, IsLive, AreApart}
use Rattle.position_rank.specs.Packed.{counts_of}
use Rattle.position_rank.proofs.PlaceCounts.{length-counts_of, sum-counts_of}
use Rattle.position_text.specs.Text.{place, read_placement, read_places, read_position, read_words, share_point, words}
use Rattle.position_text.specs.declared.text.BadPosition.{BadPosition}
use Rattle.position_text.specs.declared.text.BadPosition.TheVariants.{Shape, Place}
use Rattle.position_text.proofs.PlaceTexts.{place-text}
use Rattle.base64.specs.Engines.{standard_no_pad}
use Rattle.base64.specs.GeneralPurpose.{decode_of}
use Rattle.base64.specs.declared.decode.DecodeError.{DecodeError}
use Rattle.position_id.specs.Readings.{bits_of_bytes, has_id_form, mover_told, other_told, places_told, read_id, read_key, read_told, with_off}
use Rattle.position_id.proofs.Told.{mover-within, other-within, off-within}
use Rattle.std.specs.Option.{option_map_or}
use Rattle.command_line.specs.Plain.{plain_form, read_plain_position}
use Rattle.command_line.specs.Values.{read_given}

abbrev IsPlace : ℕ → Type 0
IsPlace place = place ≤ 25

abbrev pub IsLivePosition : Placement → Type 0
IsLivePosition p = IsPosition p × IsLive p

apart : (p : Placement) → share_point p ≡ false → AreApart p
unfolding share_point
apart p none point from to held = elim (cases_lt 0 (slice_index p.other (25 - point))) [
  | inl some ↦ (
      let at : get_or (range_with_len 1 24) (point - 1) 0 ≡ point = get_or-range_with_len 1 24 (point - 1) 0 (omega arith) ∙ omega arith in
      let shared = list_any_at (λ point. nat_lt 0 (slice_index p.mover point) && nat_lt 0 (slice_index p.other (25 - point))) (range_with_len 1 24) (point - 1) 0 (omega (arith, length-range_with_len 1 24)) in
      grind (arith, nat_tests, rw at at shared))
  | inr never ↦ omega arith
]

placement-live : (p : Placement) → IsPosition p → IfOk (read_placement p) IsLivePosition
placement-live p is = grind (arith, nat_tests, apart)

laid : (places : List ℕ) → All IsPlace places → 1 ≤ length places → length places ≤ 3 → IsLayout (counts_of places)
laid places within some few = grind (arith, length-counts_of, sum-counts_of)

places-live : (mover other : List ℕ) → All IsPlace mover → All IsPlace other → IfOk (read_places mover other) IsLivePosition
places-live mover other m o = grind (arith, nat_tests, laid, placement-live, sum-counts_of)

onto : (place : Option ℕ) (places : List ℕ) → ((p : ℕ) → place ≡ Some p → IsPlace p) → All IsPlace places → All IsPlace (cons_option place places)
onto None places is all = all
onto (Some p) places is all = All-cons IsPlace p places (is p refl) all

within : (ws : List (List ℕ)) → All IsPlace (filter_map place ws)
within [] = All-nil IsPlace
within (w ∷ ws) = onto (place w) (filter_map place ws) (λ p e. (place-text w p e).0) (within ws)

words-live : (ws : List (List ℕ)) → IfOk (read_words ws) IsLivePosition
words-live ws = grind (arith, places-live, within)

told-live : (behind : Bool) (places : List ℕ) → list_any (λ place. nat_lt 50 place) places ≡ behind → IfOk (read_told places) IsLivePosition
unfolding read_told
told-live true places e = rw e tt
told-live false places e =
    let mover = mover_told places in
    let other = other_told places in
    rw e (places-live (with_off mover other) (with_off other mover) (off-within mover other (mover-within places e)) (off-within other mover (other-within places)))

key-live : (key : Result (List ℕ) DecodeError) → IfOk (read_key key) IsLivePosition
key-live (Ok key) = told-live _ (places_told 1 (bits_of_bytes key)) refl
key-live (Err bad) = tt

id-live : (text : List ℕ) → IfOk (read_id text) IsLivePosition
unfolding read_id
id-live text = taken (length text == 14) (read_key (decode_of standard_no_pad text)) (key-live (decode_of standard_no_pad text)) where
  taken : (b : Bool) (answer : Result Placement BadPosition) → IfOk answer IsLivePosition → IfOk (if b then answer else Err Shape) IsLivePosition
  taken true answer h = h
  taken false answer h = tt

plain-live : (plain : Option (List ℕ)) → IfOk (option_map_or read_position plain (Err Place)) IsLivePosition
plain-live None = tt
plain-live (Some text) = words-live (words text)

pub given-live : (word : List ℕ) → IfOk (read_given word) IsLivePosition
given-live word = chosen (has_id_form word) where
  chosen : (b : Bool) → IfOk (if b then read_id word else read_plain_position word) IsLivePosition
  chosen true = id-live word
  chosen false = plain-live (plain_form word)
