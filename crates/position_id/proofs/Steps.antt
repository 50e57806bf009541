-- How an ID is read, step by step.
use Rattle.std.proofs.Common.{◌≡◌, ℕ, ◌∙◌, Bool, true, false, List, [], length, drop, ◌++◌, Result, Ok, Err, refl, ap, sym, arith, append-nil, length-drop}
use Rattle.std.proofs.lemmas.Bool.{ne_eqb}
use Rattle.std.proofs.lemmas.List.{nil_from_length}
use Rattle.std.specs.List.{list_any}
use Rattle.std.specs.Prelude.{OnOk, ◌==◌, ◌↔◌, if◌then◌else◌, nat_lt}
use Rattle.std.specs.Result.{is_err}
use Rattle.base64.specs.Decode.{IsWrittenOver}
use Rattle.base64.specs.Engines.{standard_no_pad}
use Rattle.base64.specs.GeneralPurpose.{IsBytes, decode_of, decode_slice_of, decoded_bytes_of}
use Rattle.base64.specs.declared.decode.DecodeSliceError.{DecodeSliceError}
use Rattle.position_rank.specs.Placement.{Placement}
use Rattle.position_text.specs.Text.{read_places}
use Rattle.position_text.specs.declared.text.BadPosition.{BadPosition}
use Rattle.position_text.specs.declared.text.BadPosition.TheVariants.{Shape}
use Rattle.position_id.specs.Readings.{bits_of_bytes, mover_told, other_told, places_told, read_id, read_key, read_told, with_off}
use Rattle.position_id.proofs.Decoded.{decoded, ten-bytes}

pub read-step : (text : List ℕ) → length text ≡ 14 → read_id text ≡ read_key (decode_of standard_no_pad text)
unfolding read_id
read-step text long = taken (length text) (read_key (decode_of standard_no_pad text)) long where
  taken : (n : ℕ) (answer : Result Placement BadPosition) → n ≡ 14 → (if n == 14 then answer else Err Shape) ≡ answer
  taken n answer e = rw e refl

pub read-long : (text : List ℕ) → (length text ≡ 14 → ⊥) → Err Shape ≡ read_id text
unfolding read_id
read-long text long = rw (ne_eqb (length text) 14 long) refl

ok-told : {P : Type 0} (answer : Result ℕ DecodeSliceError) → is_err answer ≡ false → OnOk answer P → P
ok-told (Ok number) fine is = is
ok-told (Err error) fine is = absurd (cc fine)

-- the bytes of a key that were written into ten
pub read-written : (text old key : List ℕ) (answer : Result ℕ DecodeSliceError) → IsBytes text → length text ≡ 14 → length old ≡ 10 → answer ≡ decode_slice_of standard_no_pad text 10 → is_err answer ≡ false
    → OnOk answer (IsWrittenOver (decoded_bytes_of standard_no_pad text) old key) → read_id text ≡ read_told (places_told 1 (bits_of_bytes key))
read-written text old key answer bytes long ten same fine written =
    let ok = decoded text answer long same fine in
    let all : length (decoded_bytes_of standard_no_pad text) ≡ 10 = ten-bytes text (decoded_bytes_of standard_no_pad text) bytes long ok in
    let none : drop (length (decoded_bytes_of standard_no_pad text)) old ≡ [] = nil_from_length (drop (length (decoded_bytes_of standard_no_pad text)) old) (omega (arith, length-drop (length (decoded_bytes_of standard_no_pad text)) old)) in
    let key_is : key ≡ decoded_bytes_of standard_no_pad text = ok-told answer fine written ∙ (ap (λ rest. decoded_bytes_of standard_no_pad text ++ rest) none ∙ append-nil (decoded_bytes_of standard_no_pad text)) in
    read-step text long ∙ (ap read_key ok ∙ ap (λ bytes. read_told (places_told 1 (bits_of_bytes bytes))) (sym key_is))

pub read-behind : (places : List ℕ) → list_any (λ place. nat_lt 50 place) places ≡ true → read_told places ≡ Err Shape
unfolding read_told
read-behind places behind = rw behind refl

pub read-sides : (places mover other : List ℕ) → list_any (λ place. nat_lt 50 place) places ≡ false → mover ≡ with_off (mover_told places) (other_told places) → other ≡ with_off (other_told places) (mover_told places) → read_told places ≡ read_places mover other
unfolding read_told
read-sides places mover other none one two = rw none (rw (one, two) refl)

pub behind : (test some : Bool) → false ≡ some → (some ≡ true) ↔ (test ≡ false) → test ≡ true
behind true some gone told = refl
behind false some gone told = cc (told.1 refl)
