-- What a text of 14 signs decodes to.
use Rattle.std.proofs.Common.{◌≡◌, ℕ, ◌+◌, ◌*◌, ◌/◌, Bool, true, false, nat_lt, List, length, Option, Some, None, Ok, Err, refl, ap, ◌∙◌, arith, append-nil}
use Rattle.std.proofs.lemmas.Bool.Decides.{nat_tests}
use Rattle.std.specs.Prelude.{if◌then◌else◌}
use Rattle.std.specs.Result.{is_err}
use Rattle.base64.specs.Decode.{or_else, or_error, bytes_fit, decode_outcome, groups_before_last, groups_error, lone_error, suffix_error}
use Rattle.base64.specs.Engines.{standard_no_pad}
use Rattle.base64.specs.GeneralPurpose.{IsBytes, decode_of, decode_slice_of, decoded_bytes_of, encode_of}
use Rattle.base64.specs.declared.decode.DecodeError.{DecodeError}
use Rattle.base64.specs.declared.decode.DecodeSliceError.{DecodeSliceError}
use Rattle.base64.proofs.EngineFacts.{decode_of_strict}
use Rattle.base64.proofs.RoundTrip.{length-encode_symbols}
use Rattle.std.specs.declared.result.Result.{Result}
use Rattle.base64.specs.declared.decode.DecodeSliceError.TheVariants.{OutputSliceTooSmall}
use Rattle.base64.specs.declared.engine.DecodePaddingMode.TheVariants.{RequireNone}
use Rattle.position_text.specs.declared.text.BadPosition.TheVariants.{Shape}
use Rattle.position_id.specs.Readings.{read_key}

pub length-encoded : (key : List ℕ) → length (encode_of standard_no_pad key) ≡ (4 * length key + 2) / 3
length-encoded key = ap length (append-nil _) ∙ length-encode_symbols standard_no_pad.encode_table key

-- ten bytes have 14 signs, and no others have
pub ten-bytes : (text key : List ℕ) → IsBytes text → length text ≡ 14 → decode_of standard_no_pad text ≡ Ok key → length key ≡ 10
ten-bytes text key bytes long ok =
    let same = decode_of_strict standard_no_pad text key (refl, refl) bytes ok in
    let signs : length text ≡ length (encode_of standard_no_pad key) = ap length same in
    let signs_of : length (encode_of standard_no_pad key) ≡ (4 * length key + 2) / 3 = length-encoded key in
    omega arith

-- what is said of a slice for ten bytes
sliced : Option DecodeError → Bool → Option DecodeError → List ℕ → Result ℕ DecodeSliceError
sliced lone small rest key = or_error lone (if small then Err OutputSliceTooSmall else or_error rest (bytes_fit (length key) 10))

told : (lone rest : Option DecodeError) (small : Bool) (key : List ℕ) (answer : Result ℕ DecodeSliceError) → answer ≡ sliced lone small rest key → small ≡ false → is_err answer ≡ false → decode_outcome (or_else lone rest) key ≡ Ok key
unfolding sliced
told None None small key answer same room fine = refl
told None (Some bad) small key answer same room fine = cc (ap is_err (rw room at same))
told (Some bad) rest small key answer same room fine = cc (ap is_err same)

untold : (lone rest : Option DecodeError) (small : Bool) (key : List ℕ) (answer : Result ℕ DecodeSliceError) → answer ≡ sliced lone small rest key → small ≡ false → (decode_outcome (or_else lone rest) key ≡ Ok key → length key ≡ 10) → is_err answer ≡ true → read_key (decode_outcome (or_else lone rest) key) ≡ Err Shape
unfolding sliced
untold None None small key answer same room ten bad =
    let fits : nat_lt 10 (length key) ≡ false = let long = ten refl in grind (arith, nat_tests) in
    cc (ap is_err (rw (room, fits) at same))
untold None (Some error) small key answer same room ten bad = refl
untold (Some error) rest small key answer same room ten bad = refl

abbrev dec : List ℕ
dec = standard_no_pad.decode_table

abbrev lone_of : List ℕ → Option DecodeError
lone_of text = lone_error dec 61 text

abbrev rest_of : List ℕ → Option DecodeError
rest_of text = or_else (groups_error dec text (groups_before_last (length text))) (suffix_error dec 61 false RequireNone (4 * groups_before_last (length text)) text)

abbrev is_small : List ℕ → Bool
is_small text = nat_lt (10 / 3) (groups_before_last (length text))

enough : (text : List ℕ) → length text ≡ 14 → is_small text ≡ false
enough text long = rw long refl

pub decoded : (text : List ℕ) (answer : Result ℕ DecodeSliceError) → length text ≡ 14 → answer ≡ decode_slice_of standard_no_pad text 10 → is_err answer ≡ false → decode_of standard_no_pad text ≡ Ok (decoded_bytes_of standard_no_pad text)
unfolding sliced
decoded text answer long same fine = told (lone_of text) (rest_of text) (is_small text) (decoded_bytes_of standard_no_pad text) answer same (enough text long) fine

pub undecoded : (text : List ℕ) (answer : Result ℕ DecodeSliceError) → IsBytes text → length text ≡ 14 → answer ≡ decode_slice_of standard_no_pad text 10 → is_err answer ≡ true → read_key (decode_of standard_no_pad text) ≡ Err Shape
unfolding sliced
undecoded text answer bytes long same bad = untold (lone_of text) (rest_of text) (is_small text) (decoded_bytes_of standard_no_pad text) answer same (enough text long) (λ ok. ten-bytes text (decoded_bytes_of standard_no_pad text) bytes long ok) bad
