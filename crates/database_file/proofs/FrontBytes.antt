-- Which bytes tell what is wrong up to the pages.
use Rattle.std.proofs.Common.{◌≡◌, ◌∙◌, ◌⊎◌, inl, inr, ℕ, ◌+◌, ◌*◌, ◌-◌, ◌<◌, ◌≤◌, nat_lt, Bool, true, false, not, if◌then◌else◌, List, [], ◌∷◌, ◌++◌, length, take, drop, min, Option, None, Some, Result, Ok, Err, IsErrAnd, refl, sym, ap, ap₂, subst, arith}
use Rattle.std.specs.Option.{option_map, option_or}
use Rattle.std.specs.Str.{bytes_eq}
use Rattle.std.proofs.Math.Nat.{mul_assoc, mul_left_comm}
use Rattle.std.proofs.lemmas.Bool.{cases_lt}
use Rattle.std.proofs.lemmas.Bool.Decides.{nat_tests}
use Rattle.std.proofs.lemmas.List.{drop-take, length-take, length-take-le, take-append-le, take-take, take_all, take_min}
use Rattle.outside_log.specs.Files.{Fills, bytes_from}
use Rattle.byteorder.specs.Endian.{big_number}
use Rattle.byteorder.specs.Numbers.{big_from-take}
use Rattle.word_pages.specs.declared.version.Version.{Version}
use Rattle.word_pages.specs.Sealed.{is_sealed}
use Rattle.word_pages.specs.Flaws.{pairs_flaw}
use Rattle.word_pages.specs.Words.{word_size, words_in_bytes}
use Rattle.word_pages.proofs.Texts.{words_of-take}
use Rattle.cube_actions.specs.Stakes.{point_units}
use Rattle.base_head.specs.declared.fault.BadFile.{BadFile}
use Rattle.base_head.specs.declared.fault.FileFault.TheVariants as faults
use Rattle.base_head.specs.declared.header.Header.{Header}
use Rattle.base_head.specs.Faults.{check, first_wrong}
use Rattle.base_head.specs.Fronts.{bad_of, digest_in, head_in, pairs_of_words, start_words, starts_fault, starts_length}
use Rattle.base_head.specs.Heads.{FileHead}
use Rattle.base_head.specs.Headers.{IsHeader, digest_place, file_length, front_length, magic, pair_size}
use Rattle.base_head.specs.HeaderFaults.{field_checks, fields_of, header_fault, header_in, length_checks, number_at}
use Rattle.base_head.proofs.Counts.{digest_place-low}
use Rattle.base_head.proofs.FieldChecks.{all-header}
use Rattle.base_head.proofs.RightFields.{none-header}
use Rattle.base_head.proofs.Checked.{none_or}
use Rattle.database_file.specs.declared.front.Front.{Front}
use Rattle.database_file.specs.declared.stop.LoadStop.{LoadStop}
use Rattle.database_file.specs.declared.stop.LoadStop.TheVariants.{BadFile as Bad, Missing, NoMemory, ReadFault}
use Rattle.database_file.specs.Faults.{AnswersFront, IsFrontFrom, ends_before, front_fault_from, header_of_file, starts_wrong, whole}

-- a number within the first bytes
number-front : (at size n : ℕ) (bytes : List ℕ) → at + size ≤ n → number_at at size (take n bytes) ≡ number_at at size bytes
number-front at size n bytes room =
    let split : at + (n - at) ≡ n = omega (arith, room) in
    ap (λ k. big_number size (drop at (take k bytes))) (sym split) ∙ ap (big_number size) (drop-take at (n - at) bytes) ∙ big_from-take 0 size (n - at) (drop at bytes) (omega (arith, room))

-- the numbers of a header
fields-front : (n : ℕ) (bytes : List ℕ) → 64 ≤ n → fields_of (take n bytes) ≡ fields_of bytes
fields-front n bytes room =
    let version = number-front 8 4 n bytes (omega (arith, room)) in
    let checkers = number-front 12 4 n bytes (omega (arith, room)) in
    let stakes = number-front 16 4 n bytes (omega (arith, room)) in
    let near = number-front 20 4 n bytes (omega (arith, room)) in
    let far = number-front 24 4 n bytes (omega (arith, room)) in
    let phase = number-front 28 4 n bytes (omega (arith, room)) in
    let match_length = number-front 32 4 n bytes (omega (arith, room)) in
    let kinds = number-front 36 4 n bytes (omega (arith, room)) in
    let rounds = number-front 40 4 n bytes (omega (arith, room)) in
    let starts = number-front 44 4 n bytes (omega (arith, room)) in
    let positions = number-front 48 8 n bytes (omega (arith, room)) in
    let rest = number-front 56 8 n bytes (omega (arith, room)) in
    rw (version, checkers, stakes, near, far, phase, match_length, kinds, rounds, starts, positions, rest) refl

-- the header's faults
pub header-front : (oldest : Version) (size n : ℕ) (bytes : List ℕ) → 64 ≤ n → header_fault oldest size (take n bytes) ≡ header_fault oldest size bytes
header-front oldest size n bytes room =
    ap₂ (λ (begins : List ℕ) fields. first_wrong (
    (check faults.Short size (nat_lt size 64) ∷ check faults.Magic 0 (not (bytes_eq begins magic)) ∷ [])
    ++ (field_checks oldest fields ++ length_checks size (file_length (header_in fields)))))
    (take-take 8 n bytes (omega (arith, room))) (fields-front n bytes room)

pub header_of-front : (n : ℕ) (bytes : List ℕ) → 64 ≤ n → header_of_file (take n bytes) ≡ header_of_file bytes
header_of-front n bytes room = ap header_in (fields-front n bytes room)

-- the words of the starts
start_words-front : (header : Header) (n : ℕ) (bytes : List ℕ) → front_length header ≤ n → start_words header (take n bytes) ≡ start_words header bytes
start_words-front header n bytes room =
    let split : 64 + (n - 64) ≡ n = omega (arith, room) in
    let words : word_size header.version * (2 * header.starts) ≡ pair_size header.version * header.starts = mul_left_comm (word_size header.version) 2 header.starts ∙ sym (mul_assoc 2 (word_size header.version) header.starts) in
    ap (λ k. words_in_bytes header.version (2 * header.starts) (drop 64 (take k bytes))) (sym split)
    ∙ ap (words_in_bytes header.version (2 * header.starts)) (drop-take 64 (n - 64) bytes)
    ∙ words_of-take header.version (2 * header.starts) (n - 64) (drop 64 bytes) (omega (arith, room, words))

-- their fault, and the head
pub starts-front : (header : Header) (n : ℕ) (bytes : List ℕ) → front_length header ≤ n → starts_fault header (take n bytes) ≡ starts_fault header bytes
starts-front header n bytes room =
    ap₂ (λ (front : List ℕ) (words : List ℕ). if is_sealed front then option_map bad_of (pairs_flaw header.version (point_units 1) 64 words) else Some (record { fault = faults.HeadDigest; at = digest_place header }))
    (take-take (front_length header) n bytes room) (start_words-front header n bytes room)

pub head-front : (header : Header) (n : ℕ) (bytes : List ℕ) → front_length header ≤ n → head_in header (take n bytes) ≡ head_in header bytes
head-front header n bytes room = ap (λ (words : List ℕ). head_of header words) (start_words-front header n bytes room)
  where
    head_of : Header → List ℕ → FileHead
    head_of header words = record {
      checkers = header.checkers;
      name = header.name;
      rounds = header.rounds;
      starts = record { match_length = starts_length header.name header.match_length; pairs = pairs_of_words words };
    }

-- the digest of the head
pub digest-front : (header : Header) (n : ℕ) (bytes : List ℕ) → front_length header ≤ n → digest_in header (take n bytes) ≡ digest_in header bytes
digest-front header n bytes room =
    let d = digest_place header in
    let split : d + (n - d) ≡ n = omega (arith, room) in
    ap (λ k. take 32 (drop d (take k bytes))) (sym split) ∙ ap (take 32) (drop-take d (n - d) bytes) ∙ take-take 32 (n - d) (drop d bytes) (omega (arith, room))

-- a header without a fault
pub right-header : (oldest : Version) (size : ℕ) (bytes : List ℕ) → header_fault oldest size bytes ≡ None → IsHeader (header_of_file bytes)
right-header oldest size bytes none = none-header oldest (fields_of bytes) (all-header oldest size bytes none).1

pub front-low : (header : Header) → IsHeader header → front_length header ≤ 368
front-low header valid = omega (arith, digest_place-low header valid)

pub none-before : (place : ℕ) (bytes : List ℕ) → place ≤ length bytes → ends_before place bytes ≡ None
none-before place bytes long = ap (λ (wrong : Bool). if wrong then Some (record { fault = faults.Short; at = length bytes }) else None) (not_less (length bytes) place long)
  where
    not_less : (a b : ℕ) → b ≤ a → nat_lt a b ≡ false
    not_less a b le = grind (arith, nat_tests)

-- where bytes of the front are left out, nothing is told of what comes behind them; else the first ones tell all
pub first-tell : (oldest : Version) (size n : ℕ) (bytes : List ℕ) → 368 ≤ n → front_fault_from oldest (record { size = size; bytes = take n bytes }) ≡ front_fault_from oldest (record { size = size; bytes = bytes })
first-tell oldest size n bytes room = by_length (cases_lt (length bytes) n)
  where
    by_length : (length bytes < n) ⊎ (n ≤ length bytes) → front_fault_from oldest (record { size = size; bytes = take n bytes }) ≡ front_fault_from oldest (record { size = size; bytes = bytes })
    by_length (inl all) = ap (λ (bytes : List ℕ). front_fault_from oldest (record { size = size; bytes = bytes })) (take_all n bytes (omega (arith, all)))
    by_length (inr long) =
        let count = length-take-le n bytes long in
        let header = header-front oldest size n bytes (omega (arith, room)) in
        ap₂ (λ (short : Option BadFile) (rest : Option BadFile). option_or (option_or (first_wrong (check faults.Short size (nat_lt size 64) ∷ [])) short) rest)
        (none-before 64 (take n bytes) (omega (arith, room, count)) ∙ sym (none-before 64 bytes (omega (arith, room, long))))
        (behind (header_fault oldest size (take n bytes)) header refl)
      where
        behind : (fault : Option BadFile) → fault ≡ header_fault oldest size bytes → header_fault oldest size (take n bytes) ≡ fault → option_or (header_fault oldest size (take n bytes)) (starts_wrong (header_of_file (take n bytes)) (take n bytes)) ≡ option_or (header_fault oldest size bytes) (starts_wrong (header_of_file bytes) bytes)
        behind (Some bad) is was =
            ap (λ (fault : Option BadFile). option_or fault (starts_wrong (header_of_file (take n bytes)) (take n bytes))) was
            ∙ ap (λ (fault : Option BadFile). option_or fault (starts_wrong (header_of_file bytes) bytes)) is
        behind None is was =
            let header = header_of_file bytes in
            let low = front-low header (right-header oldest size bytes (sym is)) in
            let same = header_of-front n bytes (omega (arith, room)) in
            let count = length-take-le n bytes long in
            ap₂ (λ (fault : Option BadFile) (header : Header). option_or fault (starts_wrong header (take n bytes))) (was ∙ is) same
            ∙ ap₂ (λ (short : Option BadFile) (starts : Option BadFile). option_or (header_fault oldest size bytes) (option_or short starts))
            (none-before (front_length header) (take n bytes) (omega (arith, room, low, count)) ∙ sym (none-before (front_length header) bytes (omega (arith, room, low, long))))
            (starts-front header n bytes (omega (arith, room, low)))

-- ---- one fault after another

pub or_next : {A : Type 0} (first others : Option A) → first ≡ None → option_or first others ≡ others
or_next None others none = refl
or_next (Some x) others none = absurd (grind arith)

pub or_first : {A : Type 0} (first others : Option A) (x : A) → first ≡ Some x → option_or first others ≡ Some x
or_first first others x is = ap (λ first. option_or first others) is

-- bytes that don't end before a place
pub goes_on : (place : ℕ) (bytes : List ℕ) → ends_before place bytes ≡ None → place ≤ length bytes
goes_on place bytes none = by_length (cases_lt (length bytes) place)
  where
    by_length : (length bytes < place) ⊎ (place ≤ length bytes) → place ≤ length bytes
    by_length (inr long) = long
    by_length (inl short) =
        let wrong : nat_lt (length bytes) place ≡ true = grind (arith, nat_tests) in
        absurd (some_none (sym (ap (λ (wrong : Bool). if wrong then Some (record { fault = faults.Short; at = length bytes }) else None) wrong) ∙ none))
      where
        some_none : {bad : BadFile} → Some bad ≡ None → ⊥
        some_none same = grind arith

-- ---- what the first bytes tell of a file

pub front-tells : (oldest : Version) (size : ℕ) (bytes file : List ℕ) (front : Front) → size ≡ length file → bytes ≡ take 368 file → IsFrontFrom oldest (record { size = size; bytes = bytes }) front → IsFrontFrom oldest (whole file) front
front-tells oldest size bytes file front is are told =
    let first : List ℕ = take 368 file in
    let right = ap (λ (bytes : List ℕ). front_fault_from oldest (record { size = size; bytes = bytes })) (sym are) ∙ told.right in
    let same = header_of-front 368 file (omega arith) in
    let tell = first-tell oldest size 368 file (omega arith) in
    let header : IsHeader (header_of_file first) = right-header oldest size first (none_or _ _ (none_or _ _ right).1).0 in
    let low : front_length (header_of_file file) ≤ 368 = front-low (header_of_file file) (subst (λ (header : Header). IsHeader header) same header) in
    record {
      right = ap (λ size. front_fault_from oldest (record { size = size; bytes = file })) (sym is) ∙ sym tell ∙ right;
      header = told.header ∙ ap header_of_file are ∙ same;
      head = told.head ∙ ap (λ (bytes : List ℕ). head_in (header_of_file bytes) bytes) are ∙ ap (λ (header : Header). head_in header first) same ∙ head-front (header_of_file file) 368 file low;
      digest = told.digest ∙ ap (λ (bytes : List ℕ). digest_in (header_of_file bytes) bytes) are ∙ ap (λ (header : Header). digest_in header first) same ∙ digest-front (header_of_file file) 368 file low;
    }

pub answers-tell : (oldest : Version) (size : ℕ) (bytes : List ℕ) (held : Option (List ℕ)) (result : Result Front LoadStop) → Some size ≡ option_map (λ (bytes : List ℕ). length bytes) held
    → ((file : List ℕ) → held ≡ Some file → bytes ≡ take 368 file) → AnswersFront oldest (Some (record { size = size; bytes = bytes })) result → AnswersFront oldest (option_map whole held) result
answers-tell oldest size bytes None result is are told = absurd (grind (arith, is))
answers-tell oldest size bytes (Some file) (Ok front) is are told = front-tells oldest size bytes file front (grind (arith, is)) (are file refl) told
answers-tell oldest size bytes (Some file) (Err (Bad bad)) is are told =
    let long : size ≡ length file = grind (arith, is) in
    ap (λ size. front_fault_from oldest (record { size = size; bytes = file })) (sym long) ∙ sym (first-tell oldest size 368 file (omega arith))
    ∙ ap (λ (bytes : List ℕ). front_fault_from oldest (record { size = size; bytes = bytes })) (sym (are file refl)) ∙ told
answers-tell oldest size bytes (Some file) (Err ReadFault) is are told = told
answers-tell oldest size bytes (Some file) (Err Missing) is are told = told
answers-tell oldest size bytes (Some file) (Err NoMemory) is are told = told

-- the first bytes that were read
pub filled : (size count : ℕ) (file old : List ℕ) → length old ≡ min size 368 → size ≡ length file → count ≡ min (length old) (length file) → take count file ≡ take 368 file
filled size count file old room is many =
    let least : count ≡ min 368 (length file) = omega (arith, room, is, many) in
    ap (λ n. take n file) least ∙ take_min 368 file

pub read-first : (size count : ℕ) (held there : Option (List ℕ)) (old new rest : List ℕ) → length old ≡ min size 368 → there ≡ held → Some size ≡ option_map (λ (bytes : List ℕ). length bytes) held
    → Fills there 0 old new count → length new ≡ length old → (file : List ℕ) → held ≡ Some file → take count (new ++ rest) ≡ take 368 file
read-first size count held there old new rest room same is fills long file holds =
    let known : bytes_from 0 there ≡ file = ap (λ (held : Option (List ℕ)). bytes_from 0 held) (same ∙ holds) in
    let known_size : size ≡ length file = grind (arith, is, holds) in
    let many : count ≡ min (length old) (length file) = fills.count_is ∙ ap (λ (bytes : List ℕ). min (length old) (length bytes)) known in
    take-append-le count new rest (omega (arith, many, long)) ∙ fills.front ∙ ap (λ (bytes : List ℕ). take count bytes) known ∙ filled size count file old room known_size many

-- a fault that is told
pub bad_front : (oldest : Version) (size : ℕ) (bytes : List ℕ) (bad : BadFile) (result : Result Front LoadStop) → IsErrAnd result (λ stop. stop ≡ Bad bad)
    → front_fault_from oldest (record { size = size; bytes = bytes }) ≡ Some bad → AnswersFront oldest (Some (record { size = size; bytes = bytes })) result
bad_front oldest size bytes bad (Ok front) wrong is = absurd wrong
bad_front oldest size bytes bad (Err stop) same is = subst (λ (stop : LoadStop). AnswersFront oldest (Some (record { size = size; bytes = bytes })) (Err stop)) (sym same) is

pub room-is : (room size : ℕ) (buf : List ℕ) → length buf ≡ 368 → room ≡ min size 368 → length (take room buf) ≡ min size 368
room-is room size buf long is = omega (arith, length-take room buf, long, is)
