-- What calls that read leave, and what they tell of contents that agree with them.
use Rattle.std.proofs.Common.{◌≡◌, ◌∙◌, ℕ, zero, suc, ◌+◌, ◌<◌, ◌≤◌, nat_lt, ◌==◌, Bool, true, false, ◌&&◌, ◌||◌, IsTrue, List, [], ◌∷◌, ◌++◌, length, map, take, drop, ◌⊎◌, inl, inr, Option, Some, None, Result, Ok, Err, IfOk, refl, sym, ap, subst, arith, append_assoc, length-take}
use Rattle.std.specs.Option.{option_map}
use Rattle.std.proofs.lemmas.Bool.{false≢true}
use Rattle.std.proofs.lemmas.Bool.Decides.{Decides-eqb, Decides-ltb}
use Rattle.std.proofs.lemmas.List.{append-nil, take-append-drop}
use Rattle.std.proofs.Math.Seq.{drop-append_seam, take-append_seam}
use Rattle.std.proofs.lemmas.Slice.Eq.{bytes_eq-Decides}
use Rattle.hyper_outside.specs.Causes.{HasCause, risen_count}
use Rattle.outside_log.specs.Files.{Contents, Reads, bytes_from}
use Rattle.outside_log.specs.Log.{Event, Found, Sized, Read, ReadFailed, Started, Appended, Finished, GivenUp, Failed, Put, Disk, AllLeavePlaces, CompletesFile, LeavesPlaces, after, after_all, disk_of, empty_disk, failures, standing}
use Rattle.outside_log.specs.Readings.{ReadsOn, are_answers, are_readings, is_reading, is_answer, is_faithful, is_read, is_size, read_event, read_faults, sized_event}
use Rattle.outside_log.proofs.Logs.{after-both, failures-both}

-- ---- both and either

both-true : (a b : Bool) → IsTrue (a && b) → IsTrue a × IsTrue b
both-true true true t = (refl, refl)
both-true true false t = absurd (false≢true t)
both-true false b t = absurd (false≢true t)

either-true : (a b : Bool) → IsTrue (a || b) → IsTrue a ⊎ IsTrue b
either-true true b t = inl refl
either-true false b t = inr t

both-hold : (a b : Bool) → IsTrue a → IsTrue b → IsTrue (a && b)
both-hold true true s t = refl
both-hold true false s t = absurd (false≢true t)
both-hold false b s t = absurd (false≢true s)

-- ---- one after another

-- what was added
abbrev pub added : (old new : List Event) → List Event
added old new = drop (length old) new

pub grown : {old new : List Event} → ReadsOn old new → new ≡ old ++ added old new
grown {old} {new} reads = sym (take-append-drop (length old) new) ∙ ap (λ (events : List Event). events ++ drop (length old) new) reads.begins

-- these were added
pub reads-these : (old new events : List Event) → new ≡ old ++ events → IsTrue (are_readings events) → ReadsOn old new
reads-these old new events is readings = record {
  begins = ap (λ (log : List Event). take (length old) log) is ∙ take-append_seam old events;
  readings = subst (λ (rest : List Event). IsTrue (are_readings rest)) (sym (ap (λ (log : List Event). drop (length old) log) is ∙ drop-append_seam old events)) readings;
}

pub reads-none : (log : List Event) → ReadsOn log log
reads-none log = reads-these log log [] (sym (append-nil log)) refl

pub reads-one : (old new : List Event) (event : Event) → IsTrue (is_reading event) → new ≡ old ++ event ∷ [] → ReadsOn old new
reads-one old new event reading is = reads-these old new (event ∷ []) is (both-hold _ _ reading refl)

all-both : (one two : List Event) → IsTrue (are_readings one) → IsTrue (are_readings two) → IsTrue (are_readings (one ++ two))
all-both [] two first last = last
all-both (event ∷ one) two first last = let parts = both-true (is_reading event) _ first in both-hold _ _ parts.0 (all-both one two parts.1 last)

pub reads-both : (old middle new : List Event) → ReadsOn old middle → ReadsOn middle new → ReadsOn old new
reads-both old middle new first last =
    reads-these old new (added old middle ++ added middle new)
    (grown last ∙ ap (λ (log : List Event). log ++ added middle new) (grown first) ∙ append_assoc old (added old middle) (added middle new))
    (all-both (added old middle) (added middle new) first.readings last.readings)

-- ---- what they leave

stays : (disk : Disk) (events : List Event) → IsTrue (are_readings events) → after_all disk events ≡ disk
stays disk [] all = refl
stays disk (Found files ∷ events) all = absurd (false≢true all)
stays disk (Sized name size ∷ events) all = stays disk events all
stays disk (Read name at room bytes ∷ events) all = stays disk events all
stays disk (ReadFailed name ∷ events) all = stays disk events all
stays disk (Started name ∷ events) all = absurd (false≢true all)
stays disk (Appended name bytes ∷ events) all = absurd (false≢true all)
stays disk (Finished name ∷ events) all = absurd (false≢true all)
stays disk (GivenUp name ∷ events) all = absurd (false≢true all)
stays disk (Failed name ∷ events) all = absurd (false≢true all)
stays disk (Put bytes ∷ events) all = absurd (false≢true all)

-- what stands, and what was begun
pub reads-disk : (old new : List Event) → ReadsOn old new → disk_of new ≡ disk_of old
reads-disk old new reads = ap disk_of (grown reads) ∙ after-both empty_disk old (added old new) ∙ stays (disk_of old) (added old new) reads.readings

-- what stands
pub reads-same : {old new : List Event} → ReadsOn old new → standing new ≡ standing old
reads-same {old} {new} reads = ap (λ (disk : Disk). disk.held) (reads-disk old new reads)

pub reads-file : {old new : List Event} → ReadsOn old new → (name : List ℕ) → standing new name ≡ standing old name
reads-file reads name = ap (λ (held : Contents). held name) (reads-same reads)

leave : (events : List Event) → IsTrue (are_readings events) → AllLeavePlaces events
leave [] all = tt
leave (Found files ∷ events) all = absurd (false≢true all)
leave (Sized name size ∷ events) all = (tt, leave events all)
leave (Read name at room bytes ∷ events) all = (tt, leave events all)
leave (ReadFailed name ∷ events) all = (tt, leave events all)
leave (Started name ∷ events) all = absurd (false≢true all)
leave (Appended name bytes ∷ events) all = absurd (false≢true all)
leave (Finished name ∷ events) all = absurd (false≢true all)
leave (GivenUp name ∷ events) all = absurd (false≢true all)
leave (Failed name ∷ events) all = absurd (false≢true all)
leave (Put bytes ∷ events) all = absurd (false≢true all)

-- every name's file
pub reads-leave : {old new : List Event} → ReadsOn old new → LeavesPlaces old new
reads-leave {old} {new} reads = record { added = added old new; grown = grown reads; none = leave (added old new) reads.readings }

no-failures : (events : List Event) → IsTrue (are_readings events) → failures events ≡ 0
no-failures [] all = refl
no-failures (Found files ∷ events) all = absurd (false≢true all)
no-failures (Sized name size ∷ events) all = no-failures events all
no-failures (Read name at room bytes ∷ events) all = no-failures events all
no-failures (ReadFailed name ∷ events) all = no-failures events all
no-failures (Started name ∷ events) all = absurd (false≢true all)
no-failures (Appended name bytes ∷ events) all = absurd (false≢true all)
no-failures (Finished name ∷ events) all = absurd (false≢true all)
no-failures (GivenUp name ∷ events) all = absurd (false≢true all)
no-failures (Failed name ∷ events) all = absurd (false≢true all)
no-failures (Put bytes ∷ events) all = absurd (false≢true all)

-- how many calls that write have failed
pub reads-failures : {old new : List Event} → ReadsOn old new → failures new ≡ failures old
reads-failures {old} {new} reads =
    let none = no-failures (added old new) reads.readings in
    let both = ap failures (grown reads) ∙ failures-both old (added old new) in
    omega (arith, none, both)

-- ---- calls that failed

faults-both : (one two : List Event) → read_faults (one ++ two) ≡ read_faults one + read_faults two
faults-both [] two = omega arith
faults-both (Found files ∷ one) two = faults-both one two
faults-both (Sized name size ∷ one) two = faults-both one two
faults-both (Read name at room bytes ∷ one) two = faults-both one two
faults-both (ReadFailed name ∷ one) two = let rest = faults-both one two in omega (arith, rest)
faults-both (Started name ∷ one) two = faults-both one two
faults-both (Appended name bytes ∷ one) two = faults-both one two
faults-both (Finished name ∷ one) two = faults-both one two
faults-both (GivenUp name ∷ one) two = faults-both one two
faults-both (Failed name ∷ one) two = faults-both one two
faults-both (Put bytes ∷ one) two = faults-both one two

pub grown-later : (old new added : List Event) → new ≡ old ++ added → read_faults old ≤ read_faults new
grown-later old new added grown = let both = ap read_faults grown ∙ faults-both old added in omega (arith, both)

one-fails : (old new : List Event) (name : List ℕ) → new ≡ old ++ ReadFailed name ∷ [] → risen_count (read_faults old) ≤ read_faults new
one-fails old new name grown = let both = ap read_faults grown ∙ faults-both old (ReadFailed name ∷ []) in rose (read_faults old) (read_faults new) (omega (arith, both))
  where
    rose : (n m : ℕ) → n + 1 ≤ m → risen_count n ≤ m
    rose n m le = omega (arith, le)

-- ---- what answers tell

front-answers : (disk : Disk) (one two : List Event) → IsTrue (are_answers disk (one ++ two)) → IsTrue (are_answers disk one)
front-answers disk [] two all = refl
front-answers disk (event ∷ one) two all =
    let parts = both-true (is_answer disk.held event) _ all in
    joined (is_answer disk.held event) _ parts.0 (front-answers (after disk event) one two parts.1)
  where
    joined : (a b : Bool) → IsTrue a → IsTrue b → IsTrue (a && b)
    joined true true s t = refl
    joined true false s t = absurd (false≢true t)
    joined false b s t = absurd (false≢true s)

rest-answers : (disk : Disk) (one two : List Event) → IsTrue (are_answers disk (one ++ two)) → IsTrue (are_answers (after_all disk one) two)
rest-answers disk [] two all = all
rest-answers disk (event ∷ one) two all = rest-answers (after disk event) one two (both-true (is_answer disk.held event) _ all).1

-- an answer more
pub last-answer : (old new : List Event) (event : Event) → new ≡ old ++ event ∷ [] → IsTrue (is_faithful new) → IsTrue (is_answer (standing old) event)
last-answer old new event grown all = (both-true _ _ (rest-answers empty_disk old (event ∷ []) (subst (λ (log : List Event). IsTrue (is_faithful log)) grown all))).0

-- where all is faithful, so it was before
pub grown-before : (old new added : List Event) → new ≡ old ++ added → IsTrue (is_faithful new) → IsTrue (is_faithful old)
grown-before old new added grown all = front-answers empty_disk old added (subst (λ (log : List Event). IsTrue (is_faithful log)) grown all)

pub leaves-before : {old new : List Event} → LeavesPlaces old new → IsTrue (is_faithful new) → IsTrue (is_faithful old)
leaves-before {old} {new} leaves all = grown-before old new leaves.added leaves.grown all

pub completed-before : {name bytes : List ℕ} {old new : List Event} → CompletesFile name bytes old new → IsTrue (is_faithful new) → IsTrue (is_faithful old)
completed-before {name} {bytes} {old} {new} completes all =
    grown-before old completes.middle (map (Appended name) completes.adds.pieces) completes.adds.grown (grown-before completes.middle new (Finished name ∷ []) completes.ends all)

pub leaves-faults : {old new : List Event} → LeavesPlaces old new → read_faults old ≤ read_faults new
leaves-faults {old} {new} leaves = grown-later old new leaves.added leaves.grown

pub reads-before : {old new : List Event} → ReadsOn old new → IsTrue (is_faithful new) → IsTrue (is_faithful old)
reads-before {old} {new} reads all = grown-before old new (added old new) (grown reads) all

-- ---- one call for a size

pub size-reads : {E : Type 0} (old new : List Event) (name : List ℕ) (result : Result (Option ℕ) E) → new ≡ old ++ sized_event name result ∷ [] → ReadsOn old new
size-reads old new name (Ok size) grown = reads-one old new (Sized name size) refl grown
size-reads old new name (Err e) grown = reads-one old new (ReadFailed name) refl grown

pub size-cause : {E : Type 0} (old new : List Event) (name : List ℕ) (result : Result (Option ℕ) E) → new ≡ old ++ sized_event name result ∷ [] → HasCause (read_faults old) (read_faults new) result
size-cause old new name (Ok size) grown = record { later = grown-later old new (Sized name size ∷ []) grown; failed = tt }
size-cause old new name (Err e) grown = record { later = grown-later old new (ReadFailed name ∷ []) grown; failed = one-fails old new name grown }

right-size : (file : Option (List ℕ)) (size : Option ℕ) → IsTrue (is_size file size) → size ≡ option_map length file
right-size None None is = refl
right-size None (Some size) is = absurd (false≢true is)
right-size (Some bytes) None is = absurd (false≢true is)
right-size (Some bytes) (Some size) is = ap (λ n. Some n) ((Decides-eqb size (length bytes)).0 is)

pub size-told : {E : Type 0} (old new : List Event) (name : List ℕ) (result : Result (Option ℕ) E) → new ≡ old ++ sized_event name result ∷ [] → IsTrue (is_faithful new)
    → IfOk result (λ size. size ≡ option_map length (standing old name))
size-told old new name (Ok size) grown all = right-size (standing old name) size (last-answer old new (Sized name size) grown all)
size-told old new name (Err e) grown all = tt

-- ---- one read

pub read-reads : {E : Type 0} (old new : List Event) (name : List ℕ) (at room : ℕ) (buf : List ℕ) (result : Result ℕ E) → new ≡ old ++ read_event name at room buf result ∷ [] → ReadsOn old new
read-reads old new name at room buf (Ok count) grown = reads-one old new (Read name at room (take count buf)) refl grown
read-reads old new name at room buf (Err e) grown = reads-one old new (ReadFailed name) refl grown

pub read-cause : {E : Type 0} (old new : List Event) (name : List ℕ) (at room : ℕ) (buf : List ℕ) (result : Result ℕ E) → new ≡ old ++ read_event name at room buf result ∷ [] → HasCause (read_faults old) (read_faults new) result
read-cause old new name at room buf (Ok count) grown = record { later = grown-later old new (Read name at room (take count buf) ∷ []) grown; failed = tt }
read-cause old new name at room buf (Err e) grown = record { later = grown-later old new (ReadFailed name ∷ []) grown; failed = one-fails old new name grown }

nothing : (n : ℕ) → IsTrue (n == 0) → 0 < n → ⊥
nothing n is some = let none = (Decides-eqb n 0).0 is in omega (arith, none, some)

some-read : (n room there : ℕ) → IsTrue (nat_lt 0 n || (room == 0 || there == 0)) → 0 < room → 0 < there → 0 < n
some-read zero room there is more some = elim (either-true (room == 0) (there == 0) is) [
  | inl none ↦ absurd (nothing room none more)
  | inr none ↦ absurd (nothing there none some)
]
some-read (suc n) room there is more some = omega arith

right-read : (file : Option (List ℕ)) (at count : ℕ) (old new : List ℕ) → count ≤ length old → length new ≡ length old → IsTrue (is_read file at (length old) (take count new)) → Reads file at old new count
right-read file at count old new fits same is =
    let parts = both-true _ _ is in
    let size : length (take count new) ≡ count = omega (arith, length-take count new, fits, same) in
    let front = (bytes_eq-Decides (take count new) (take (length (take count new)) (bytes_from at file))).0 parts.0 in
    let front' = subst (λ n. take count new ≡ take n (bytes_from at file)) size front in
    let there : count ≤ length (bytes_from at file) = omega (arith, size, ap length front', length-take count (bytes_from at file)) in
    record {
      room = fits;
      there = there;
      some = subst (λ n. 0 < length old → 0 < length (bytes_from at file) → 0 < n) size (some-read (length (take count new)) (length old) (length (bytes_from at file)) parts.1);
      front = front';
    }

pub read-told : {E : Type 0} (old new : List Event) (name : List ℕ) (at : ℕ) (before buf : List ℕ) (result : Result ℕ E) → new ≡ old ++ read_event name at (length before) buf result ∷ [] → IfOk result (λ count. count ≤ length before)
    → length buf ≡ length before → IsTrue (is_faithful new) → IfOk result (Reads (standing old name) at before buf)
read-told old new name at before buf (Ok count) grown fits same all = right-read (standing old name) at count before buf fits same (last-answer old new (Read name at (length before) (take count buf)) grown all)
read-told old new name at before buf (Err e) grown fits same all = tt

-- ---- answers that are what stands there

more-answers : (disk : Disk) (events : List Event) (event : Event) → IsTrue (are_answers disk events) → IsTrue (is_answer (after_all disk events).held event) → IsTrue (are_answers disk (events ++ event ∷ []))
more-answers disk [] event all is = both-hold _ _ is refl
more-answers disk (first ∷ events) event all is =
    let parts = both-true (is_answer disk.held first) _ all in
    both-hold _ _ parts.0 (more-answers (after disk first) events event parts.1 is)

-- one more
pub faithful-more : (old new : List Event) (event : Event) → new ≡ old ++ event ∷ [] → IsTrue (is_faithful old) → IsTrue (is_answer (standing old) event) → IsTrue (is_faithful new)
faithful-more old new event grown all is = subst (λ (log : List Event). IsTrue (is_faithful log)) (sym grown) (more-answers empty_disk old event all is)

-- a size
pub size-faithful : {E : Type 0} (held : Contents) (name : List ℕ) (result : Result (Option ℕ) E) → IfOk result (λ size. size ≡ option_map length (held name)) → IsTrue (is_answer held (sized_event name result))
size-faithful held name (Err e) is = refl
size-faithful held name (Ok size) is = subst (λ s. IsTrue (is_size (held name) s)) (sym is) (itself (held name))
  where
    itself : (file : Option (List ℕ)) → IsTrue (is_size file (option_map length file))
    itself None = refl
    itself (Some bytes) = (Decides-eqb (length bytes) (length bytes)).1 refl

first-holds : (a b : Bool) → IsTrue a → IsTrue (a || b)
first-holds true b t = refl
first-holds false b t = absurd (false≢true t)

second-holds : (a b : Bool) → IsTrue b → IsTrue (a || b)
second-holds true b t = refl
second-holds false b t = t

some-or-none : (n room there : ℕ) → (0 < room → 0 < there → 0 < n) → IsTrue (nat_lt 0 n || (room == 0 || there == 0))
some-or-none (suc n) room there some = first-holds (nat_lt 0 (suc n)) _ ((Decides-ltb 0 (suc n)).1 (omega arith))
some-or-none zero zero there some = second-holds (nat_lt 0 0) (0 == 0 || there == 0) (first-holds (0 == 0) (there == 0) ((Decides-eqb 0 0).1 refl))
some-or-none zero (suc room) zero some = second-holds (nat_lt 0 0) (suc room == 0 || 0 == 0) (second-holds (suc room == 0) (0 == 0) ((Decides-eqb 0 0).1 refl))
some-or-none zero (suc room) (suc there) some = let bad = some (omega arith) (omega arith) in absurd (omega (arith, bad))

-- a read
pub read-faithful : {E : Type 0} (held : Contents) (name : List ℕ) (at : ℕ) (old new : List ℕ) (result : Result ℕ E) → length new ≡ length old → IfOk result (Reads (held name) at old new)
    → IsTrue (is_answer held (read_event name at (length old) new result))
read-faithful held name at old new (Err e) same is = refl
read-faithful held name at old new (Ok count) same is =
    let size : length (take count new) ≡ count = omega (arith, length-take count new, is.room, same) in
    both-hold _ _
    ((bytes_eq-Decides (take count new) (take (length (take count new)) (bytes_from at (held name)))).1 (subst (λ n. take count new ≡ take n (bytes_from at (held name))) (sym size) is.front))
    (some-or-none (length (take count new)) (length old) (length (bytes_from at (held name))) (subst (λ n. 0 < length old → 0 < length (bytes_from at (held name)) → 0 < n) (sym size) is.some))
