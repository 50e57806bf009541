-- What stands under the names after a file was written, or wasn't.
use Rattle.std.proofs.Common.{◌≡◌, ◌≢◌, ◌∙◌, ℕ, ◌+◌, ◌≤◌, arith, List, [], ◌∷◌, ◌++◌, map, Option, Some, Result, Ok, Err, IsErr, Bool, true, false, refl, sym, ap, ap₂, append_assoc}
use Rattle.std.specs.List.{concat}
use Rattle.std.specs.Str.{bytes_eq}
use Rattle.std.proofs.lemmas.List.{append-nil}
use Rattle.std.proofs.lemmas.Slice.Eq.{bytes_eq-Decides}
use Rattle.hyper_outside.specs.Causes.{HasCause, Rose, risen_count}
use Rattle.outside_log.specs.Log.{Event, Found, Sized, Read, ReadFailed, Started, Appended, Finished, GivenUp, Failed, Put, Begun, Disk, Adds, AddsAll, AllLeavePlaces, LeavesPlace, LeavesPlaces, after, after_all, disk_of, empty_disk, event_of, failures, standing, with_bytes}

-- some events after others
pub after-both : (disk : Disk) (first last : List Event) → after_all disk (first ++ last) ≡ after_all (after_all disk first) last
after-both disk [] last = refl
after-both disk (event ∷ first) last = after-both (after disk event) first last

-- one event more
pub one-more : (log : List Event) (event : Event) → disk_of (log ++ event ∷ []) ≡ after (disk_of log) event
one-more log event = after-both empty_disk log (event ∷ [])

-- pieces that are added one after another
pub added : (name : List ℕ) (pieces : List (List ℕ)) (held : List ℕ → Option (List ℕ)) (begun : Begun)
    → after_all (record { held = held; begun = Some begun }) (map (Appended name) pieces) ≡ record { held = held; begun = Some (record { name = begun.name; bytes = begun.bytes ++ concat pieces }) }
added name [] held begun = ap (λ (bytes : List ℕ). record { held = held; begun = Some (record { name = begun.name; bytes = bytes }) }) (sym (append-nil begun.bytes))
added name (piece ∷ pieces) held begun =
    added name pieces held (record { name = begun.name; bytes = begun.bytes ++ piece })
    ∙ ap (λ (bytes : List ℕ). record { held = held; begun = Some (record { name = begun.name; bytes = bytes }) }) (append_assoc begun.bytes piece (concat pieces))

bytes_eq-same : (name : List ℕ) → bytes_eq name name ≡ true
bytes_eq-same name = (bytes_eq-Decides name name).1 refl

bytes_eq-differs : (one two : List ℕ) (b : Bool) → bytes_eq one two ≡ b → one ≢ two → b ≡ false
bytes_eq-differs one two true e differs = absurd (differs ((bytes_eq-Decides one two).0 e))
bytes_eq-differs one two false e differs = refl

pub under : (held : List ℕ → Option (List ℕ)) (name bytes : List ℕ) → with_bytes held name bytes name ≡ Some bytes
under held name bytes = rw (bytes_eq-same name) refl

pub aside : (held : List ℕ → Option (List ℕ)) (name bytes other : List ℕ) → other ≢ name → with_bytes held name bytes other ≡ held other
aside held name bytes other differs = rw (bytes_eq-differs name other _ refl (λ same. differs (sym same))) refl

-- where no file took a place, none changed
stays : (disk : Disk) (events : List Event) → AllLeavePlaces events → (name : List ℕ) → (after_all disk events).held name ≡ disk.held name
stays disk [] all name = refl
stays disk (Found files ∷ events) all name = absurd all.0
stays disk (Sized other size ∷ events) all name = stays disk events all.1 name
stays disk (Read other at room bytes ∷ events) all name = stays disk events all.1 name
stays disk (ReadFailed other ∷ events) all name = stays disk events all.1 name
stays disk (Started other ∷ events) all name = stays (after disk (Started other)) events all.1 name
stays disk (Appended other bytes ∷ events) all name = stays (after disk (Appended other bytes)) events all.1 name
stays disk (Finished other ∷ events) all name = absurd all.0
stays disk (GivenUp other ∷ events) all name = stays (after disk (GivenUp other)) events all.1 name
stays disk (Failed other ∷ events) all name = stays (after disk (Failed other)) events all.1 name
stays disk (Put bytes ∷ events) all name = stays disk events all.1 name

pub stay : (old new : List Event) → LeavesPlaces old new → (name : List ℕ) → standing new name ≡ standing old name
stay old new leaves name =
    ap (λ (log : List Event). standing log name) leaves.grown
    ∙ ap (λ (disk : Disk). disk.held name) (after-both empty_disk old leaves.added)
    ∙ stays (disk_of old) leaves.added leaves.none name

-- ---- calls by which no file takes a place

pub leaves-none : (log : List Event) → LeavesPlaces log log
leaves-none log = record { added = []; grown = sym (append-nil log); none = tt }

pub leaves-one : (old new : List Event) (event : Event) → LeavesPlace event → new ≡ old ++ event ∷ [] → LeavesPlaces old new
leaves-one old new event leaves grown = record { added = event ∷ []; grown = grown; none = (leaves, tt) }

all-both : (one two : List Event) → AllLeavePlaces one → AllLeavePlaces two → AllLeavePlaces (one ++ two)
all-both [] two first last = last
all-both (event ∷ one) two first last = (first.0, all-both one two first.1 last)

pub leaves-both : (old middle new : List Event) → LeavesPlaces old middle → LeavesPlaces middle new → LeavesPlaces old new
leaves-both old middle new first last = record {
  added = first.added ++ last.added;
  grown = last.grown ∙ ap (λ (log : List Event). log ++ last.added) first.grown ∙ append_assoc old first.added last.added;
  none = all-both first.added last.added first.none last.none;
}

-- ---- calls that failed

pub failures-both : (one two : List Event) → failures (one ++ two) ≡ failures one + failures two
failures-both [] two = omega arith
failures-both (Found files ∷ one) two = failures-both one two
failures-both (Sized name size ∷ one) two = failures-both one two
failures-both (Read name at room bytes ∷ one) two = failures-both one two
failures-both (ReadFailed name ∷ one) two = failures-both one two
failures-both (Started name ∷ one) two = failures-both one two
failures-both (Appended name bytes ∷ one) two = failures-both one two
failures-both (Finished name ∷ one) two = failures-both one two
failures-both (GivenUp name ∷ one) two = failures-both one two
failures-both (Put bytes ∷ one) two = failures-both one two
failures-both (Failed name ∷ one) two = let rest = failures-both one two in omega (arith, rest)

-- no call that failed comes to be undone
pub failures-later : (old new added : List Event) → new ≡ old ++ added → failures old ≤ failures new
failures-later old new added grown = let both = ap failures grown ∙ failures-both old added in omega (arith, both)

-- a call's failure is counted
pub cause-of : {T E : Type 0} (old new : List Event) (event : Event) (name : List ℕ) (result : Result T E) → new ≡ old ++ event_of event name result ∷ [] → HasCause (failures old) (failures new) result
cause-of old new event name (Ok x) grown = record { later = failures-later old new (event ∷ []) grown; failed = tt }
cause-of old new event name (Err e) fails =
    let both = ap failures fails ∙ failures-both old (Failed name ∷ []) in
    record { later = omega (arith, both); failed = rose (failures old) (failures new) (omega (arith, both)) }
  where
    rose : (n m : ℕ) → n + 1 ≤ m → risen_count n ≤ m
    rose n m le = omega (arith, le)

pub cause-both : {T E : Type 0} (a b c : ℕ) (result : Result T E) → a ≤ b → HasCause b c result → HasCause a c result
cause-both a b c (Ok x) le cause = let later = cause.later in record { later = omega (arith, le, later); failed = tt }
cause-both a b c (Err e) le cause =
    let later = cause.later in
    let failed = cause.failed in
    record { later = omega (arith, le, later); failed = omega (arith, le, failed) }

-- ---- adding piece by piece

-- nothing was added yet
pub adds-none : (name : List ℕ) (log : List Event) → Adds name [] log log
adds-none name log = record { pieces = []; joined = refl; grown = sym (append-nil log) }

-- one piece was added
pub adds-one : (name bytes : List ℕ) (old new : List Event) → new ≡ old ++ Appended name bytes ∷ [] → Adds name bytes old new
adds-one name bytes old new grown = record { pieces = bytes ∷ []; joined = append-nil bytes; grown = grown }

concat-both : (one two : List (List ℕ)) → concat (one ++ two) ≡ concat one ++ concat two
concat-both [] two = refl
concat-both (piece ∷ one) two = ap (λ (rest : List ℕ). piece ++ rest) (concat-both one two) ∙ sym (append_assoc piece (concat one) (concat two))

map-both : (name : List ℕ) (one two : List (List ℕ)) → map (Appended name) (one ++ two) ≡ map (Appended name) one ++ map (Appended name) two
map-both name [] two = refl
map-both name (piece ∷ one) two = ap (λ (rest : List Event). Appended name piece ∷ rest) (map-both name one two)

-- these, and then those
pub adds-both : (name one two : List ℕ) (old middle new : List Event) → Adds name one old middle → Adds name two middle new → Adds name (one ++ two) old new
adds-both name one two old middle new first last = record {
  pieces = first.pieces ++ last.pieces;
  joined = concat-both first.pieces last.pieces ∙ ap₂ ◌++◌ first.joined last.joined;
  grown = last.grown
      ∙ ap (λ (log : List Event). log ++ map (Appended name) last.pieces) first.grown
      ∙ append_assoc old (map (Appended name) first.pieces) (map (Appended name) last.pieces)
      ∙ ap (λ (events : List Event). old ++ events) (sym (map-both name first.pieces last.pieces));
}

-- the pieces that are added have no file take a place
all-added : (name : List ℕ) (pieces : List (List ℕ)) → AllLeavePlaces (map (Appended name) pieces)
all-added name [] = tt
all-added name (piece ∷ pieces) = (tt, all-added name pieces)

pub adds-leaves : (name bytes : List ℕ) (old new : List Event) → Adds name bytes old new → LeavesPlaces old new
adds-leaves name bytes old new adds = record { added = map (Appended name) adds.pieces; grown = adds.grown; none = all-added name adds.pieces }

-- ---- by the answer of a call

-- one call adds all, or fails
pub added-once : {T E : Type 0} (name bytes : List ℕ) (old new : List Event) (result : Result T E) → new ≡ old ++ event_of (Appended name bytes) name result ∷ [] → AddsAll name bytes old new result
added-once {T} {E} name bytes old new (Ok x) grown = record {
  adds = adds-one name bytes old new grown;
  leaves = leaves-one old new (Appended name bytes) tt grown;
  cause = cause-of {T = T} {E = E} old new (Appended name bytes) name (Ok x) grown;
}
added-once {T} {E} name bytes old new (Err e) fails = record {
  adds = tt;
  leaves = leaves-one old new (Failed name) tt fails;
  cause = cause-of {T = T} {E = E} old new (Appended name bytes) name (Err e) fails;
}

-- a call failed
pub failed : {T E : Type 0} (name bytes : List ℕ) (old new : List Event) (result : Result T E) → IsErr result → LeavesPlaces old new → failures old ≤ failures new → Rose (failures old) (failures new) → AddsAll name bytes old new result
failed name bytes old new (Ok x) err leaves later rose = cc
failed name bytes old new (Err e) err leaves later rose = record { adds = tt; leaves = leaves; cause = record { later = later; failed = rose } }

-- these were added, and then those, or a call failed
pub added-then : {T E : Type 0} (name one two : List ℕ) (old middle new : List Event) (result : Result T E) → Adds name one old middle → AddsAll name two middle new result → AddsAll name (one ++ two) old new result
added-then name one two old middle new (Ok x) first last = record {
  adds = adds-both name one two old middle new first last.adds;
  leaves = leaves-both old middle new (adds-leaves name one old middle first) last.leaves;
  cause = cause-both (failures old) (failures middle) (failures new) (Ok x) (failures-later old middle (map (Appended name) first.pieces) first.grown) last.cause;
}
added-then name one two old middle new (Err e) first last = record {
  adds = tt;
  leaves = leaves-both old middle new (adds-leaves name one old middle first) last.leaves;
  cause = cause-both (failures old) (failures middle) (failures new) (Err e) (failures-later old middle (map (Appended name) first.pieces) first.grown) last.cause;
}

-- these were added, and behind them a call failed
pub failed-behind : {T E : Type 0} (name one all : List ℕ) (old middle new : List Event) (result : Result T E) → IsErr result → Adds name one old middle → LeavesPlaces middle new → failures middle ≤ failures new → Rose (failures middle) (failures new) → AddsAll name all old new result
failed-behind name one all old middle new result err first leaves later rose =
    let before = failures-later old middle (map (Appended name) first.pieces) first.grown in
    failed name all old new result err (leaves-both old middle new (adds-leaves name one old middle first) leaves) (omega (arith, before, later)) (omega (arith, before, rose))
