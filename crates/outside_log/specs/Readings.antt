-- What calls that read were answered, and whether that is what stood there.
use Rattle.std.specs.Prelude.{◌≡◌, ℕ, ◌+◌, nat_lt, ◌==◌, Bool, true, false, ◌&&◌, ◌||◌, List, [], ◌∷◌, ◌++◌, length, take, drop, IsTrue, Option, Some, None, Result, Ok, Err}
use Rattle.std.specs.Str.{bytes_eq}
use base.Stored.{Coded}
use denote.Struct.Codes.{codes}
use denote.Struct.Props.{props}
use Rattle.outside_log.specs.Files.{Contents, bytes_from}
use Rattle.outside_log.specs.Log.{Event, Sized, Read, ReadFailed, Started, CompletesFile, Disk, after, empty_disk}

-- the event of asking for the size of a name
abbrev pub sized_event : {E : Type 0} → List ℕ → Result (Option ℕ) E → Event
sized_event name (Ok size) = Sized name size
sized_event name (Err e) = ReadFailed name

-- the event of a read of a name from this place on, with room for so many bytes, into this buffer
abbrev pub read_event : {E : Type 0} → List ℕ → ℕ → ℕ → List ℕ → Result ℕ E → Event
read_event name at room buf (Ok count) = Read name at room (take count buf)
read_event name at room buf (Err e) = ReadFailed name

-- ---- whether an answer is what stands there

-- so many bytes, or none of the name
abbrev pub is_size : Option (List ℕ) → Option ℕ → Bool
is_size None None = true
is_size None (Some size) = false
is_size (Some bytes) None = false
is_size (Some bytes) (Some size) = size == length bytes

-- these bytes from this place on: some, but where there was no room or are none
abbrev pub is_read : Option (List ℕ) → ℕ → ℕ → List ℕ → Bool
is_read file at room bytes =
    bytes_eq bytes (take (length bytes) (bytes_from at file))
    && (nat_lt 0 (length bytes) || (room == 0 || length (bytes_from at file) == 0))

-- a call was answered what stands there; one that writes asks for nothing
abbrev pub is_answer : Contents → Event → Bool
is_answer held (Sized name size) = is_size (held name) size
is_answer held (Read name at room bytes) = is_read (held name) at room bytes
is_answer held event = true

-- so was each of these, from this disk on
abbrev pub are_answers : Disk → List Event → Bool
are_answers disk [] = true
are_answers disk (event ∷ events) =
    is_answer disk.held event && are_answers (after disk event) events

-- each call until now was answered what stood there then
abbrev pub is_faithful : List Event → Bool
is_faithful log = are_answers empty_disk log

-- ---- calls that read

-- how many calls that read have failed
abbrev pub read_faults : List Event → ℕ
read_faults [] = 0
read_faults (ReadFailed name ∷ events) = 1 + read_faults events
read_faults (event ∷ events) = read_faults events

-- a call that reads
abbrev pub is_reading : Event → Bool
is_reading (Sized name size) = true
is_reading (Read name at room bytes) = true
is_reading (ReadFailed name) = true
is_reading event = false

abbrev pub are_readings : List Event → Bool
are_readings [] = true
are_readings (event ∷ events) = is_reading event && are_readings events

-- calls that read were made, and no others
pub record ReadsOn (old new : List Event) : Type 0 where
  pub begins : take (length old) new ≡ old
  pub readings : IsTrue (are_readings (drop (length old) new))

-- it is so in one way alone
pub ReadsOn-prop : (old new : List Event) → IsProp (ReadsOn old new)
ReadsOn-prop old new =
    let code : Coded (List Event) = Prim.hlevel codes in
    Prim.hlevel props

-- A file was begun; after calls that read, these bytes were added, and it took the name's place.
pub record WritesFile (name bytes : List ℕ) (old new : List Event) : Type 0 where
  pub begun : List Event
  pub begins : ReadsOn (old ++ Started name ∷ []) begun
  pub completes : CompletesFile name bytes begun new
