-- What calls have done and were answered: one event for each call, the oldest first.
use Rattle.std.specs.Prelude.{◌≡◌, ℕ, ◌+◌, List, [], ◌∷◌, ◌++◌, map, Option, Some, None, Result, Ok, Err, OnOk, ⊤, if◌then◌else◌}
use Rattle.std.specs.List.{concat}
use Rattle.std.specs.Option.{option_map}
use Rattle.std.specs.Str.{bytes_eq}
use Rattle.hyper_outside.specs.Causes.{HasCause}
use Rattle.outside_log.specs.Files.{Contents}

pub data Event : Type 0 where
  -- the log began, and these files stood there, each by its name
  Found : (files : List (List ℕ × List ℕ)) → Event
  -- the name was said to have so many bytes, or not to be there
  Sized : (name : List ℕ) (size : Option ℕ) → Event
  -- these bytes were read of it, from this place on, where there was room for so many
  Read : (name : List ℕ) (at room : ℕ) (bytes : List ℕ) → Event
  -- a call that reads failed
  ReadFailed : (name : List ℕ) → Event
  -- a file was begun that is to take the name's place
  Started : (name : List ℕ) → Event
  -- these bytes were added to it
  Appended : (name bytes : List ℕ) → Event
  -- it took the name's place
  Finished : (name : List ℕ) → Event
  -- it was given up
  GivenUp : (name : List ℕ) → Event
  -- the call failed, and it is gone
  Failed : (name : List ℕ) → Event
  -- these bytes were put to the output
  Put : (bytes : List ℕ) → Event

-- the event of a call on this name, which may have failed
abbrev pub event_of : {T E : Type 0} → Event → List ℕ → Result T E → Event
event_of event name (Ok x) = event
event_of event name (Err e) = Failed name

-- ---- what stands under the names

-- a file that was begun, by the name whose place it is to take, and its bytes so far
pub record Begun : Type 0 where
  pub name : List ℕ
  pub bytes : List ℕ

-- the bytes under each name, and the file that was begun last and didn't end
pub record Disk : Type 0 where
  pub held : Contents
  pub begun : Option Begun

-- no name is there
abbrev pub empty_disk : Disk
empty_disk = record { held = λ name. None; begun = None }

-- these bytes stand under this name, and all else as before
abbrev pub with_bytes : Contents → List ℕ → List ℕ → Contents
with_bytes held name bytes other = if bytes_eq name other then Some bytes else held other

-- what stands under each name where these files stand, the first of a name
abbrev pub contents_of : List (List ℕ × List ℕ) → Contents
contents_of [] = λ name. None
contents_of (file ∷ files) = with_bytes (contents_of files) file.0 file.1

-- once what was begun has taken its name's place
abbrev pub in_place : Contents → Option Begun → Contents
in_place held None = held
in_place held (Some begun) = with_bytes held begun.name begun.bytes

-- after a call
abbrev pub after : Disk → Event → Disk
after disk (Found files) = record { held = contents_of files; begun = None }
after disk (Sized name size) = disk
after disk (Read name at room bytes) = disk
after disk (ReadFailed name) = disk
after disk (Started name) = record {
  held = disk.held;
  begun = Some (record { name = name; bytes = [] });
}
after disk (Appended name bytes) = record {
  held = disk.held;
  begun = option_map (λ (begun : Begun). record { name = begun.name; bytes = begun.bytes ++ bytes })
      disk.begun;
}
after disk (Finished name) = record { held = in_place disk.held disk.begun; begun = None }
after disk (GivenUp name) = record { held = disk.held; begun = None }
after disk (Failed name) = record { held = disk.held; begun = None }
after disk (Put bytes) = disk

-- after all of these
abbrev pub after_all : Disk → List Event → Disk
after_all disk [] = disk
after_all disk (event ∷ events) = after_all (after disk event) events

-- what a log tells
abbrev pub disk_of : List Event → Disk
disk_of log = after_all empty_disk log

abbrev pub standing : List Event → Contents
standing log = (disk_of log).held

-- ---- what was put to the output

-- the bytes, the first ones first
abbrev pub put_bytes : List Event → List ℕ
put_bytes [] = []
put_bytes (Put bytes ∷ events) = bytes ++ put_bytes events
put_bytes (event ∷ events) = put_bytes events

-- ---- what writing a file adds

-- these bytes were added to what was begun, in one piece or more
pub record Adds (name bytes : List ℕ) (old new : List Event) : Type 0 where
  pub pieces : List (List ℕ)
  pub joined : concat pieces ≡ bytes
  pub grown : new ≡ old ++ map (Appended name) pieces

-- how many calls that write have failed
abbrev pub failures : List Event → ℕ
failures [] = 0
failures (Failed name ∷ events) = 1 + failures events
failures (event ∷ events) = failures events

-- no file takes a name's place by this call, or by any of these
abbrev pub LeavesPlace : Event → Type 0
LeavesPlace (Finished name) = ⊥
LeavesPlace (Found files) = ⊥
LeavesPlace event = ⊤

abbrev pub AllLeavePlaces : List Event → Type 0
AllLeavePlaces [] = ⊤
AllLeavePlaces (event ∷ events) = LeavesPlace event × AllLeavePlaces events

-- calls were made by which no file took a name's place
pub record LeavesPlaces (old new : List Event) : Type 0 where
  pub added : List Event
  pub grown : new ≡ old ++ added
  pub none : AllLeavePlaces added

-- these bytes were added to what was begun, or a call failed
pub record AddsAll {T E : Type 0} (name bytes : List ℕ) (old new : List Event)
    (result : Result T E) : Type 0 where
  pub adds : OnOk result (Adds name bytes old new)
  pub leaves : LeavesPlaces old new
  pub cause : HasCause (failures old) (failures new) result

-- these bytes were added to what was begun for a name, and it took the name's place
pub record CompletesFile (name bytes : List ℕ) (old new : List Event) : Type 0 where
  pub middle : List Event
  pub adds : Adds name bytes old middle
  pub ends : new ≡ middle ++ Finished name ∷ []
