-- What files in memory hold after an event, and what a write leaves that can't end.
use Rattle.std.proofs.Common.{◌≡◌, ◌∙◌, ℕ, List, Option, [], ◌∷◌, ◌++◌, Result, Ok, Err, OnErr, IsTrue, refl, sym, ap, subst}
use Rattle.outside_log.specs.Log.{Event, Started, Appended, Finished, Failed, Disk, LeavesPlaces, after, disk_of, event_of, standing}
use Rattle.outside_log.specs.Readings.{is_answer, read_event, sized_event}
use Rattle.outside_log.proofs.Logs.{leaves-both, leaves-one, one-more}
use Rattle.outside_log.proofs.Readings.{faithful-more}
use Rattle.memory_files.specs.Disks.{disk_in}
use Rattle.memory_files.specs.MemFiles.{LeavesSome}
use Rattle.memory_files.specs.Telling.{IsTelling}
use Rattle.memory_files.specs.declared.mem_files.MemFiles.TheInside.{Inside}

-- files that did what an event says tell it
pub tells-more : (old new : Inside) (event : Event) → IsTelling old → new.log.events ≡ old.log.events ++ event ∷ []
    → disk_in new.disk ≡ after (disk_in old.disk) event → IsTrue (is_answer (standing old.log.events) event) → new.most ≡ old.most → IsTelling new
tells-more old new event tells grown is answer same = record {
  disk = is ∙ ap (λ (disk : Disk). after disk event) tells.disk ∙ sym (one-more old.log.events event) ∙ sym (ap disk_of grown);
  faithful = faithful-more old.log.events new.log.events event grown tells.faithful answer;
  limit = subst LeavesSome (sym same) tells.limit;
}

-- a call that writes asks for nothing
pub asks-nothing : {T E : Type 0} (held : List ℕ → Option (List ℕ)) (event : Event) (name : List ℕ) (result : Result T E) → IsTrue (is_answer held event) → IsTrue (is_answer held (event_of event name result))
asks-nothing held event name (Ok x) is = is
asks-nothing held event name (Err e) is = refl

-- a call that reads leaves the disk
pub same-sized : {E : Type 0} (disk : Disk) (name : List ℕ) (result : Result (Option ℕ) E) → disk ≡ after disk (sized_event name result)
same-sized disk name (Ok size) = refl
same-sized disk name (Err e) = refl

pub same-read : {E : Type 0} (disk : Disk) (name : List ℕ) (at room : ℕ) (buf : List ℕ) (result : Result ℕ E) → disk ≡ after disk (read_event name at room buf result)
same-read disk name at room buf (Ok count) = refl
same-read disk name at room buf (Err e) = refl

-- a start and an append
both-begun : (name bytes : List ℕ) (old begun added : List Event) → begun ≡ old ++ Started name ∷ [] → added ≡ begun ++ Appended name bytes ∷ [] → LeavesPlaces old added
both-begun name bytes old begun added first second = leaves-both old begun added (leaves-one old begun (Started name) tt first) (leaves-one begun added (Appended name bytes) tt second)

-- an append behind a start, where it failed
pub cannot-append : (name : List ℕ) (old begun new : List Event) → begun ≡ old ++ Started name ∷ [] → new ≡ begun ++ Failed name ∷ [] → LeavesPlaces old new
cannot-append name old begun new first fails = leaves-both old begun new (leaves-one old begun (Started name) tt first) (leaves-one begun new (Failed name) tt fails)

-- a finish behind both, where it failed
pub cannot-finish : {T E : Type 0} → (name bytes : List ℕ) (old start added new : List Event) (result : Result T E) → start ≡ old ++ Started name ∷ []
    → added ≡ start ++ Appended name bytes ∷ [] → new ≡ added ++ event_of (Finished name) name result ∷ [] → OnErr result (LeavesPlaces old new)
cannot-finish name bytes old start added new (Ok x) first second last = tt
cannot-finish name bytes old start added new (Err e) first second last = leaves-both old added new (both-begun name bytes old start added first second) (leaves-one added new (Failed name) tt last)
