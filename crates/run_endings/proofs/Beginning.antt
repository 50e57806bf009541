-- What is known where a file is begun, or isn't.
use Rattle.std.proofs.Common.{◌≡◌, ◌≤◌, ℕ, List, [], ◌∷◌, ◌++◌, Bool, IsTrue, IsFalse, Option, Result, Ok, Err, OnOk, IfErr, ap, ◌∙◌, subst}
use Rattle.std.specs.Option.{option_map}
use Rattle.outside_log.specs.Log.{Event, LeavesPlaces, Started, failures, standing}
use Rattle.outside_log.specs.Readings.{ReadsOn}
use Rattle.outside_log.specs.Reading.{begins_otherwise}
use Rattle.outside_log.proofs.Logs.{failures-later, leaves-both, leaves-one, stay}
use Rattle.database_file.specs.Faults.{Read as FileRead, whole}
use Rattle.run_endings.specs.declared.ending.RunStop.{RunStop}
use Rattle.run_endings.specs.declared.ending.RunStop.TheVariants.{Refused, NotWritten}
use Rattle.run_endings.specs.Beginnings.{MayTakePlace, RefusesBeginning, StopsBeginning}
use Rattle.run_endings.specs.Loads.{OfFile}

-- what was read of a file is of what stood there before
pub of-file-before : (told now : Bool) (held there : Option (List ℕ)) (P : Option FileRead → Type 0) → (IsTrue told → IsTrue now) → there ≡ held → OfFile now there P → OfFile told held P
of-file-before told now held there P was stays of = (of.0, λ is. of.1 (was is) ∙ ap (λ (bytes : Option (List ℕ)). option_map whole bytes) stays, of.2)

pub leaves-failures : {old new : List Event} → LeavesPlaces old new → failures old ≤ failures new
leaves-failures {old} {new} leaves = failures-later old new leaves.added leaves.grown

module _ (name : List ℕ) (old begun new : List Event) (begins : begun ≡ old ++ Started name ∷ []) where
  pub begun-reads : {T : Type 0} (result : Result T RunStop) → OnOk result (ReadsOn begun new) → OnOk result (ReadsOn (old ++ Started name ∷ []) new)
  begun-reads (Ok x) reads = subst (λ (log : List Event). ReadsOn log new) begins reads
  begun-reads (Err e) reads = tt

  pub begun-leaves : LeavesPlaces begun new → LeavesPlaces old new
  begun-leaves leaves = leaves-both old begun new (leaves-one old begun (Started name) tt begins) leaves

  pub begun-file : (other : List ℕ) → standing begun other ≡ standing old other
  begun-file other = stay old begun (leaves-one old begun (Started name) tt begins) other

module _ {T : Type 0} (start name : List ℕ) (told : Bool) (held there : Option (List ℕ)) (stays : there ≡ held) where
  pub begun-told : (result : Result T RunStop) → IfErr result (StopsBeginning start name told there) → IfErr result (StopsBeginning start name told held)
  begun-told (Ok x) stops = tt
  begun-told (Err NotWritten) stops = tt
  begun-told (Err (Refused refusal)) stops = (stops.0, λ is. subst (RefusesBeginning start name refusal) stays (stops.1 is))

  pub begun-may : (result : Result T RunStop) → OnOk result (MayTakePlace start told there) → OnOk result (MayTakePlace start told held)
  begun-may (Ok x) may = λ is. subst (λ (file : Option (List ℕ)). IsFalse (begins_otherwise start file)) stays (may is)
  begun-may (Err e) may = tt
