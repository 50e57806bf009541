-- What a writer was given.
use Rattle.std.specs.Prelude.{◌≡◌, ℕ, List, ◌++◌, Option, Some, Result, Ok, Err}
use Rattle.std.specs.Io.KnownBytes.{Appends}
use Rattle.outside_log.specs.Log.{put_bytes}
use Rattle.outside_log.specs.Sink.{Output}
use Rattle.system_files.specs.declared.real_sink.RealSink.{RealSink}

-- a sink tells the bytes that its log has
abbrev pub output_of : {W : Type 0} → RealSink W → Output
output_of sink = record { told = Some (put_bytes sink.log.events); faults = sink.faults }

-- where a writer's bytes are known: it has taken all of these, or, after a failure, a front of them
abbrev pub Takes : {T E : Type 0} → Option (List ℕ) → Option (List ℕ) → List ℕ → Result T E
    → Type 0
Takes old new bytes (Ok x) = Appends old new bytes
Takes old new bytes (Err e) =
    (front : List ℕ) × (rest : List ℕ) × (bytes ≡ front ++ rest) × Appends old new front
