-- Why no file is begun for a name.
use Rattle.std.specs.Prelude.{◌≡◌, ℕ, List, Bool, IsTrue, IsFalse, Option, ⊤}
use Rattle.outside_log.specs.Reading.{begins_otherwise}
use Rattle.equity_report.specs.declared.refusal.Refusal.{Refusal}
use Rattle.equity_report.specs.declared.refusal.Refusal.TheVariants.{Read, Memory, Other}
use Rattle.run_endings.specs.declared.ending.RunStop.{RunStop}
use Rattle.run_endings.specs.declared.ending.RunStop.TheVariants.{Refused, NotWritten}
use Rattle.run_endings.specs.Endings.{IsOfBeginning}

-- A file that is to begin so isn't written under a name: what stands there has a byte and begins otherwise. A fault of the files or of memory says
-- nothing of what stands there.
abbrev pub RefusesBeginning : List ℕ → List ℕ → Refusal → Option (List ℕ) → Type 0
RefusesBeginning start name (Other other) held =
    (other.bytes ≡ name) × IsTrue (begins_otherwise start held)
RefusesBeginning start name Read held = ⊤
RefusesBeginning start name Memory held = ⊤
RefusesBeginning start name _ held = ⊥

-- it may be refused so, of what stands there where each call was answered that
abbrev pub MayRefuseBeginning : List ℕ → List ℕ → Bool → Option (List ℕ) → Refusal → Type 0
MayRefuseBeginning start name told held refusal =
    IsTrue told → RefusesBeginning start name refusal held

-- why no file is begun for a name: it can't be written, or it is refused so
abbrev pub StopsBeginning : List ℕ → List ℕ → Bool → Option (List ℕ) → RunStop → Type 0
StopsBeginning start name told held NotWritten = ⊤
StopsBeginning start name told held (Refused refusal) =
    IsOfBeginning refusal × MayRefuseBeginning start name told held refusal

-- it may take the place of what stands there, where each call was answered that: nothing, no byte, or a
-- file that begins so too
abbrev pub MayTakePlace : List ℕ → Bool → Option (List ℕ) → Type 0
MayTakePlace start told held = IsTrue told → IsFalse (begins_otherwise start held)
