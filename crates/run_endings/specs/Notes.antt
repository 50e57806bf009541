-- What is said of a run beside its report or the line of its refusal.
use Rattle.std.specs.Prelude.{◌≡◌, ◌≢◌, ◌≤◌, ℕ, Bool, true, false, List, [], ◌∷◌, ◌++◌, Ok, Err, All}
use Rattle.outside_log.specs.Sink.{Output}
use Rattle.run_endings.specs.Endings.{Ending, WasPut}

-- no control byte
abbrev pub IsShown : ℕ → Type 0
IsShown byte = (32 ≤ byte) × (byte ≢ 127)

-- a sentence in which no control byte stands, and a line feed
abbrev pub IsNote : List ℕ → Type 0
IsNote text = (sentence : List ℕ) × All IsShown sentence × (text ≡ sentence ++ 10 ∷ [])

-- a note was put, or a front of it where putting failed
abbrev pub WasNoted : Output → Output → Type 0
WasNoted old new = (text : List ℕ) × IsNote text × WasPut old new text

-- so where a run ended before all was done; else nothing was put
abbrev pub PutsNote : Ending → Output → Output → Type 0
PutsNote (Ok done) old new = new ≡ old
PutsNote (Err stop) old new = WasNoted old new

-- the other way round: where a list was gone through, a note on it was put
abbrev pub PutsTally : Ending → Output → Output → Type 0
PutsTally (Ok done) old new = WasNoted old new
PutsTally (Err stop) old new = new ≡ old

-- both, of a run that goes through a list or not
abbrev pub PutsNotes : Bool → Ending → Output → Output → Type 0
PutsNotes false ending old new = PutsNote ending old new
PutsNotes true ending old new = WasNoted old new
