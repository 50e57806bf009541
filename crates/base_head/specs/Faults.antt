-- What is wrong first with a file.
use Rattle.std.specs.Prelude.{ℕ, Bool, List, [], ◌∷◌, Option, Some, None, Result, Ok, Err, if◌then◌else◌}
use Rattle.base_head.specs.declared.fault.BadFile.{BadFile}
use Rattle.base_head.specs.declared.fault.FileFault.{FileFault}

-- a thing that can be wrong with a file: which fault is told then, at which place, and whether it is so
pub record Check : Type 0 where
  pub fault : FileFault
  pub at : ℕ
  pub wrong : Bool

abbrev pub check : FileFault → ℕ → Bool → Check
check fault at wrong = record { fault = fault; at = at; wrong = wrong }

-- the first of these that is wrong
abbrev pub first_wrong : List Check → Option BadFile
first_wrong [] = None
first_wrong (one ∷ others) = if one.wrong
    then Some (record { fault = one.fault; at = one.at })
    else first_wrong others

-- the value where nothing is wrong, else what is wrong first
abbrev pub checked : {A : Type 0} → Option BadFile → A → Result A BadFile
checked None value = Ok value
checked (Some bad) value = Err bad
