-- The file whose states are searched, and why a search is refused.
use Rattle.std.proofs.Common.{◌≡◌, ◌-◌, ℕ, Bool, List, Option, Ok, subst}
use Rattle.std.specs.List.{All}
use Rattle.position_text.specs.Text.{words}
use Rattle.base_scan.specs.declared.condition.Test.{Test}
use Rattle.base_scan.specs.declared.found.State.{State}
use Rattle.base_scan.specs.Found.{AreFound, IsFoundState, meeting}
use Rattle.interval_words.specs.WordLists.{WordList}
use Rattle.database_file.specs.Bases.{AnswersBase}
use Rattle.database_file.specs.FileBases.{FileBase}
use Rattle.command_line.specs.declared.command.Scan.{Scan}
use Rattle.whole_file_reports.specs.Scans.{scan_text}
use Rattle.run_endings.specs.Loads.{OfFile}
use Rattle.whole_file_commands.specs.Scans.{HasScanned, IsTextOf}

-- the report was put of the states that were found
pub has-scanned : (task : Scan) (told : Bool) (held : Option (List ℕ)) (groups : List (List Test)) → IsTextOf task.condition groups → (base : FileBase) → OfFile told held (λ file. AnswersBase file (Ok base))
    → (words : WordList) → words ≡ base.words → (states : List State) → states ≡ meeting words groups → All (IsFoundState words.game) states
    → (IsReport : List ℕ → Type 0) → IsReport (scan_text base.words states) → HasScanned task told held IsReport
has-scanned task told held groups text base read words is states all right IsReport report = record {
  groups = groups;
  condition = text;
  base = base;
  read = read;
  states = states;
  found = subst (λ (w : WordList). AreFound w groups states) is (record { all = all; right = right });
  report = report;
}
