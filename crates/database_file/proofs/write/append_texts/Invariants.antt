use Rattle.std.proofs.Common.{◌*◌, ℕ, List, drop}
use Rattle.outside_log.specs.Log.{Adds}
use Rattle.word_pages.specs.declared.version.Version.{Version}
use Rattle.word_pages.specs.Pages.{first_pages}
use Rattle.database_file.specs.Writing.{ArePageTexts}
use Rattle.database_file.proofs.write.append_texts.Given as goal

abbrev pub invariant-texts : goal.invariant-texts
invariant-texts g l = (version : Version) (digest : List ℕ) (size : ℕ) (words : List ℕ) (first : ℕ) → ArePageTexts version digest size words first l.texts
    → Adds l.name (first_pages version digest size first l.number (drop (first * size) words)) (g.F.Files.log l.fn.files) (g.F.Files.log l.files)
