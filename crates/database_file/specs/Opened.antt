-- What opening a file of bounds page by page may answer.
use Rattle.std.specs.Prelude.{◌≡◌, Option, None, Some, Result, Ok, Err, ⊤}
use Rattle.word_pages.specs.declared.version.Version.{Version}
use Rattle.word_pages.specs.declared.version.Version.TheVariants.{Three}
use Rattle.database_file.specs.declared.stop.LoadStop.{LoadStop}
use Rattle.database_file.specs.declared.stop.LoadStop.TheVariants.{Missing, BadFile as Bad, ReadFault}
use Rattle.database_file.specs.PagedFiles.{PagedFile}
use Rattle.database_file.specs.Faults.{IsFrontFrom, Read, front_fault_from}

-- What may be answered of a file, or where there is none, where the versions from `oldest` on are read.
-- What is wrong with pages isn't told yet, and a fault of the files or of memory says nothing of the file.
abbrev pub AnswersPagedFrom : Version → Option Read → Result PagedFile LoadStop → Type 0
AnswersPagedFrom oldest None (Err Missing) = ⊤
AnswersPagedFrom oldest None (Err ReadFault) = ⊤
AnswersPagedFrom oldest None _ = ⊥
AnswersPagedFrom oldest (Some file) (Ok base) = IsFrontFrom oldest file (record {
  header = base.header;
  head = base.head;
  digest = base.digest;
})
AnswersPagedFrom oldest (Some file) (Err (Bad bad)) = front_fault_from oldest file ≡ Some bad
AnswersPagedFrom oldest (Some file) (Err Missing) = ⊥
AnswersPagedFrom oldest (Some file) (Err _) = ⊤

-- the same of all commands but `migrate`
abbrev pub AnswersPaged : Option Read → Result PagedFile LoadStop → Type 0
AnswersPaged file result = AnswersPagedFrom Three file result
