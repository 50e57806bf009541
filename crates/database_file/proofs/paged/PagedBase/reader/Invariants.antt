use Rattle.database_file.proofs.paged.PagedBase.reader.Given as goal

abbrev pub ghost-of : goal.ghost-of
ghost-of g a = g.F.Files.log a.files.now
