use Rattle.database_file.proofs.RightFiles.{right-file}
use Rattle.database_file.proofs.laws.right_files_hold_right_words.Goals as goal

pub returns : goal.returns
returns c = right-file
