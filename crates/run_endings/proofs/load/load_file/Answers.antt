use Rattle.std.proofs.Common.{Ok, Err, Option}
use Rattle.outside_log.specs.Log.{standing}
use Rattle.outside_log.specs.Readings.{is_faithful}
use Rattle.database_file.specs.Bases.{AnswersFrom}
use Rattle.database_file.specs.Faults.{Read}
use Rattle.run_endings.specs.Loads.{RefusesFrom}
use Rattle.run_endings.proofs.Loaded.{not-loaded, of-file}
use Rattle.run_endings.proofs.load.load_file.Goals as goal

pub returns-in-Ok-clause-told : goal.returns-in-Ok-clause-told
returns-in-Ok-clause-told g c =
    of-file (is_faithful (g.F.Files.log c.load_base.new.files)) (standing (g.F.Files.log c.args.files.now) c.args.name.now) (λ file. AnswersFrom c.args.oldest file (Ok c.in-Ok.base)) c.in-Ok.ensures.told c.in-Ok.ensures.read

pub returns-in-Err-clause-told : goal.returns-in-Err-clause-told
returns-in-Err-clause-told g c =
    let refuses = λ (file : Option Read) (answers : AnswersFrom c.args.oldest file (Err c.in-Err.stop)). not-loaded c.args.oldest c.args.name.now file c.in-Err.stop c.stop_refusal.result answers c.stop_refusal.ensures.tells in
    of-file (is_faithful (g.F.Files.log c.load_base.new.files)) (standing (g.F.Files.log c.args.files.now) c.args.name.now) (RefusesFrom c.args.oldest c.args.name.now c.stop_refusal.result) (λ told. refuses _ (c.in-Err.ensures.told told))
    (c.in-Err.ensures.read.0, refuses _ c.in-Err.ensures.read.1)
