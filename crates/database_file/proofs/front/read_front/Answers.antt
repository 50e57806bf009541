use Rattle.std.proofs.Common.{Option, None, Err, ◌∙◌, Some, Ok, refl, sym}
use Rattle.std.proofs.lemmas.Result.{err_from_is_err_and}
use Rattle.database_file.proofs.FrontBytes.{answers-tell, bad_front, read-first, room-is}
use Rattle.outside_log.specs.Log.{standing}
use Rattle.outside_log.proofs.Readings.{reads-before, reads-both, reads-file}
use Rattle.word_pages.specs.declared.version.Version.{Version}
use Rattle.database_file.specs.declared.stop.LoadStop.TheVariants.{ReadFault}
use Rattle.database_file.specs.Faults.{AnswersFront, Read}
use Rattle.database_file.proofs.front.read_front.Goals as goal

-- a fault of the files says nothing of any file
any-file : (oldest : Version) (file : Option Read) → AnswersFront oldest file (Err ReadFault)
any-file oldest None = tt
any-file oldest (Some read) = tt

pub returns-clause-read : goal.returns-clause-read
returns-clause-read g c = (Some (record { size = c.in-Some.size; bytes = _ }), c.in_ok-front.ensures.front)

pub returns-clause-told : goal.returns-clause-told
returns-clause-told g c tells =
    let told = reads-before c.fill.ensures.reads tells in
    let held = standing (g.F.Files.log c.args.files.now) c.args.name.now in
    let size = sym c.in-Some.is ∙ c.in_ok-size.ensures.size told in
    answers-tell c.args.oldest c.in-Some.size _ held (Ok c.in_ok-front.front) size
    (read-first c.in-Some.size c.in_ok-count.count held (standing (g.F.Files.log c.size_of.new.files) c.args.name.now) _ c.fill.new.buf _ (room-is c.min-room.result c.in-Some.size _ refl c.min-room.ensures) (reads-file c.size_of.ensures.reads c.args.name.now) size (c.in_ok-count.ensures.fills tells) c.in_ok-count.ensures.len)
    c.in_ok-front.ensures.front

pub returns-in_err-front-clause-read : goal.returns-in_err-front-clause-read
returns-in_err-front-clause-read g c = (Some (record { size = c.in-Some.size; bytes = _ }), bad_front c.args.oldest c.in-Some.size _ c.in_err-front.field-0.0 c.from_residual-in_err-front.result c.from_residual-in_err-front.ensures.1 (sym c.in_err-front.ensures.fault))

pub returns-in_err-front-clause-told : goal.returns-in_err-front-clause-told
returns-in_err-front-clause-told g c tells =
    let told = reads-before c.fill.ensures.reads tells in
    let held = standing (g.F.Files.log c.args.files.now) c.args.name.now in
    let size = sym c.in-Some.is ∙ c.in_ok-size.ensures.size told in
    answers-tell c.args.oldest c.in-Some.size _ held c.from_residual-in_err-front.result size
    (read-first c.in-Some.size c.in_ok-count.count held (standing (g.F.Files.log c.size_of.new.files) c.args.name.now) _ c.fill.new.buf _ (room-is c.min-room.result c.in-Some.size _ refl c.min-room.ensures) (reads-file c.size_of.ensures.reads c.args.name.now) size (c.in_ok-count.ensures.fills tells) c.in_ok-count.ensures.len)
    (bad_front c.args.oldest c.in-Some.size _ c.in_err-front.field-0.0 c.from_residual-in_err-front.result c.from_residual-in_err-front.ensures.1 (sym c.in_err-front.ensures.fault))

pub returns-in_err-count-clause-reads : goal.returns-in_err-count-clause-reads
returns-in_err-count-clause-reads g c = reads-both _ _ _ c.size_of.ensures.reads c.fill.ensures.reads

pub returns-in_err-front-clause-reads : goal.returns-in_err-front-clause-reads
returns-in_err-front-clause-reads g c = reads-both _ _ _ c.size_of.ensures.reads c.fill.ensures.reads

pub returns-clause-reads : goal.returns-clause-reads
returns-clause-reads g c = reads-both _ _ _ c.size_of.ensures.reads c.fill.ensures.reads

pub returns-in_err-size-clause-told : goal.returns-in_err-size-clause-told
returns-in_err-size-clause-told g c _ = let p = err_from_is_err_and c.from_residual.result c.from_residual.ensures.1 in rw (p.1, p.2) (any-file c.args.oldest _)

pub returns-in_err-size-clause-read : goal.returns-in_err-size-clause-read
returns-in_err-size-clause-read g c = let p = err_from_is_err_and c.from_residual.result c.from_residual.ensures.1 in (None, rw (p.1, p.2) tt)

pub returns-in_err-size-clause-valid : goal.returns-in_err-size-clause-valid
returns-in_err-size-clause-valid g c = let p = err_from_is_err_and c.from_residual.result c.from_residual.ensures.1 in rw p.1 tt

pub returns-in_err-count-clause-told : goal.returns-in_err-count-clause-told
returns-in_err-count-clause-told g c _ = let p = err_from_is_err_and c.from_residual-in_err-count.result c.from_residual-in_err-count.ensures.1 in rw (p.1, p.2) (any-file c.args.oldest _)

pub returns-in_err-count-clause-read : goal.returns-in_err-count-clause-read
returns-in_err-count-clause-read g c = let p = err_from_is_err_and c.from_residual-in_err-count.result c.from_residual-in_err-count.ensures.1 in (None, rw (p.1, p.2) tt)

pub returns-in_err-count-clause-valid : goal.returns-in_err-count-clause-valid
returns-in_err-count-clause-valid g c = let p = err_from_is_err_and c.from_residual-in_err-count.result c.from_residual-in_err-count.ensures.1 in rw p.1 tt

pub returns-in_err-front-clause-valid : goal.returns-in_err-front-clause-valid
returns-in_err-front-clause-valid g c = let p = err_from_is_err_and c.from_residual-in_err-front.result c.from_residual-in_err-front.ensures.1 in rw p.1 tt

pub returns-clause-valid : goal.returns-clause-valid
returns-clause-valid g c = c.in_ok-front.ensures.valid
