use Rattle.std.proofs.lemmas.Result.{err_from_is_err_and}
use Rattle.std.proofs.Common.{◌∙◌, ap}
use Rattle.std.specs.Option.{option_map}
use Rattle.database_file.specs.Faults.{whole}
use Rattle.database_file.specs.PagedFiles.{PagedFile}
use Rattle.database_file.proofs.OpenedFiles.{digest-told-is, front-fits, front-stopped, none-of-file, opened}
use Rattle.outside_log.specs.Log.{standing}
use Rattle.outside_log.proofs.Readings.{reads-file}
use Rattle.database_file.proofs.opening.open_paged.Goals as goal

pub returns-in_err-front-clause-read : goal.returns-in_err-front-clause-read
returns-in_err-front-clause-read g c =
    let (file, told) = c.in_err-front.ensures.read in
    (file, front-stopped c.args.oldest file c.in_err-front.field-0.0 c.from_residual.result told c.from_residual.ensures.1)

pub returns-in_err-front-clause-told : goal.returns-in_err-front-clause-told
returns-in_err-front-clause-told g c tells =
    let file = option_map whole (standing (g.F.Files.log c.args.files.now) c.args.name.now) in
    front-stopped c.args.oldest file c.in_err-front.field-0.0 c.from_residual.result (c.in_err-front.ensures.told tells) c.from_residual.ensures.1

pub new-requires-clause-fitting : goal.new-requires-clause-fitting
new-requires-clause-fitting g c =
    let (file, told) = c.in_ok-front.ensures.read in
    front-fits c.args.oldest file c.in_ok-front.front told c.in_ok-front.ensures.valid

pub returns-clause-read : goal.returns-clause-read
returns-clause-read g c =
    let (file, told) = c.in_ok-front.ensures.read in
    let is = c.in_ok-base.ensures in
    (file, opened c.args.oldest file c.in_ok-front.front c.in_ok-base.base told (ap (λ (base : PagedFile). base.header) is) (ap (λ (base : PagedFile). base.head) is) (ap (λ (base : PagedFile). base.digest) is))

pub returns-clause-told : goal.returns-clause-told
returns-clause-told g c tells =
    let file = option_map whole (standing (g.F.Files.log c.args.files.now) c.args.name.now) in
    let is = c.in_ok-base.ensures in
    opened c.args.oldest file c.in_ok-front.front c.in_ok-base.base (c.in_ok-front.ensures.told tells) (ap (λ (base : PagedFile). base.header) is) (ap (λ (base : PagedFile). base.head) is) (ap (λ (base : PagedFile). base.digest) is)

pub returns-clause-of_file : goal.returns-clause-of_file
returns-clause-of_file g c =
    let files = c.read_front.new.files in
    let base = c.in_ok-base.base in
    let is = c.in_ok-base.ensures in
    none-of-file base (g.F.Files.log files) (ap (λ (base : PagedFile). base.kept) is)
    (λ tells.
    digest-told-is c.args.oldest (standing (g.F.Files.log c.args.files.now) c.args.name.now) (standing (g.F.Files.log files) base.name) c.in_ok-front.front base.header base.digest (c.in_ok-front.ensures.told tells) (ap (λ (base : PagedFile). base.header) is) (ap (λ (base : PagedFile). base.digest) is)
    (ap (standing (g.F.Files.log files)) (ap (λ (base : PagedFile). base.name) is) ∙ reads-file c.in_ok-front.ensures.reads c.args.name.now))

pub returns-in_err-front-clause-later : goal.returns-in_err-front-clause-later
returns-in_err-front-clause-later g c = c.read_front.ensures.later

pub returns-in_err-front-clause-reads : goal.returns-in_err-front-clause-reads
returns-in_err-front-clause-reads g c = c.read_front.ensures.reads

pub returns-in_err-front-clause-name : goal.returns-in_err-front-clause-name
returns-in_err-front-clause-name g c = let p = err_from_is_err_and c.from_residual.result c.from_residual.ensures.1 in rw p.1 tt

pub returns-in_err-front-clause-none : goal.returns-in_err-front-clause-none
returns-in_err-front-clause-none g c = let p = err_from_is_err_and c.from_residual.result c.from_residual.ensures.1 in rw p.1 tt

pub returns-in_err-front-clause-of_file : goal.returns-in_err-front-clause-of_file
returns-in_err-front-clause-of_file g c = let p = err_from_is_err_and c.from_residual.result c.from_residual.ensures.1 in rw p.1 tt

pub returns-clause-later : goal.returns-clause-later
returns-clause-later g c = c.read_front.ensures.later

pub returns-clause-reads : goal.returns-clause-reads
returns-clause-reads g c = c.read_front.ensures.reads
