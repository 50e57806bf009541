use Rattle.std.proofs.Common.{◌≡◌, ℕ, List, Option, Err, ap}
use Rattle.database_file.specs.PagedFiles.{PagedFile}
use Rattle.directed_fixed.specs.declared.bounds.End.TheVariants.{Upper}
use Rattle.base_commands.proofs.LookedUp.{min-max, pair-told}
use Rattle.base_head.specs.declared.header.Header.{Header}
use Rattle.database_file.specs.Paged.{AnswersLook, word_at}
use Rattle.turn_rule.specs.States.{pair_of}
use Rattle.base_commands.proofs.Fitting.{moved}
use Rattle.base_commands.proofs.ShowLaws.{stopped}
use Rattle.outside_log.specs.Log.{standing}
use Rattle.outside_log.proofs.Readings.{reads-before, reads-both, reads-file}
use Rattle.base_commands.proofs.show.pair_of.Goals as goal

pub new-requires : goal.new-requires
new-requires g c = rw (c.min.ensures, c.max.ensures) (min-max c.in_ok-lower.lower c.in_ok-upper.upper)

pub returns-clause-told : goal.returns-clause-told
returns-clause-told g c told =
    let base = c.args.base.now in
    let file = standing (g.F.Files.log c.args.files.now) base.name in
    let first = c.in_ok-lower.ensures.told (reads-before c.look-2.ensures.reads told) in
    let header = ap (λ (b : PagedFile). b.header) c.in_ok-lower.ensures.kept in
    let name = ap (λ (b : PagedFile). b.name) c.in_ok-lower.ensures.kept in
    let second = rw (header, name, reads-file c.in_ok-lower.ensures.reads base.name) at c.in_ok-upper.ensures.told told in
    (first.0, pair-told base.header file c.in_ok-lower.ensures.valid c.args.position.now c.args.kind c.requires.state first.0 c.in_ok-lower.lower c.in_ok-upper.upper first.1 second.1 c.new.result (rw (c.min.ensures, c.max.ensures) at c.new.ensures))

pub returns-in_err-upper-clause-reads : goal.returns-in_err-upper-clause-reads
returns-in_err-upper-clause-reads g c = reads-both _ _ _ c.look.ensures.reads c.look-2.ensures.reads

pub returns-clause-reads : goal.returns-clause-reads
returns-clause-reads g c = reads-both _ _ _ c.look.ensures.reads c.look-2.ensures.reads

pub returns-in_err-upper-clause-told : goal.returns-in_err-upper-clause-told
returns-in_err-upper-clause-told g c told =
    let base = c.args.base.now in
    let file = standing (g.F.Files.log c.args.files.now) base.name in
    let p = c.args.position.now in
    let k = c.args.kind in
    let stop = c.in_err-upper.field-0.0 in
    let header = ap (λ (b : PagedFile). b.header) c.in_ok-lower.ensures.kept in
    let name = ap (λ (b : PagedFile). b.name) c.in_ok-lower.ensures.kept in
    let answers = moved (λ (h : Header) (f : Option (List ℕ)). AnswersLook h f Upper p k (Err stop)) _ base.header _ base.name (standing (g.F.Files.log c.args.files.now)) (standing (g.F.Files.log c.look.new.files)) header name
    (reads-file c.in_ok-lower.ensures.reads base.name) (c.in_err-upper.ensures.told told) in
    stopped base.header file p (λ pair. pair ≡ pair_of (word_at base.header file) p k) stop c.from_residual-in_err-upper.result answers c.from_residual-in_err-upper.ensures.1
