use Rattle.std.proofs.Common.{◌≡◌, Some, sym, rules, tests}
use Rattle.std.proofs.lemmas.Bool.Decides.{nat_tests}
use Rattle.base_head.specs.Faults.{first_wrong}
use Rattle.base_head.specs.HeaderFaults.{match_checks, score_in}
use Rattle.base_head.proofs.Checked.{checked-err}
use Rattle.base_head.proofs.fields.Fields.name.Goals as goal

pub returns-in_err-score-clause-read : goal.returns-in_err-score-clause-read
returns-in_err-score-clause-read c =
    let wrong : first_wrong (match_checks c.args.self.now) ≡ Some c.in_err-score.field-0.0 = checked-err _ (score_in c.args.self.now) c.in_err-score.field-0.0 (sym c.in_err-score.ensures.read) in
    search (rules, tests, nat_tests, wrong)
