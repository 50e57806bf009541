use Rattle.std.proofs.Common.{Option, subst, ◌≡◌, ◌∙◌, Some, None, sym, ap, arith, rules}
use Rattle.cube_actions.specs.declared.name.StakesName.{StakesName}
use Rattle.base_head.specs.declared.fault.BadFile.{BadFile}
use Rattle.base_head.specs.Headers.{IsLengthOf}
use Rattle.base_head.specs.Faults.{checked, first_wrong}
use Rattle.base_head.specs.HeaderFaults.{field_checks, header_in, name_in}
use Rattle.base_head.proofs.Checked.{checked-err, checked-ok}
use Rattle.base_head.proofs.FieldChecks.{wrong-name, after-name}
use Rattle.base_head.proofs.Counts.{names-few, starts-few}
use Rattle.base_head.proofs.RightFields.{counts-right, none-header}
use Rattle.base_head.proofs.fields.Fields.header.Goals as goal

pub returns-in_err-name-clause-read : goal.returns-in_err-name-clause-read
returns-in_err-name-clause-read c =
    let version = checked-ok _ _ _ (sym c.in_ok-version.ensures) in
    let checkers = checked-ok _ _ _ (sym c.in_ok-checkers.ensures.read) in
    let name = checked-err _ (name_in c.args.self.now) _ (sym c.in_err-name.ensures.read) in
    let wrong : first_wrong (field_checks c.args.oldest c.args.self.now) ≡ Some c.in_err-name.field-0.0 = wrong-name c.args.oldest c.args.self.now c.in_err-name.field-0.0 version.0 checkers.0 name in
    search (rules, wrong)

pub check_counts-requires-clause-name : goal.check_counts-requires-clause-name
check_counts-requires-clause-name c = (checked-ok _ _ _ (sym c.in_ok-name.ensures.read)).1

pub returns-in_err-check_counts-clause-read : goal.returns-in_err-check_counts-clause-read
returns-in_err-check_counts-clause-read c =
    let version = checked-ok _ _ _ (sym c.in_ok-version.ensures) in
    let checkers = checked-ok _ _ _ (sym c.in_ok-checkers.ensures.read) in
    let name = checked-ok _ _ _ (sym c.in_ok-name.ensures.read) in
    let counts = checked-err _ tt _ (sym c.in_err-check_counts.ensures) in
    let wrong : first_wrong (field_checks c.args.oldest c.args.self.now) ≡ Some c.in_err-check_counts.field-0.0 = after-name c.args.oldest c.args.self.now version.0 checkers.0 name.0 ∙ counts in
    search (rules, wrong)

pub with-requires-clause-kinds : goal.with-requires-clause-kinds
with-requires-clause-kinds c =
    let counts = counts-right c.args.self.now (checked-ok _ _ _ (sym c.in_ok-check_counts.ensures)).0 in
    omega (arith, counts.kinds, names-few (name_in c.args.self.now))

pub with-requires-clause-starts : goal.with-requires-clause-starts
with-requires-clause-starts c =
    let counts = counts-right c.args.self.now (checked-ok _ _ _ (sym c.in_ok-check_counts.ensures)).0 in
    let name = (checked-ok _ _ _ (sym c.in_ok-name.ensures.read)).1 in
    let fitting = subst (λ (name : StakesName). IsLengthOf name c.args.self.now.match_length) name c.in_ok-name.ensures.fitting in
    omega (arith, counts.starts, starts-few (name_in c.args.self.now) c.args.self.now.match_length fitting)

pub returns-clause-read : goal.returns-clause-read
returns-clause-read c =
    let version = checked-ok _ _ _ (sym c.in_ok-version.ensures) in
    let checkers = checked-ok _ _ _ (sym c.in_ok-checkers.ensures.read) in
    let name = checked-ok _ _ _ (sym c.in_ok-name.ensures.read) in
    let counts = checked-ok _ _ _ (sym c.in_ok-check_counts.ensures) in
    let none : first_wrong (field_checks c.args.oldest c.args.self.now) ≡ None = after-name c.args.oldest c.args.self.now version.0 checkers.0 name.0 ∙ counts.0 in
    rw (c.with.ensures, version.1, checkers.1, name.1) (sym (ap (λ (wrong : Option BadFile). checked wrong (header_in c.args.self.now)) none))

pub returns-clause-valid : goal.returns-clause-valid
returns-clause-valid c =
    let version = checked-ok _ _ _ (sym c.in_ok-version.ensures) in
    let checkers = checked-ok _ _ _ (sym c.in_ok-checkers.ensures.read) in
    let name = checked-ok _ _ _ (sym c.in_ok-name.ensures.read) in
    let counts = checked-ok _ _ _ (sym c.in_ok-check_counts.ensures) in
    let none : first_wrong (field_checks c.args.oldest c.args.self.now) ≡ None = after-name c.args.oldest c.args.self.now version.0 checkers.0 name.0 ∙ counts.0 in
    rw (c.with.ensures, version.1, checkers.1, name.1) (none-header c.args.oldest c.args.self.now none)
