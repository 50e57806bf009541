use Rattle.run_laws.proofs.RightFiles.{right-advised, right-migrated, right-planned, right-replied, right-searched, right-shown, right-listed, right-verified}
use Rattle.run_laws.proofs.right_files.right_files_are_not_refused.Goals as goal

pub returns-clause-show : goal.returns-clause-show
returns-clause-show c = right-shown

pub returns-clause-list : goal.returns-clause-list
returns-clause-list c = right-listed

pub returns-clause-advise : goal.returns-clause-advise
returns-clause-advise c = right-advised

pub returns-clause-verify : goal.returns-clause-verify
returns-clause-verify c = right-verified

pub returns-clause-migrate : goal.returns-clause-migrate
returns-clause-migrate c = right-migrated

pub returns-clause-scan : goal.returns-clause-scan
returns-clause-scan c = right-searched

pub returns-clause-reply : goal.returns-clause-reply
returns-clause-reply c = right-replied

pub returns-clause-plan : goal.returns-clause-plan
returns-clause-plan c = right-planned
