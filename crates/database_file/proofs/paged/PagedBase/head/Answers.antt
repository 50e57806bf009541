use Rattle.std.proofs.Common.{ap, subst}
use Rattle.base_head.specs.Headers.{IsHeader}
use Rattle.database_file.specs.PagedFiles.{PagedFile}
use Rattle.database_file.proofs.paged.PagedBase.head.Goals as goal

pub returns-clause-valid : goal.returns-clause-valid
returns-clause-valid c = subst IsHeader (ap (λ (file : PagedFile). file.header) c.self.view_is) c.self.invariant.valid
