use Rattle.std.proofs.Common.{◌∙◌, ◌+◌, ◌*◌, ◌/◌, ◌%◌, ◌<◌, sym, ap, subst}
use Rattle.position_rank.specs.LiveRanks.{live_rank_of}
use Rattle.base_head.specs.Headers.{IsHeader}
use Rattle.database_file.specs.Faults.{pages_behind}
use Rattle.database_file.specs.Pages.{page_count, words_on}
use Rattle.database_file.specs.PagedFiles.{PagedFile}
use Rattle.database_file.proofs.PagedWords.{state-stands}
use Rattle.database_file.proofs.paged.PagedBase.spot.Goals as goal

pub returns-clause-there : goal.returns-clause-there
returns-clause-there c =
    let header = c.args.self.now.header in
    let valid = subst IsHeader (ap (λ (file : PagedFile). file.header) c.self.view_is) c.self.invariant.valid in
    subst (λ rank. rank / 1024 < page_count (pages_behind header c.args.self.now.digest)) (sym c.rank-rank.ensures.rank) (state-stands header c.args.self.now.digest valid c.args.position.now c.args.kind c.requires).0

pub returns-clause-state : goal.returns-clause-state
returns-clause-state c =
    let header = c.args.self.now.header in
    let kind = c.args.kind in
    let valid = subst IsHeader (ap (λ (file : PagedFile). file.header) c.self.view_is) c.self.invariant.valid in
    let kinds = c.from-kinds.ensures ∙ ap (λ (file : PagedFile). file.header.kinds) c.self.view_is in
    subst (λ rank. 2 * (rank % 1024 * c.from-kinds.result + kind) + 1 < words_on (pages_behind header c.args.self.now.digest) (rank / 1024)) (sym c.rank-rank.ensures.rank)
    (subst (λ kinds. 2 * (live_rank_of c.args.position.now % 1024 * kinds + kind) + 1 < words_on (pages_behind header c.args.self.now.digest) (live_rank_of c.args.position.now / 1024)) (sym kinds) (state-stands header c.args.self.now.digest valid c.args.position.now kind c.requires).1)
