use Rattle.std.proofs.Common.{subst}
use Rattle.base_head.specs.Heads.{FileHead}
use Rattle.game_census.specs.Saved.{IsSaved}
use Rattle.game_census.proofs.widths.tell_widths.Goals as goal

pub returns-in-Some : goal.returns-in-Some
returns-in-Some g c ok =
    rw c.in-Some.is
    (subst (λ (head : FileHead). IsSaved head c.in-Some.file.now (g.F.Files.log c.args.files.now) (g.F.Files.log c.save.new.files)) c.unlimited-head.ensures (c.save.ensures ok))
