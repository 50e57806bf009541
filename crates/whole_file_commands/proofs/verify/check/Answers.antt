use Rattle.whole_file_commands.proofs.Verified.{verified}
use Rattle.whole_file_commands.proofs.verify.check.Goals as goal

pub returns-in-Ok-clause-told : goal.returns-in-Ok-clause-told
returns-in-Ok-clause-told g c =
    let words = c.args.base.now.words in
    verified words (c.losses_enclose_regrets.ensures words.game (rw (c.words.ensures.words) at c.right.ensures.game)) c.in-Ok.ensures.told c.in-Ok.ensures.enclosing
