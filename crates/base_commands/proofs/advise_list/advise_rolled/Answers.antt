use Rattle.outside_log.specs.Log.{standing}
use Rattle.base_commands.specs.AdviseLists.{advise_of}
use Rattle.base_commands.proofs.AdviseFiles.{state-opened}
use Rattle.base_commands.proofs.ListLaws.{other-rolled, rolled-stopped, rolled-told}
use Rattle.base_commands.proofs.advise_list.advise_rolled.Goals as goal

pub returns-in-Err-clause-told : goal.returns-in-Err-clause-told
returns-in-Err-clause-told g c told =
    let base = c.args.base.now in
    other-rolled c.args.rolled (standing (g.F.Files.log c.args.files.now) base.name) base c.args.asked c.in-Err.refusal (rw (c.head.ensures.head) at c.in-Err.ensures.asked)

pub returns-in-Ok-ranking_of-clause-told : goal.returns-in-Ok-ranking_of-clause-told
returns-in-Ok-ranking_of-clause-told g c told =
    let base = c.args.base.now in
    let held = standing (g.F.Files.log c.args.files.now) base.name in
    let kind = c.in-Ok.kind in
    let task = advise_of base.name c.args.asked c.args.rolled in
    rolled-told c.args.rolled held base c.args.asked kind
    (λ opened. state-opened task held base kind opened c.requires.position c.requires.live c.head.ensures.valid c.head.ensures.checkers c.head.ensures.name
    (rw (c.head.ensures.head) at c.in-Ok.ensures.asked) (rw (c.head.ensures.head) at c.in-Ok.ensures.game) (rw (c.head.ensures.head) at c.in-Ok.ensures.number))
    (λ roll bytes ranking. c.looked_up_rankings_are_of_the_file.ensures task roll bytes base.head kind ranking)
    c.requires.roll c.in-Ok-ranking_of.ranking (c.in-Ok-ranking_of.ensures.told told)

pub returns-in-Err-ranking_of-clause-told : goal.returns-in-Err-ranking_of-clause-told
returns-in-Err-ranking_of-clause-told g c told =
    let base = c.args.base.now in
    let held = standing (g.F.Files.log c.args.files.now) base.name in
    let kind = c.in-Ok.kind in
    rolled-stopped c.args.rolled held base c.args.asked kind
    (λ opened. state-opened (advise_of base.name c.args.asked c.args.rolled) held base kind opened c.requires.position c.requires.live c.head.ensures.valid c.head.ensures.checkers c.head.ensures.name
    (rw (c.head.ensures.head) at c.in-Ok.ensures.asked) (rw (c.head.ensures.head) at c.in-Ok.ensures.game) (rw (c.head.ensures.head) at c.in-Ok.ensures.number))
    c.in-Err-ranking_of.stop c.stop_answer.result (c.in-Err-ranking_of.ensures.told told) c.stop_answer.ensures.answer
