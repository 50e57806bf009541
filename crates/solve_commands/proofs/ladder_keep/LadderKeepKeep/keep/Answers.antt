use Rattle.solve_commands.proofs.LadderKeeping.{fails, keeps}
use Rattle.solve_commands.proofs.LadderSteps.{head-valid}
use Rattle.solve_commands.proofs.ladder_keep.LadderKeepKeep.keep.Goals as goal

pub write_score-requires-clause-head : goal.write_score-requires-clause-head
write_score-requires-clause-head g c =
    let starts = c.args.starts.now in
    let valid = c.match_length-length.ensures.valid in
    head-valid c.args.self.now.task.now c.args.self.now.right starts valid (c.ladders_are_exact.ensures.order starts.match_length valid.from valid.to) c.args.score c.requires.more c.requires.is_next

pub returns-in_err-write_score-clause-since : goal.returns-in_err-write_score-clause-since
returns-in_err-write_score-clause-since g c past since =
    fails c.args.self.now.task.now c.args.self.now.right c.solved_ladders_are_true_and_tight.ensures c.ladders_are_exact.ensures.order
    past c.args.self.now.starts c.args.starts.now c.args.score c.words-words.result.now _ _ c.requires.before c.match_length-length.ensures.valid c.requires.more c.requires.is_next
    (rw c.words-words.ensures.words c.requires.closed) c.right.ensures.right c.widest.ensures c.start_pair.ensures.start _ _ (rw c.requires.works at since)
    _ _ c.in_err-write_score.ensures.leaves c.in_err-write_score.ensures.front

pub returns-clause-since : goal.returns-clause-since
returns-clause-since g c past since =
    keeps c.args.self.now.task.now c.args.self.now.right c.solved_ladders_are_true_and_tight.ensures c.ladders_are_exact.ensures.order
    past c.args.self.now.starts c.args.starts.now c.args.score c.words-words.result.now _ _ c.requires.before c.match_length-length.ensures.valid c.requires.more c.requires.is_next
    (rw c.words-words.ensures.words c.requires.closed) c.right.ensures.right c.widest.ensures c.start_pair.ensures.start _ _ (rw c.requires.works at since)
    _ _ c.in_ok-write_score.ensures.file c.in_ok-write_score.ensures.told _ c.add.ensures c.match_length-added.ensures.valid
