use Rattle.std.proofs.Common.{rules}
use Rattle.match_scores.specs.Keepers.{KeptOneMore}
use Rattle.match_scores.proofs.Handing.{covers-next, kept-more, may-keep, solved-more}
use Rattle.match_scores.proofs.ladder.take_score.Goals as goal

pub solve_score-requires-clause-covered : goal.solve_score-requires-clause-covered
solve_score-requires-clause-covered g c κs within = covers-next c.args.starts.now c.args.score c.requires.more c.requires.next

pub keep-requires : goal.keep-requires
keep-requires g c =
    may-keep c.opening_plays_go_on.ensures c.wins_lead_down_the_ladder.ensures (λ match_length from to score listed. (c.ladders_are_exact.ensures.scores match_length from to score).0 listed) c.args.checkers c.args.rounds c.requires.low c.requires.high c.args.starts.now c.match_length-length.ensures.valid (g.K.Keep.keeper c.args.keep.now)
    c.requires.so_far c.requires.keeper c.requires.kept c.requires.more c.args.score c.requires.next c.in-Ok.closed c.in-Ok.ensures.words

pub returns-clause-so_far : goal.returns-clause-so_far
returns-clause-so_far g c =
    solved-more c.args.checkers c.args.rounds c.args.starts.now c.args.score c.in-Ok.closed c.start_pair.result c.add.new.self c.requires.so_far c.requires.next c.in-Ok.ensures.words (rw c.words.ensures.words at c.start_pair.ensures.start) c.add.ensures

pub returns-clause-kept : goal.returns-clause-kept
returns-clause-kept g c =
    let more : KeptOneMore c.args.score c.in-Ok.closed (g.K.Keep.keeper c.args.keep.now) (g.K.Keep.keeper c.keep.new.self) = search rules in
    kept-more c.args.starts.now c.add.new.self c.start_pair.result c.args.score c.in-Ok.closed (g.K.Keep.keeper c.args.keep.now) (g.K.Keep.keeper c.keep.new.self) c.requires.kept more
    (rw c.words.ensures.words at c.start_pair.ensures.start) c.add.ensures
