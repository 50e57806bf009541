use Rattle.std.proofs.Common.{◌∙◌, refl, sym}
use Rattle.match_scores.proofs.Handing.{solved-none, none-held, same-keeper, same-counts, all-held, whole-ladder}
use Rattle.match_scores.proofs.ladder.solve_ladder.Goals as goal

pub loop-score-init : goal.loop-score-init
loop-score-init g c =
    let keeper = g.K.Keep.keeper c.args.keep.now in
    record {
      so_far = solved-none c.args.checkers c.args.match_length c.args.rounds c.new-starts.result c.new-starts.ensures;
      many = none-held c.args.match_length c.new-starts.result c.new-starts.ensures;
      for_ladder = c.requires.keeper;
      kept = record { works = c.requires.fresh.works; held = c.requires.fresh.held ∙ sym c.new-starts.ensures };
      same = same-keeper keeper;
      counts = same-counts keeper;
      stays = refl;
      since = λ past holds. holds;
    }

pub returns-clause-whole : goal.returns-clause-whole
returns-clause-whole g c =
    let starts = c.loop-score.starts in
    let so_far = c.loop-score.invariant.so_far in
    let valid = c.match_length-length.ensures.valid in
    whole-ladder c.opening_plays_go_on.ensures c.wins_lead_down_the_ladder.ensures (λ match_length from to score listed. (c.ladders_are_exact.ensures.scores match_length from to score).0 listed) c.args.checkers c.args.match_length c.args.rounds c.requires.low c.requires.high starts valid so_far
    (all-held starts c.args.match_length c.loop-score.score-index _ valid so_far.of_length (c.as_slice-score-items.ensures.value ∙ c.ladder.ensures) c.loop-score.invariant.many c.loop-score-test.false)
