use Rattle.cube_actions.proofs.LadderExact.{in_ladder, to_ladder, ladder_sorted}
use Rattle.cube_actions.proofs.match_laws.ladders_are_exact.Goals as goal

pub returns : goal.returns
returns c = record {
  scores = λ n from to score. (in_ladder n from to score, to_ladder n from to score);
  order = ladder_sorted;
}
