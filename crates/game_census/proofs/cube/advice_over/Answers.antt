use Rattle.game_census.proofs.Sure.{advised}
use Rattle.game_census.proofs.cube.advice_over.Goals as goal

pub returns : goal.returns
returns c =
    advised c.args.words.now c.args.ends.now c.args.kind c.one_list_gives_the_advice.ensures _ c.stakes.result.now c.cube_advice_of.new.pairs.words.now
    c.reader-reader.ensures.source c.stakes.ensures c.cube_advice_of.ensures.source _ _ _ _ c.cube_advice_of.result c.cube_advice_of.ensures.looked
