use Rattle.play_analyser.proofs.OneList.{ranking-exact}
use Rattle.play_analyser.proofs.look_laws.one_list_gives_the_ranking.Goals as goal

pub returns : goal.returns
returns c = λ source noted stakes p k roll ranking told same is. ranking-exact source noted stakes p k roll ranking told same is
