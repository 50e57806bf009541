use Rattle.play_analyser.proofs.OneList.{best-exact}
use Rattle.play_analyser.proofs.look_laws.one_list_gives_the_best.Goals as goal

pub returns : goal.returns
returns c = λ source noted stakes p k choice best told same is. best-exact source noted stakes p k told choice same best is
