use Rattle.play_analyser.proofs.OneList.{advice-exact}
use Rattle.play_analyser.proofs.look_laws.one_list_gives_the_advice.Goals as goal

pub returns : goal.returns
returns c = λ source noted stakes p k advice told same is. advice-exact source noted stakes p k advice told same is
