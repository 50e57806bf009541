use Rattle.play_analyser.proofs.OneList.{play-exact}
use Rattle.play_analyser.proofs.look_laws.one_list_gives_the_play.Goals as goal

pub returns : goal.returns
returns c = λ source noted kind q pair told same is. play-exact source noted kind q pair told same is
