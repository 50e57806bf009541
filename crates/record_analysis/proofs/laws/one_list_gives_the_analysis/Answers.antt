use Rattle.record_analysis.proofs.Analysed.{analysis-exact}
use Rattle.record_analysis.proofs.laws.one_list_gives_the_analysis.Goals as goal

pub returns : goal.returns
returns c = λ source noted stakes decisions list told outside can same are. analysis-exact c.one_list_gives_the_loss.ensures c.one_list_gives_the_best.ensures source noted stakes told decisions list outside can same are
