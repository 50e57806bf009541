-- What may be done with the cube, as reports tell it.
use Rattle.std.specs.Prelude.{ℕ, List, codes}
use Rattle.cube_actions.specs.declared.action.Answer.{Answer}
use Rattle.cube_actions.specs.declared.action.Answer.TheVariants.{Take, Pass, Beaver}
use Rattle.cube_actions.specs.declared.action.Offer.{Offer}
use Rattle.cube_actions.specs.declared.action.Offer.TheVariants.{NoDouble, Double}

abbrev pub offer_text : Offer → List ℕ
offer_text NoDouble = codes "no-double"
offer_text Double = codes "double"

abbrev pub answer_text : Answer → List ℕ
answer_text Take = codes "take"
answer_text Pass = codes "pass"
answer_text Beaver = codes "beaver"
