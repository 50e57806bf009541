use Rattle.database_file.proofs.Places.{places}
use Rattle.database_file.proofs.laws.pages_have_their_places.Goals as goal

pub returns : goal.returns
returns c = λ bytes other page other_page are are_too right right_too there there_too same. places bytes other page other_page are are_too right right_too there there_too same
