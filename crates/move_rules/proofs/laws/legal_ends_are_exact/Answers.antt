use Rattle.move_rules.proofs.EndsExact.{legal_ends-sound, legal_ends-complete}
use Rattle.move_rules.proofs.laws.legal_ends_are_exact.Goals as goal

pub returns : goal.returns
returns c = λ p roll q. (legal_ends-sound p roll q, legal_ends-complete p roll q)
