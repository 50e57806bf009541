use Rattle.base_scan.proofs.Numbered.{seen-pair}
use Rattle.base_scan.proofs.numbers.pair_of.Goals as goal

pub returns : goal.returns
returns c = seen-pair c.args.words.now c.args.seen.now c.pair_at.result c.requires c.pair_at.ensures.pair
