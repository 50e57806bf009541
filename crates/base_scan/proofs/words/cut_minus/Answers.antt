use Rattle.std.proofs.Common.{lit<}
use Rattle.std.proofs.lemmas.Str.Pattern.{strip_prefix_char}
use Rattle.base_scan.proofs.words.cut_minus.Goals as goal

pub returns-in-None-clause-none : goal.returns-in-None-clause-none
returns-in-None-clause-none c = λ _. rw c.in-None.is at (strip_prefix_char 45 c.args.text.now c.strip_prefix.result c.strip_prefix.ensures.cases (lit< tt))
