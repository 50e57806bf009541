use Rattle.std.proofs.Common.{◌≡◌, ◌++◌, List, ℕ, append_assoc}
use Rattle.std.specs.Prelude.{codes}
use Rattle.equity_report.specs.Games.{game_text}
use Rattle.equity_report.specs.Refusals.{wanted_text}
use Rattle.equity_report.proofs.refusal.add_base.Goals as goal

regroup : (l a b c d : List ℕ) → (((l ++ a) ++ b) ++ c) ++ d ≡ l ++ (((a ++ b) ++ c) ++ d)
regroup l a b c d = simp append_assoc

pub returns-clause-bytes : goal.returns-clause-bytes
returns-clause-bytes c =
    rw (c.add_game.ensures.bytes, c.push_str-2.ensures.bytes, c.add_wanted.ensures.bytes, c.push_str.ensures.bytes)
    (regroup c.args.line.now.bytes (codes "base wanted ") (wanted_text c.args.wanted) (codes " found ") (game_text c.args.found))
