use Rattle.std.proofs.Common.{◌≡◌, ◌++◌, List, ℕ, append_assoc}
use Rattle.std.specs.Prelude.{codes}
use Rattle.std.specs.Fmt.{signed_decimal}
use Rattle.position_text.specs.Text.{position_text}
use Rattle.cube_text.specs.Texts.{kind_text}
use Rattle.equity_report.specs.Unheld.{end_text}
use Rattle.equity_report.proofs.unheld.add_unheld.Goals as goal

regroup : (l a s b v p : List ℕ) → (((((l ++ a) ++ s) ++ b) ++ v) ++ b) ++ p ≡ l ++ (((((a ++ s) ++ b) ++ v) ++ b) ++ p)
regroup l a s b v p = simp append_assoc

pub returns-clause-bytes : goal.returns-clause-bytes
returns-clause-bytes c =
    let unheld = c.args.unheld.now in
    rw (c.push_str-4.ensures.bytes, c.as_str.ensures.value, c.print_position.ensures, c.push_str-3.ensures.bytes, c.add_values.ensures.bytes, c.push_str-2.ensures.bytes, c.add_state.ensures.bytes, c.push_str.ensures.bytes)
    (regroup c.args.line.now.bytes (codes "inconsistent ") (end_text unheld.side ++ codes " " ++ kind_text unheld.kind) (codes " ")
    (signed_decimal unheld.stored ++ codes " " ++ signed_decimal unheld.computed) (position_text unheld.position))
