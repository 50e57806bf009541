-- The text of a word that isn't consistent with the others.
use Rattle.std.specs.Prelude.{List, ℕ, ◌++◌, codes}
use Rattle.std.specs.Fmt.{signed_decimal}
use Rattle.position_text.specs.Text.{position_text}
use Rattle.directed_fixed.specs.declared.bounds.End.{End}
use Rattle.directed_fixed.specs.declared.bounds.End.TheVariants.{Lower, Upper}
use Rattle.cube_text.specs.Texts.{kind_text}
use Rattle.equity_report.specs.declared.unheld.Unheld.{Unheld}

-- which end of a pair
abbrev pub end_text : End → List ℕ
end_text Lower = codes "lower"
end_text Upper = codes "upper"

-- a word that is too tight: which one of which kind, the word and the end of the turn in units, and its position
abbrev pub unheld_text : Unheld → List ℕ
unheld_text unheld =
    codes "inconsistent " ++ (end_text unheld.side ++ codes " " ++ kind_text unheld.kind)
    ++ codes " "
    ++ (signed_decimal unheld.stored ++ codes " " ++ signed_decimal unheld.computed) ++ codes " "
    ++ position_text unheld.position
