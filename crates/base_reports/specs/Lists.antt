-- The lines of a report on a list of positions, alone or with rolls. Between the fields of a line stand tabs.
use Rattle.std.specs.Prelude.{ℕ, List, [], ◌∷◌, ◌++◌, codes}
use Rattle.std.specs.Fmt.{signed_decimal}
use Rattle.std.specs.List.{flat_map}
use Rattle.position_rank.specs.Placement.{Placement}
use Rattle.position_text.specs.Text.{position_text}
use Rattle.roll_table.specs.Rolls.{Dice}
use Rattle.roll_table.specs.Text.{roll_text}
use Rattle.play_text.specs.Notation.{play_text}
use Rattle.directed_fixed.specs.Bounds.{Bounds}
use Rattle.point_text.specs.Decimal.{millionths_down, millionths_up, millionths_text}
use Rattle.cube_actions.specs.declared.name.KindName.{KindName}
use Rattle.cube_text.specs.Texts.{kind_text}
use Rattle.play_analyser.specs.declared.ranking.PlayRow.{PlayRow}
use Rattle.play_analyser.specs.declared.ranking.Ranking.{Ranking}
use Rattle.equity_report.specs.declared.refusal.Refusal.{Refusal}
use Rattle.equity_report.specs.Refusals.{refusal_told}
use Rattle.base_reports.specs.declared.shown.KindRow.{KindRow}

-- a field behind a tab
abbrev pub next_field : List ℕ → List ℕ
next_field text = codes "\t" ++ text

-- a pair: the lower end in points, rounded down, the upper end, rounded up, and both in units
abbrev pub pair_fields : Bounds → List ℕ
pair_fields pair =
    next_field (millionths_text (millionths_down pair.lower))
    ++ next_field (millionths_text (millionths_up pair.upper))
    ++ next_field (signed_decimal pair.lower) ++ next_field (signed_decimal pair.upper)

-- a kind and its pair
abbrev pub row_fields : KindRow → List ℕ
row_fields row = next_field (kind_text row.kind) ++ pair_fields row.pair

-- a position and its pairs in each kind
abbrev pub shown_line : Placement → List KindRow → List ℕ
shown_line p rows = position_text p ++ flat_map row_fields rows ++ codes "\n"

-- the first of some plays, and its pair
abbrev pub best_fields : Placement → List PlayRow → List ℕ
best_fields p [] = []
best_fields p (row ∷ rows) =
    next_field (play_text p row.entry.play.items) ++ pair_fields row.pair

-- a position, a roll and a kind, the best play, its pair, and what it loses at most in points, rounded up
abbrev pub best_play_line : Placement → Dice → KindName → Ranking → List ℕ
best_play_line p roll kind ranking =
    position_text p ++ next_field (roll_text roll) ++ next_field (kind_text kind)
    ++ best_fields p ranking.rows.items
    ++ next_field (millionths_text (millionths_up ranking.loss_bound)) ++ codes "\n"

-- what is refused
abbrev pub refused_line : Refusal → List ℕ
refused_line refusal = codes "! " ++ refusal_told refusal ++ codes "\n"
