-- The report of a search: a line for each state that was found, and then how many were.
use Rattle.std.specs.Prelude.{ℕ, List, ◌++◌, codes, decimal, length, slice_get, []}
use Rattle.std.specs.List.{flat_map}
use Rattle.std.specs.Option.{option_map_or}
use Rattle.position_text.specs.Text.{position_text}
use Rattle.cube_actions.specs.declared.name.StakesName.{StakesName}
use Rattle.cube_actions.specs.Names.{names_of}
use Rattle.cube_text.specs.Texts.{kind_text}
use Rattle.turn_rule.specs.States.{pair_of}
use Rattle.interval_words.specs.WordLists.{WordList, states_of, words_in_list}
use Rattle.base_scan.specs.declared.found.State.{State}
use Rattle.equity_report.specs.Reports.{line, counted_text, points_text}

-- the name of the kind of this number, in a game for these stakes
abbrev pub kind_told : StakesName → ℕ → List ℕ
kind_told stakes kind = option_map_or kind_text (slice_get (names_of stakes) kind) []

-- a state that was found: its kind, its position, and its pair in points
abbrev pub found_text : WordList → State → List ℕ
found_text words state =
    line (kind_told words.game.stakes.name state.kind)
    (position_text state.position ++ codes " "
    ++ points_text (pair_of (words_in_list words) state.position state.kind))

-- how many states were found, and how many there are
abbrev pub found_end_text : ℕ → ℕ → List ℕ
found_end_text found all =
    line (codes "found") (decimal found ++ codes " " ++ counted_text (codes "of") all)

-- a line for each state that was found, in their order, and how many of all states these are
abbrev pub scan_text : WordList → List State → List ℕ
scan_text words states =
    flat_map (found_text words) states ++ found_end_text (length states) (states_of words.game)
