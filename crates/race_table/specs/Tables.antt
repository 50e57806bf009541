-- A table of races by square rank.
use Rattle.std.specs.Prelude.{◌≡◌, ℕ, ◌+◌, ◌≤◌, max, List, length, slice_index_or, All}
use Rattle.std.specs.Int.{int_max}
use Rattle.position_rank.specs.Placement.{Placement}
use Rattle.position_rank.specs.Ranks.{square_rank_of}
use Rattle.roll_table.specs.Rolls.{all_rolls}
use Rattle.directed_fixed.specs.declared.bounds.End.TheVariants.{Lower, Upper}
use Rattle.directed_fixed.specs.Bounds.{IsWithin, at, at_zero}
use Rattle.cube_actions.specs.Money.{alone, cubeless}
use Rattle.cube_actions.specs.Stakes.{point_units}
use Rattle.turn_rule.specs.Turn.{Words, worth, greatest, turn}
use Rattle.turn_rule.specs.States.{pair_of}
use Rattle.turn_rule.specs.Layouts.{squares_of}
use Rattle.race_table.specs.declared.race.Race.{Race}
use Rattle.race_table.specs.Races.{IsRaceOf}
use Rattle.race_table.specs.RacePairs.{race_pair}
use Rattle.race_table.specs.TurnsLeft.{left_after, most, most_over, turns_left}

-- what stands in the table before a race is found
abbrev pub unknown_race : Race
unknown_race = record { pair = at_zero; turns = 0 }

abbrev pub race_at : List Race → Placement → Race
race_at races p = slice_index_or races (square_rank_of p) unknown_race

-- the words and the turns of a table
abbrev pub race_bounds : List Race → Words
race_bounds races end p k = at end (race_at races p).pair

abbrev pub turns_in : List Race → Placement → ℕ
turns_in races p = (race_at races p).turns

-- what a play that ends so leaves the mover
abbrev pub race_after_play : List Race → Placement → Race
race_after_play races q = record {
  pair = record {
    lower = worth Lower alone (race_bounds races) q;
    upper = worth Upper alone (race_bounds races) q;
  };
  turns = left_after (turns_in races) q;
}

-- at each end the better of two, and the more turns
abbrev pub better : Race → Race → Race
better one another = record {
  pair = record {
    lower = int_max one.pair.lower another.pair.lower;
    upper = int_max one.pair.upper another.pair.upper;
  };
  turns = max one.turns another.turns;
}

-- what the best of some plays leaves the mover, and the most turns that one of them leaves
abbrev pub best_race : List Race → List Placement → Race
best_race races ends = record {
  pair = record {
    lower = greatest (worth Lower alone (race_bounds races)) ends;
    upper = greatest (worth Upper alone (race_bounds races)) ends;
  };
  turns = most (left_after (turns_in races)) ends;
}

-- a race by its turn over the table
abbrev pub turn_of : List Race → Placement → Race
turn_of races p = record {
  pair = pair_of (turn cubeless (race_bounds races)) p 0;
  turns = 1 + most_over all_rolls (left_after (turns_in races)) p;
}

-- the pair lies within three points, and there are few turns
pub record IsSmallRace (race : Race) : Type 0 where
  pub within : IsWithin (point_units 3) race.pair
  pub few : race.turns ≤ 150

-- there is a square for each position of so many checkers a side, and each has a small race
pub record IsRaceTable (checkers : ℕ) (races : List Race) : Type 0 where
  pub full : length races ≡ squares_of checkers
  pub small : All IsSmallRace races

-- a race as it is found
abbrev pub found : Placement → Race
found p = record { pair = race_pair p; turns = turns_left p }

-- at each race of so many checkers a side, the table has its pair and its turns
pub record HoldsRaces (checkers : ℕ) (races : List Race) : Type 0 where
  pub table : IsRaceTable checkers races
  pub each : (p : Placement) → IsRaceOf checkers p → race_at races p ≡ found p
