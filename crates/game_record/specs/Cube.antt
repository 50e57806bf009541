-- The doubling cube.
use Rattle.std.specs.Prelude.{ℕ, ◌+◌, ◌^◌, Bool, true, Option, Some, None}
use Rattle.game_record.specs.declared.cube.Cube.{Cube}
use Rattle.game_record.specs.declared.player.Player.{Player}
use Rattle.game_record.specs.Turns.{same_player}

abbrev pub centred : Cube
centred = record { turns = 0; owner = None }

-- it shows 1, 2, 4 and so on
abbrev pub shows : Cube → ℕ
shows cube = 2 ^ cube.turns

-- it was turned so many times more, and went to this player
abbrev pub turned : Cube → ℕ → Player → Cube
turned cube times player = record { turns = cube.turns + times; owner = Some player }

-- a cube with this owner is centred or this player's
abbrev pub is_free_to : Player → Option Player → Bool
is_free_to player None = true
is_free_to player (Some owner) = same_player owner player
