-- A match score as players say it, and where the cube stands, both seen by the side that asks.
use Rattle.std.specs.Prelude.{ℕ, ◌-◌, ◌==◌, nat_lt, nat_le, max, min, Bool, ◌&&◌, ◌||◌, [], ◌∷◌, ◌++◌, codes, Option, Some, None, if◌then◌else◌, option_and_then, option_map}
use Rattle.std.specs.Str.{bytes_eq}
use Rattle.cube_text.specs.Texts.{score_text}
use Rattle.cube_actions.specs.Scores.{MatchScore, other_side}
use Rattle.cube_actions.specs.declared.name.KindName.{KindName}
use Rattle.cube_actions.specs.declared.name.KindName.TheVariants.{InMatch}
use Rattle.cube_actions.specs.declared.phase.Phase.{Phase}
use Rattle.cube_actions.specs.declared.phase.Phase.TheVariants.{Normal, Crawford, Post}
use Rattle.cube_actions.specs.declared.side.Side.{Side}
use Rattle.cube_actions.specs.declared.side.Side.TheVariants.{Near, Far}
use Rattle.word_forms.specs.Form.{Bytes}
use Rattle.command_line.specs.declared.away.Away.{Away}

-- one of the digits 1 to 5
abbrev pub is_need : ℕ → Bool
is_need digit = nat_le 49 digit && nat_le digit 53

-- Where one side needs a point and the other more, it is told whether it is the Crawford game or one
-- after it.
-- Elsewhere it follows: where both need more it is before that game, where both need one after it.
abbrev pub phase_given : ℕ → ℕ → Bool → Bool → Option Phase
phase_given near far crawford post =
    if nat_lt 1 near then if crawford || post then None else Some Normal
    else if crawford then if post || far == 1 then None else Some Crawford
    else if post || far == 1 then Some Post else None

-- the side that asks: near where it needs no more than the other
abbrev pub side_needing : ℕ → ℕ → Side
side_needing mine theirs = if nat_le mine theirs then Near else Far

abbrev pub away_of : ℕ → ℕ → Bool → Bool → Option Away
away_of mine theirs crawford post = option_map
    (λ phase. record {
      score = record { near = min mine theirs; far = max mine theirs; phase = phase };
      side = side_needing mine theirs;
    })
    (phase_given (min mine theirs) (max mine theirs) crawford post)

-- two digits from 1 to 5 with a minus between: the points that the side which asks still needs, and
-- those that the other side needs
abbrev pub away_read : Bytes → Bool → Bool → Option Away
away_read (a ∷ sign ∷ b ∷ []) crawford post =
    if is_need a && sign == 45 && is_need b
    then away_of (a - 48) (b - 48) crawford post else None
away_read _ crawford post = None

abbrev pub away_given : Option Bytes → Bool → Bool → Option Away
away_given given crawford post = option_and_then (λ word. away_read word crawford post) given

-- whose the cube is: it is in the middle where none is given
abbrev pub owner_given : Side → Option Bytes → Option (Option Side)
owner_given side None = Some None
owner_given side (Some word) =
    if bytes_eq word (codes "centred") then Some None
    else if bytes_eq word (codes "mine") then Some (Some side)
    else if bytes_eq word (codes "theirs") then Some (Some (other_side side)) else None

-- what the cube shows: 1 in the middle, and else 2, 4 or 8; 2 where nothing is given
abbrev pub value_given : Option Side → Option Bytes → Option ℕ
value_given None None = Some 1
value_given None (Some word) = if bytes_eq word (codes "1") then Some 1 else None
value_given (Some owner) None = Some 2
value_given (Some owner) (Some word) =
    if bytes_eq word (codes "2") then Some 2
    else if bytes_eq word (codes "4") then Some 4
    else if bytes_eq word (codes "8") then Some 8 else None

-- the side that moves or doubles: whoever asks whether to take was doubled
abbrev pub mover_of : Bool → Side → Side
mover_of take side = if take then other_side side else side

abbrev pub kind_asked : Bool → Side → ℕ → Option Side → KindName
kind_asked take side value owner = InMatch (mover_of take side) value owner

-- the file of the score
abbrev pub file_at : Bytes → MatchScore → Bytes
file_at prefix score = prefix ++ codes "." ++ score_text score
