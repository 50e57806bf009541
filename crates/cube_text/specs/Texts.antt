-- Texts of kinds of state, of rules of money, and of scores.
use Rattle.std.specs.Prelude.{◌≡◌, ℕ, nat_eq, List, ◌++◌, find, codes, decimal, Option, Some, None, if◌then◌else◌}
use Rattle.std.specs.Cmp.Lexicographic.{pointwise}
use Rattle.std.specs.Str.{bytes_eq}
use Rattle.cube_actions.specs.declared.phase.Phase.{Phase}
use Rattle.cube_actions.specs.declared.phase.Phase.TheVariants.{Normal, Crawford, Post}
use Rattle.cube_actions.specs.declared.side.Side.{Side}
use Rattle.cube_actions.specs.declared.side.Side.TheVariants.{Near, Far}
use Rattle.cube_actions.specs.declared.name.KindName.{KindName}
use Rattle.cube_actions.specs.declared.name.KindName.TheVariants.{Alone, Centred, Mine, Theirs, InMatch}
use Rattle.cube_actions.specs.declared.name.MoneyRule.{MoneyRule}
use Rattle.cube_actions.specs.declared.name.MoneyRule.TheVariants.{Cubeless, Money, Jacoby, MoneyBeavers, JacobyBeavers}
use Rattle.cube_actions.specs.Scores.{MatchScore}
use Rattle.cube_actions.specs.Names.{every_name}

abbrev pub side_text : Side → List ℕ
side_text Near = codes "near"
side_text Far = codes "far"

abbrev pub owner_text : Option Side → List ℕ
owner_text None = codes "centred"
owner_text (Some side) = side_text side

-- the text of a name: in a match the mover, what the cube shows, and its owner
abbrev pub kind_text : KindName → List ℕ
kind_text Alone = codes "alone"
kind_text Centred = codes "centred"
kind_text Mine = codes "mine"
kind_text Theirs = codes "theirs"
kind_text (InMatch mover cube owner) =
    side_text mover ++ codes ":" ++ decimal cube ++ codes ":" ++ owner_text owner

-- the name with this text
abbrev pub read_name : List ℕ → Option KindName
read_name text = find (λ name. pointwise nat_eq (kind_text name) text) every_name

abbrev pub rule_text : MoneyRule → List ℕ
rule_text Cubeless = codes "cubeless"
rule_text Money = codes "money"
rule_text Jacoby = codes "jacoby"
rule_text MoneyBeavers = codes "money-beavers"
rule_text JacobyBeavers = codes "jacoby-beavers"

-- no rule has this text
abbrev pub IsNoRule : List ℕ → Type 0
IsNoRule text = (rule : MoneyRule) → text ≡ rule_text rule → ⊥

-- the rule with this text
abbrev pub read_rule : List ℕ → Option MoneyRule
read_rule text =
    if bytes_eq text (codes "cubeless") then Some Cubeless
    else (if bytes_eq text (codes "money") then Some Money
    else (if bytes_eq text (codes "jacoby") then Some Jacoby
    else (if bytes_eq text (codes "money-beavers") then Some MoneyBeavers
    else (if bytes_eq text (codes "jacoby-beavers") then Some JacobyBeavers else None))))

abbrev pub letter : Phase → List ℕ
letter Normal = codes "n"
letter Crawford = codes "c"
letter Post = codes "p"

-- the points that the sides need, and a letter for the phase
abbrev pub score_text : MatchScore → List ℕ
score_text score =
    decimal score.near ++ codes "." ++ decimal score.far ++ codes "." ++ letter score.phase
