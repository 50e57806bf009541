-- When a file is of another game than the one that is asked for.
use Rattle.std.specs.Prelude.{◌≡◌, ◌≢◌, ◌⊎◌, ℕ, List, Contains, sum, slice_get, Option, Some, None, IfSome, Result, Ok, Err}
use Rattle.position_rank.specs.Placement.{Placement}
use Rattle.cube_actions.specs.declared.name.KindName.{KindName}
use Rattle.cube_actions.specs.Names.{names_of}
use Rattle.base_head.specs.Heads.{FileHead}
use Rattle.database_file.specs.Bases.{AnswersBase}
use Rattle.database_file.specs.FileBases.{FileBase}
use Rattle.database_file.specs.Faults.{Read as FileRead}
use Rattle.equity_report.specs.declared.refusal.Refusal.{Refusal}
use Rattle.equity_report.specs.declared.refusal.Refusal.TheVariants.{Base}
use Rattle.equity_report.specs.declared.refusal.Wanted.TheVariants.{Checkers, Kind}
use Rattle.run_endings.specs.declared.asked.AskedKind.{AskedKind}
use Rattle.run_endings.specs.Loads.{RefusesLoading, game_told}

-- ---- the state that is asked for

-- the kind of this number is the one that is asked for by its name, or the first where none is asked for
abbrev pub IsAsAsked : Option KindName → AskedKind → Type 0
IsAsAsked None kind = kind.number ≡ 0
IsAsAsked (Some name) kind = kind.name ≡ name

-- a kind of the head's game, by its number and its name, which is the one that is asked for
pub record IsKindAsked (head : FileHead) (asked : Option KindName) (kind : AskedKind) : Type 0 where
  pub named : slice_get (names_of head.name) kind.number ≡ Some kind.name
  pub as_asked : IsAsAsked asked kind

-- the head's game has the position's checkers, and the kind that is asked for, where one is
pub record HasState (p : Placement) (asked : Option KindName) (head : FileHead) : Type 0 where
  pub checkers : head.checkers ≡ sum p.mover
  pub kind : IfSome asked (Contains (names_of head.name))

-- ---- another game

-- the position has another number of checkers than the head's game
pub record WantsCheckers (p : Placement) (head : FileHead) (refusal : Refusal) : Type 0 where
  pub other : head.checkers ≢ sum p.mover
  pub line : refusal ≡ Base (Checkers (sum p.mover)) (game_told head)

-- the position has its checkers, and the game has no kind of the name that is asked for
pub record WantsKind (p : Placement) (asked : Option KindName) (head : FileHead)
    (refusal : Refusal) : Type 0 where
  pub checkers : head.checkers ≡ sum p.mover
  pub name : KindName
  pub is_asked : asked ≡ Some name
  pub none : Contains (names_of head.name) name → ⊥
  pub line : refusal ≡ Base (Kind name) (game_told head)

-- a state of this position, and of the kind of this name where one is asked for, is none of the head's game
abbrev pub WantsOther : Placement → Option KindName → FileHead → Refusal → Type 0
WantsOther p asked head refusal = WantsCheckers p head refusal ⊎ WantsKind p asked head refusal

-- this is the state that is asked for in a game with this head, or this refuses it
abbrev pub AnswersAsked : Placement → Option KindName → FileHead → Result AskedKind Refusal → Type 0
AnswersAsked p asked head (Ok kind) = (head.checkers ≡ sum p.mover) × IsKindAsked head asked kind
AnswersAsked p asked head (Err refusal) = WantsOther p asked head refusal

-- ---- files that are loaded

-- a head and words were read from a file, of another game than is wanted
pub record IsReadOfOther (IsOther : FileHead → Refusal → Type 0) (refusal : Refusal)
    (file : Option FileRead) : Type 0 where
  pub base : FileBase
  pub read : AnswersBase file (Ok base)
  pub other : IsOther base.head refusal

-- a file of this name can't be loaded, or it is of another game than is wanted
abbrev pub RefusesLoadingFor : (FileHead → Refusal → Type 0) → List ℕ → Refusal → Option FileRead
    → Type 0
RefusesLoadingFor IsOther name refusal file =
    RefusesLoading name refusal file ⊎ IsReadOfOther IsOther refusal file
