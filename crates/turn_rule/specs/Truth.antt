-- What it is that a pair of words encloses.
use Rattle.std.specs.Prelude.{◌≡◌, ◌<◌, ◌≤◌, ◌^◌, ◌*◌, ℕ, ℤ, pos, ◌*ℤ◌, ◌≤ℤ◌, IfSome, length, Option, Some, None}
use Rattle.position_rank.specs.Placement.{Placement}
use Rattle.move_rules.specs.declared.payoff.Won.{Won}
use Rattle.directed_fixed.specs.declared.bounds.End.{End}
use Rattle.directed_fixed.specs.declared.bounds.End.TheVariants.{Lower, Upper}
use Rattle.directed_fixed.specs.Bounds.{Bounds, AreNoLooserPairs}
use Rattle.cube_actions.specs.declared.kind.Double.{Double}
use Rattle.cube_actions.specs.declared.kind.Kind.{Kind}
use Rattle.cube_actions.specs.Stakes.{Terms, kind_at}
use Rattle.turn_rule.specs.declared.game.Game.{Game}
use Rattle.turn_rule.specs.Games.{kinds_of}
use Rattle.turn_rule.specs.Turn.{Words, win, turn, bound_words}
use Rattle.turn_rule.specs.States.{IsState, pair_of, AreNoLooser}
use Rattle.turn_rule.specs.Exact.{Scoring, exact}

-- A word bounds a fraction, a number over another, as the lower or as the upper end of a pair. There are 2 ^ 32 units of a word to a point.
abbrev pub IsBoundOf : End → ℤ → ℤ → ℕ → Type 0
IsBoundOf Lower word number over = (pos over *ℤ word) ≤ℤ (pos (2 ^ 32) *ℤ number)
IsBoundOf Upper word number over = (pos (2 ^ 32) *ℤ number) ≤ℤ (pos over *ℤ word)

-- a fraction lies between both ends of a pair
pub record Encloses (pair : Bounds) (number : ℤ) (over : ℕ) : Type 0 where
  pub lower : IsBoundOf Lower pair.lower number over
  pub upper : IsBoundOf Upper pair.upper number over

-- what a win gives lies in the stakes' pair of this win
abbrev pub AreWinsWithin : Game → Scoring → Type 0
AreWinsWithin game scoring =
    (k : ℕ) (won : Won) → k < kinds_of game
    → Encloses (win (kind_at game.stakes k) won) (scoring.win k won) scoring.scale

-- what a pass gives lies in the stakes' pair of this pass
abbrev pub ArePassesWithin : Game → Scoring → Type 0
ArePassesWithin game scoring =
    (k : ℕ) → k < kinds_of game
    → IfSome (kind_at game.stakes k).double
    (λ double. Encloses double.pass (scoring.pass k) scoring.scale)

-- an unfinished end lies in the pair of its own state
abbrev pub AreEndsWithin : Game → Words → Scoring → Type 0
AreEndsWithin game u scoring =
    (p : Placement) (k : ℕ) → IsState game p k
    → Encloses (pair_of u p k) (scoring.unfinished p k) scoring.scale

-- A scoring of a game: what a win or a pass gives lies in the stakes' pair, and an unfinished end is worth anything within the bound.
pub record IsScoring (game : Game) (scoring : Scoring) : Type 0 where
  pub scale : 0 < scoring.scale
  pub wins : AreWinsWithin game scoring
  pub passes : ArePassesWithin game scoring
  pub unfinished : AreEndsWithin game (bound_words game.stakes) scoring

-- a word bounds the exact value of a state in the game of so many turns
abbrev pub IsBoundAt : End → Terms → Scoring → ℕ → ℤ → Placement → ℕ → Type 0
IsBoundAt end stakes scoring turns word p k =
    IsBoundOf end word (exact stakes scoring turns p k) (scoring.scale * 36 ^ turns)

-- a pair encloses the exact value of a state in the game of so many turns
abbrev pub EnclosesAt : Terms → Scoring → ℕ → Bounds → Placement → ℕ → Type 0
EnclosesAt stakes scoring turns pair p k =
    Encloses pair (exact stakes scoring turns p k) (scoring.scale * 36 ^ turns)

-- words enclose every state in the game of so many turns
abbrev pub AreEnclosing : Game → Scoring → ℕ → Words → Type 0
AreEnclosing game scoring turns u =
    (p : Placement) (k : ℕ) → IsState game p k
    → EnclosesAt game.stakes scoring turns (pair_of u p k) p k

-- in the end this holds of a game: from some number of turns on, one for all ways in which it may be scored
abbrev pub InTheEnd : Game → (Scoring → ℕ → Type 0) → Type 0
InTheEnd game Holds =
    (enough : ℕ) × ((turns : ℕ) → enough ≤ turns → (scoring : Scoring) → IsScoring game scoring
    → Holds scoring turns)

-- from so many turns on, words enclose every state, however the game is scored
abbrev pub AreSoundFrom : Game → ℕ → Words → Type 0
AreSoundFrom game enough u =
    (turns : ℕ) → enough ≤ turns → (scoring : Scoring) → IsScoring game scoring
    → AreEnclosing game scoring turns u

-- words are sound where in the end they enclose every state
abbrev pub AreSound : Game → Words → Type 0
AreSound game u = InTheEnd game (λ scoring turns. AreEnclosing game scoring turns u)

-- words are consistent where no turn over them is looser than they are
abbrev pub AreConsistent : Game → Words → Type 0
AreConsistent game u = AreNoLooser game (turn game.stakes u) u

-- the same answers to a double, and a pass that is known at least as well
pub record IsNoLooserDouble (a b : Double) : Type 0 where
  pub answers : a.answers.items ≡ b.answers.items
  pub pass : AreNoLooserPairs a.pass b.pass

abbrev pub AreNoLooserDoubles : Option Double → Option Double → Type 0
AreNoLooserDoubles None None = Unit {0}
AreNoLooserDoubles None (Some b) = ⊥
AreNoLooserDoubles (Some a) None = ⊥
AreNoLooserDoubles (Some a) (Some b) = IsNoLooserDouble a b

-- the same next kind and right to double, and wins that are known at least as well
pub record IsNoLooserKind (a b : Kind) : Type 0 where
  pub next : a.next ≡ b.next
  pub wins : (won : Won) → AreNoLooserPairs (win a won) (win b won)
  pub double : AreNoLooserDoubles a.double b.double

-- the same kinds and bound, whose wins and passes are known at least as well
pub record AreNoLooserStakes (a b : Terms) : Type 0 where
  pub many : length a.kinds ≡ length b.kinds
  pub bound : a.bound ≡ b.bound
  pub kinds : (k : ℕ) → k < length b.kinds → IsNoLooserKind (kind_at a k) (kind_at b k)
