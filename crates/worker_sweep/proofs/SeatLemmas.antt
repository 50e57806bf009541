-- A seat after one note more.
use Rattle.std.proofs.Common.{◌≡◌, ℕ, ℤ, Some, None, Ok, arith, ap, refl, ◌∙◌}
use Rattle.position_rank.specs.Placement.{Placement}
use Rattle.position_rank.specs.Ranks.{rank_of}
use Rattle.directed_fixed.specs.declared.bounds.End.{End}
use Rattle.directed_fixed.specs.declared.bounds.End.TheVariants.{Lower, Upper}
use Rattle.directed_fixed.specs.Bounds.{Bounds, at, IsNoLooser, IsWithinUnits}
use Rattle.turn_rule.specs.Games.{kinds_of}
use Rattle.turn_rule.specs.Turn.{rounds}
use Rattle.turn_rule.specs.States.{IsState, AreWithin}
use Rattle.turn_rule.specs.Looks.{Looked, IsAnswer, all_told}
use Rattle.turn_rule.proofs.Found.{look}
use Rattle.turn_rule.specs.declared.game.Game.{Game}
use Rattle.interval_words.specs.Numbers.{state_of, word_of}
use Rattle.interval_words.specs.Core.{noted, known}
use Rattle.interval_words.specs.declared.view.Work.{Work}
use Rattle.interval_words.specs.Seats.{GameTable, GameSeat, SitsAt, KeepsNotes, Brings, Knows, noting}
use Rattle.interval_words.proofs.SeatNotes.{sits-kept, keeps-noting, told-noting, adds-trans, adds-weaker}
use Rattle.worker_sweep.specs.Blocks.{IsWorkIn, WorksIn}
use Rattle.interval_words.proofs.Ends.{tight-trans, tightest-right}
use Rattle.worker_sweep.specs.Sources.{board_source}

pub knows-within : (board : GameTable) (seat : GameSeat) → SitsAt board seat → Knows seat.view → AreWithin board.game (noted board.game seat.view.notes)
knows-within board seat sits knows = (knows.notes board.game sits.game).within

-- what is known is at least as tight as the base
pub known-floor : (game : Game) (seat : GameSeat) (end : End) (p : Placement) (k : ℕ) (value : ℤ) → IsNoLooser end value (known game seat.view end p k) → IsNoLooser end value (rounds game.stakes seat.view.base end p k)
known-floor game seat end p k value h = tight-trans end _ _ _ h (tightest-right end (noted game seat.view.notes end p k) (rounds game.stakes seat.view.base end p k))

-- a word that was read is an answer
pub looked-noting : (board : GameTable) (old new : GameSeat) (state : ℕ) (value : ℤ) (end : End) (p : Placement) (k : ℕ) → new ≡ noting old (word_of end state) value → SitsAt board old → state ≡ state_of (kinds_of board.game) p k
    → IsWithinUnits board.game.stakes.bound value → IsNoLooser end value (known board.game old.view end p k)
    → Looked (look (board_source board.game old.view.base) (all_told (noted board.game old.view.notes)) (all_told (noted board.game new.view.notes)) 0 0) (λ damage. None ≡ Some damage) (IsAnswer end (board_source board.game old.view.base) (all_told (noted board.game new.view.notes)) p k) (Ok value)
looked-noting board old new state value end p k noting_is sits at within fresh = record {
  later = omega arith;
  notes = record { told = λ told. told; words = λ _. (keeps-noting board old new (word_of end state) value noting_is sits).notes board.game sits.game };
  answer = record {
    within = within;
    floor = λ _. known-floor board.game old end p k value fresh;
    notes = λ _. told-noting board old new (word_of end state) value noting_is sits end p k (ap (word_of end) at);
    right = λ _. refl;
  };
  stop = tt;
}

-- both values of a pair were brought, one after the other
pub told-both : (board : GameTable) (old middle new : GameSeat) (state : ℕ) (pair : Bounds) (p : Placement) (k : ℕ) → Brings Lower board.game state pair.lower old middle → Brings Upper board.game state pair.upper middle new → SitsAt board old → state ≡ state_of (kinds_of board.game) p k
    → IsState board.game p k → (end : End) → IsNoLooser end (noted board.game new.view.notes end p k) (at end pair)
told-both board old middle new state pair p k one two sits at_state is Lower =
    let first = sits-kept board old middle one.keeps sits in
    tight-trans Lower _ _ _ (two.keeps.notes board.game first.game Lower p k is) (one.told p k at_state)
told-both board old middle new state pair p k one two sits at_state is Upper = two.told p k at_state

-- work in a block, and then more
pub works-trans : (game : Game) (block : ℕ) (a b c : GameSeat) → KeepsNotes a b → WorksIn game block a b → WorksIn game block b c → WorksIn game block a c
works-trans game block a b c kept one two =
    adds-trans (IsWorkIn game block a.view.base) a.view.work b.view.work c.view.work one
    (adds-weaker (IsWorkIn game block b.view.base) (IsWorkIn game block a.view.base) b.view.work c.view.work (λ work is. (is.0, is.1 ∙ kept.base)) two)

-- a value that was brought to a word of a state is work in the state's block
works-brought : (board : GameTable) (old new : GameSeat) (end : End) (state : ℕ) (value : ℤ) (p : Placement) (k : ℕ) → Brings end board.game state value old new → state ≡ state_of (kinds_of board.game) p k → IsState board.game p k → WorksIn board.game (rank_of p.other) old new
works-brought board old new end state value p k brings numbered is =
    adds-weaker (λ (work : Work). work ≡ record { word = word_of end state; base = old.view.base }) (IsWorkIn board.game (rank_of p.other) old.view.base) old.view.work new.view.work
    (λ work same. (
      record {
        end = end;
        position = p;
        kind = k;
        state = is;
        column = refl;
        number = ap (λ (w : Work). w.word) same ∙ ap (word_of end) numbered;
      },
      ap (λ (w : Work). w.base) same,
    )) brings.work

-- both values of a pair were brought, one after the other
pub works-both : (board : GameTable) (old middle new : GameSeat) (state : ℕ) (lower upper : ℤ) (p : Placement) (k : ℕ) → Brings Lower board.game state lower old middle → Brings Upper board.game state upper middle new → state ≡ state_of (kinds_of board.game) p k → IsState board.game p k → WorksIn board.game (rank_of p.other) old new
works-both board old middle new state lower upper p k one two numbered is =
    works-trans board.game (rank_of p.other) old middle new one.keeps (works-brought board old middle Lower state lower p k one numbered is) (works-brought board middle new Upper state upper p k two numbered is)
