-- A seat after one note more, and after a value was brought to a word.
use Rattle.std.proofs.Common.{◌≡◌, ◌<◌, arith, ℕ, ℤ, List, [], ◌∷◌, ◌++◌, append_assoc, ap, refl, sym, subst, ◌∙◌}
use Rattle.std.proofs.lemmas.List.Elements.{All-nil, All-cons, All-append, All-weaker}
use Rattle.position_rank.specs.Placement.{Placement}
use Rattle.directed_fixed.specs.declared.bounds.End.{End}
use Rattle.directed_fixed.specs.Bounds.{IsNoLooser, IsWithinUnits}
use Rattle.turn_rule.specs.Games.{kinds_of}
use Rattle.turn_rule.specs.Turn.{turn, rounds}
use Rattle.turn_rule.specs.States.{IsState, AreWithin, AreNoLooser}
use Rattle.cube_actions.specs.Stakes.{IsValid}
use Rattle.interval_words.specs.Numbers.{state_of, word_of}
use Rattle.interval_words.specs.declared.view.Work.{Work}
use Rattle.interval_words.specs.Core.{noted}
use Rattle.interval_words.specs.Seats.{GameTable, GameSeat, SitsAt, KeepsNotes, AddsWork, Brings, MayTighten, noting, bringing}
use Rattle.interval_words.proofs.Ends.{tight-refl, tight-trans}
use Rattle.interval_words.proofs.Views.{noted-more, noted-own}
use Rattle.interval_words.proofs.TurnLaws.{turns-tighten}

pub keeps-refl : (seat : GameSeat) → KeepsNotes seat seat
keeps-refl seat = record { table = refl; game = refl; base = refl; hands = refl; notes = λ game names end p k state. tight-refl end (noted game seat.view.notes end p k) }

pub keeps-trans : (a b c : GameSeat) → KeepsNotes a b → KeepsNotes b c → KeepsNotes a c
keeps-trans a b c one two = record {
  table = two.table ∙ one.table;
  game = two.game ∙ one.game;
  base = two.base ∙ one.base;
  hands = two.hands ∙ one.hands;
  notes = λ game names end p k state. tight-trans end _ _ _ (two.notes game (one.game ∙ names) end p k state) (one.notes game names end p k state);
}

-- no work, more work, and work that is also otherwise
pub adds-none : (Such : Work → Type 0) (old new : List Work) → new ≡ old → AddsWork Such old new
adds-none Such old new same = record { added = []; front = same; each = All-nil Such }

pub adds-trans : (Such : Work → Type 0) (a b c : List Work) → AddsWork Such a b → AddsWork Such b c → AddsWork Such a c
adds-trans Such a b c one two = record {
  added = two.added ++ one.added;
  front = two.front ∙ (ap (λ (works : List Work). two.added ++ works) one.front ∙ sym (append_assoc two.added one.added a));
  each = All-append Such two.added one.added two.each one.each;
}

pub adds-weaker : (Such Also : Work → Type 0) (old new : List Work) → ((work : Work) → Such work → Also work) → AddsWork Such old new → AddsWork Also old new
adds-weaker Such Also old new so adds = record { added = adds.added; front = adds.front; each = All-weaker Such Also so adds.added adds.each }

pub sits-kept : (board : GameTable) (old new : GameSeat) → KeepsNotes old new → SitsAt board old → SitsAt board new
sits-kept board old new kept sits = record { table = kept.table ∙ sits.table; game = kept.game ∙ sits.game }

-- the base stays, and so do the words after its rounds
pub floor-kept : (board : GameTable) (old new : GameSeat) → KeepsNotes old new → AreWithin board.game (rounds board.game.stakes old.view.base) → AreWithin board.game (rounds board.game.stakes new.view.base)
floor-kept board old new kept within = subst (λ (n : ℕ). AreWithin board.game (rounds board.game.stakes n)) (sym kept.base) within

module _ (board : GameTable) (old new : GameSeat) (word : ℕ) (value : ℤ) (noting_is : new ≡ noting old word value) (sits : SitsAt board old) where
  pub keeps-noting : KeepsNotes old new
  keeps-noting = record {
    table = ap (λ s. s.table) noting_is;
    game = ap (λ s. s.view.game) noting_is;
    base = ap (λ s. s.view.base) noting_is;
    hands = ap (λ s. s.view.hands) noting_is;
    notes = λ game names. subst (λ (s : GameSeat). AreNoLooser game (noted game s.view.notes) (noted game old.view.notes)) (sym noting_is) (noted-more game (record { word = word; value = value }) old.view.notes);
  }

  pub sits-noting : SitsAt board new
  sits-noting = sits-kept board old new keeps-noting sits

  pub floor-noting : AreWithin board.game (rounds board.game.stakes old.view.base) → AreWithin board.game (rounds board.game.stakes new.view.base)
  floor-noting = floor-kept board old new keeps-noting

  -- what was noted of a state is told
  pub told-noting : (end : End) (p : Placement) (k : ℕ) → word ≡ word_of end (state_of (kinds_of board.game) p k) → IsNoLooser end (noted board.game new.view.notes end p k) value
  told-noting end p k at =
      subst (λ (s : GameSeat). IsNoLooser end (noted board.game s.view.notes end p k) value) (sym noting_is)
      (subst (λ (w : ℕ). IsNoLooser end (noted board.game (record { word = w; value = value } ∷ old.view.notes) end p k) value) (sym at) (noted-own board.game value old.view.notes end p k))

-- a seat that brought a value keeps its notes, and knows the value
module _ (board : GameTable) (old new : GameSeat) (word : ℕ) (value : ℤ) (brings : new ≡ bringing old word value) (sits : SitsAt board old) where
  pub keeps-bringing : KeepsNotes old new
  keeps-bringing =
      let kept = keeps-noting board old (noting old word value) word value refl sits in
      subst (λ (s : GameSeat). KeepsNotes old s) (sym brings) (record { table = kept.table; game = kept.game; base = kept.base; hands = kept.hands; notes = kept.notes })

  pub told-bringing : (end : End) (p : Placement) (k : ℕ) → word ≡ word_of end (state_of (kinds_of board.game) p k) → IsNoLooser end (noted board.game new.view.notes end p k) value
  told-bringing end p k at =
      subst (λ (s : GameSeat). IsNoLooser end (noted board.game s.view.notes end p k) value) (sym brings)
      (told-noting board old (noting old word value) word value refl sits end p k at)

-- a value that is loose enough may be brought, also after other notes
pub may-tighten : (board : GameTable) (old new : GameSeat) (state : ℕ) (value : ℤ) (end : End) (p : Placement) (k : ℕ) → IsValid board.game.stakes → KeepsNotes old new → SitsAt board old → state ≡ state_of (kinds_of board.game) p k
    → IsState board.game p k → IsWithinUnits board.game.stakes.bound value → IsNoLooser end (turn board.game.stakes (noted board.game old.view.notes) end p k) value → 0 < old.view.hands → MayTighten end board.game new.view state value
may-tighten board old new state value end p k valid kept sits at is within loose hand = record {
  position = p;
  kind = k;
  number = at;
  loose = record {
    state = is;
    within = within;
    loose = tight-trans end _ _ _ (turns-tighten board.game valid (noted board.game new.view.notes) (noted board.game old.view.notes) (kept.notes board.game sits.game) end p k is) loose;
    hand = omega (arith, kept.hands, hand);
  };
}

-- a word that was read to be as tight already needs no more
pub brings-read : (board : GameTable) (old new : GameSeat) (end : End) (state : ℕ) (found value : ℤ) → new ≡ noting old (word_of end state) found → SitsAt board old → IsNoLooser end found value → Brings end board.game state value old new
brings-read board old new end state found value noting_is sits tight = record {
  keeps = keeps-noting board old new (word_of end state) found noting_is sits;
  told = λ p k at. tight-trans end _ _ _ (told-noting board old new (word_of end state) found noting_is sits end p k (ap (word_of end) at)) tight;
  work = adds-none (λ (work : Work). work ≡ record { word = word_of end state; base = old.view.base }) old.view.work new.view.work (ap (λ (s : GameSeat). s.view.work) noting_is);
}

-- a value was brought after a word was read
pub brings-after : (board : GameTable) (old middle new : GameSeat) (end : End) (state : ℕ) (found value : ℤ) → middle ≡ noting old (word_of end state) found → new ≡ bringing middle (word_of end state) value → SitsAt board old → Brings end board.game state value old new
brings-after board old middle new end state found value noting_is bringing_is sits =
    let kept = keeps-noting board old middle (word_of end state) found noting_is sits in
    let first = sits-kept board old middle kept sits in
    record {
      keeps = keeps-trans old middle new kept (keeps-bringing board middle new (word_of end state) value bringing_is first);
      told = λ p k at. told-bringing board middle new (word_of end state) value bringing_is first end p k (ap (word_of end) at);
      work = record {
        added = record { word = word_of end state; base = old.view.base } ∷ [];
        front = ap (λ (s : GameSeat). s.view.work) bringing_is ∙ (λ i. record { word = word_of end state; base = (noting_is i).view.base } ∷ (noting_is i).view.work);
        each = All-cons (λ (work : Work). work ≡ record { word = word_of end state; base = old.view.base }) (record { word = word_of end state; base = old.view.base }) [] refl (All-nil (λ (work : Work). work ≡ record { word = word_of end state; base = old.view.base }));
      };
    }
