-- What each step keeps.
use Rattle.std.proofs.Common.{◌≡◌, ℕ, suc, ℤ, List, [], ◌∷◌, ◌++◌, max, get_or, set, Some, arith, sym, subst, ◌∙◌, inl, inr}
use Rattle.std.proofs.lemmas.Bool.{cases_lt}
use Rattle.std.proofs.lemmas.List.{length-set}
use Rattle.std.proofs.lemmas.List.Elements.{All-set, All-push, All-weaker}
use Rattle.position_rank.specs.Placement.{Placement}
use Rattle.directed_fixed.specs.declared.bounds.End.{End}
use Rattle.directed_fixed.specs.declared.bounds.End.TheVariants.{Lower, Upper}
use Rattle.directed_fixed.specs.Bounds.{IsNoLooser, IsWithinUnits}
use Rattle.turn_rule.specs.Games.{kinds_of}
use Rattle.turn_rule.specs.Turn.{Words, turn, rounds, bound_words}
use Rattle.turn_rule.specs.States.{IsState, AreNoLooser}
use Rattle.turn_rule.specs.declared.game.Game.{Game}
use Rattle.interval_words.specs.declared.view.Note.{Note}
use Rattle.interval_words.specs.declared.view.View.{View}
use Rattle.interval_words.specs.Numbers.{state_of, word_of, words_of, value_of, tightest, tightest_word}
use Rattle.interval_words.specs.Core.{Core, IsKept, IsTrueOf, AreInBound, AreReached, words_in_core, noted, known, with_note, brought, without_work, without_hand, hired, settled, joined}
use Rattle.interval_words.specs.Events.{IsLoose, IsRoundDone}
use Rattle.interval_words.proofs.Ends.{tight-refl, tight-trans, tight-tightest, tightest-left, tightest-right, within-tightest, value_of-tightest}
use Rattle.interval_words.proofs.TurnLaws.{tight-words-trans, turns-tighten, rounds-more, rounds-turn, rounds-none}
use Rattle.interval_words.proofs.Places.{by_words, written}
use Rattle.interval_words.proofs.Views.{noted-each, noted-append, noted-opening}

module _ (game : Game) where
  pub tighter-trans : (u v w : Words) → AreNoLooser game u v → AreNoLooser game v w → AreNoLooser game u w
  tighter-trans = tight-words-trans game

  -- words within the bound are at least as tight as what is known at the start
  pub tighter-opening : (u : Words) → AreInBound game u → AreNoLooser game u (bound_words game.stakes)
  tighter-opening u within Lower p k state = (within Lower p k state).from
  tighter-opening u within Upper p k state = (within Upper p k state).to

  module _ (u : Words) where
    -- tighter words leave a view true
    pub true-tighter : (v : Words) → AreNoLooser game v u → (view : View) → IsTrueOf game u view → IsTrueOf game v view
    true-tighter v tight view is = record { names = is.names; notes = tighter-trans v u _ tight is.notes; base = tighter-trans v u _ tight is.base }

    -- a view of what a word holds
    pub true-note : (view : View) (end : End) (p : Placement) (k : ℕ) (value : ℤ) → IsTrueOf game u view → IsState game p k → IsNoLooser end (u end p k) value → IsTrueOf game u (with_note view (word_of end (state_of (kinds_of game) p k)) value)
    true-note view end p k value is state tight = record {
      names = is.names;
      notes = noted-each game value view.notes end p k state (λ d q l z. IsNoLooser d (u d q l) z) (λ h. tight-tightest end value (noted game view.notes end p k) (u end p k) tight h) is.notes;
      base = is.base;
    }

    -- a view that brought a word a value tells what one that noted it tells
    pub true-brought : (view : View) (word : ℕ) (value : ℤ) → IsTrueOf game u (with_note view word value) → IsTrueOf game u (brought view word value)
    true-brought view word value is = record { names = is.names; notes = is.notes; base = is.base }

    pub true-without_work : (view : View) → IsTrueOf game u view → IsTrueOf game u (without_work view)
    true-without_work view is = record { names = is.names; notes = is.notes; base = is.base }

    pub true-without_hand : (view : View) → IsTrueOf game u view → IsTrueOf game u (without_hand view)
    true-without_hand view is = record { names = is.names; notes = is.notes; base = is.base }

    pub true-hired : (view : View) → IsTrueOf game u view → IsTrueOf game u (hired view)
    true-hired view is = record { names = is.names; notes = is.notes; base = is.base }

    pub true-settled : (view : View) → IsTrueOf game u view → IsRoundDone game view → IsTrueOf game u (settled view)
    true-settled view is done = record {
      names = is.names;
      notes = λ end p k state. tight-trans end _ _ _ (is.notes end p k state) (noted-opening game view.notes end p k state);
      base = tighter-trans u (known game view) _ (λ end p k state. tight-tightest end _ _ _ (is.notes end p k state) (is.base end p k state)) done;
    }

    larger : (a b : ℕ) (P : ℕ → Type 0) → P a → P b → P (max a b)
    larger a b P one two = elim (cases_lt a b) [
      | inl less ↦ (let is : b ≡ max a b = omega arith in subst P is two)
      | inr more ↦ (let is : a ≡ max a b = omega arith in subst P is one)
    ]

    pub true-joined : (view other : View) → IsTrueOf game u view → IsTrueOf game u other → IsTrueOf game u (joined view other)
    true-joined view other is those = record {
      names = is.names;
      notes = noted-append game u view.notes other.notes is.notes those.notes;
      base = larger view.base other.base (λ (r : ℕ). AreNoLooser game u (rounds game.stakes r)) is.base those.base;
    }

    -- a view that tells only the bound
    pub true-blank : AreInBound game u → (view : View) → ((named : Game) → view.game ≡ Some named → named ≡ game) → view.base ≡ 0 → view.notes ≡ [] → IsTrueOf game u view
    true-blank within view names base notes = record {
      names = names;
      notes = subst (λ (ns : List Note). AreNoLooser game u (noted game ns)) (sym notes) (tighter-opening u within);
      base = subst (λ (r : ℕ). AreNoLooser game u (rounds game.stakes r)) (sym base) (subst (λ (v : Words). AreNoLooser game u v) (sym (rounds-none game.stakes)) (tighter-opening u within));
    }

-- a view changes
pub kept-view : (core : Core) (id : ℕ) (view : View) → IsKept core → IsTrueOf core.game (words_in_core core) view → IsKept (record core { views = set core.views id view })
kept-view core id view kept is = record {
  game = kept.game;
  long = kept.long;
  reached = kept.reached;
  within = kept.within;
  consistent = kept.consistent;
  views = All-set (IsTrueOf core.game (words_in_core core)) core.views id view is kept.views;
}

-- there is a new view
pub kept-new : (core : Core) (view : View) → IsKept core → IsTrueOf core.game (words_in_core core) view → IsKept (record core { views = core.views ++ view ∷ [] })
kept-new core view kept is = record {
  game = kept.game;
  long = kept.long;
  reached = kept.reached;
  within = kept.within;
  consistent = kept.consistent;
  views = All-push (IsTrueOf core.game (words_in_core core)) core.views view kept.views is;
}

-- a word becomes the tighter of itself and another, which is no tighter than the turn over a view's notes
module _ (core : Core) (kept : IsKept core) (view : View) (true_of : IsTrueOf core.game (words_in_core core) view) (end : End) (p : Placement) (k word : ℕ) (loose : IsLoose core.game view end p k (value_of word)) where
  -- the words as they were, the list of words after the step, and the words after it
  abbrev was : Words
  was = words_in_core core

  abbrev place : ℕ
  place = word_of end (state_of (kinds_of core.game) p k)

  abbrev now : List ℕ
  now = set core.words place (tightest_word end (get_or core.words place 0) word)

  abbrev is : Words
  is = words_of (kinds_of core.game) now

  each : (P : End → Placement → ℕ → ℤ → Type 0) → P end p k (tightest end (was end p k) (value_of word)) → ((d : End) (q : Placement) (l : ℕ) → IsState core.game q l → P d q l (was d q l)) → (d : End) (q : Placement) (l : ℕ) → IsState core.game q l → P d q l (is d q l)
  each P here there =
      by_words core.game.checkers (kinds_of core.game) core.words kept.long end p k loose.state (tightest_word end (get_or core.words place 0) word) P
      (subst (P end p k) (sym (value_of-tightest end (get_or core.words place 0) word)) here) there

  tighter : AreNoLooser core.game is was
  tighter = each (λ d q l z. IsNoLooser d z (was d q l)) (tightest-left end (was end p k) (value_of word)) (λ d q l state. tight-refl d (was d q l))

  -- the turn over the words as they were is at least as tight as the value
  turn-before : IsNoLooser end (turn core.game.stakes was end p k) (value_of word)
  turn-before = tight-trans end _ _ _ (turns-tighten core.game kept.game.stakes was (noted core.game view.notes) true_of.notes end p k loose.state) loose.loose

  reached : AreReached core.game is
  reached =
      let r = kept.reached.0 in
      let next : AreNoLooser core.game (rounds core.game.stakes (suc r)) was = tighter-trans core.game _ (rounds core.game.stakes r) was (rounds-more core.game kept.game.stakes r) kept.reached.1 in
      let over : AreNoLooser core.game (turn core.game.stakes (rounds core.game.stakes r)) (turn core.game.stakes was) = turns-tighten core.game kept.game.stakes (rounds core.game.stakes r) was kept.reached.1 in
      let turned : IsNoLooser end (rounds core.game.stakes (suc r) end p k) (value_of word) = subst (λ (u : Words). IsNoLooser end (u end p k) (value_of word)) (sym (rounds-turn core.game.stakes r)) (tight-trans end _ _ _ (over end p k loose.state) turn-before) in
      (suc r, each (λ d q l z. IsNoLooser d (rounds core.game.stakes (suc r) d q l) z) (tight-tightest end (was end p k) (value_of word) _ (next end p k loose.state) turned) next)

  within : AreInBound core.game is
  within = each (λ d q l z. IsWithinUnits core.game.stakes.bound z) (within-tightest end core.game.stakes.bound (was end p k) (value_of word) (kept.within end p k loose.state) loose.within) kept.within

  consistent : AreNoLooser core.game (turn core.game.stakes is) is
  consistent =
      let more : AreNoLooser core.game (turn core.game.stakes is) (turn core.game.stakes was) = turns-tighten core.game kept.game.stakes is was tighter in
      let old : AreNoLooser core.game (turn core.game.stakes is) was = tighter-trans core.game _ (turn core.game.stakes was) was more kept.consistent in
      each (λ d q l z. IsNoLooser d (turn core.game.stakes is d q l) z) (tight-tightest end (was end p k) (value_of word) _ (old end p k loose.state) (tight-trans end _ _ _ (more end p k loose.state) turn-before)) old

  reads-back : IsNoLooser end (is end p k) (value_of word)
  reads-back =
      subst (λ (z : ℤ). IsNoLooser end z (value_of word)) (sym (written core.game.checkers (kinds_of core.game) core.words kept.long end p k loose.state (tightest_word end (get_or core.words place 0) word) ∙ value_of-tightest end (get_or core.words place 0) word)) (tightest-right end (was end p k) (value_of word))

  pub kept-tightens : (id : ℕ) → IsKept (record core { words = now; views = set core.views id (brought view place (value_of word)) })
  kept-tightens id = record {
    game = kept.game;
    long = length-set core.words place (tightest_word end (get_or core.words place 0) word) ∙ kept.long;
    reached = reached;
    within = within;
    consistent = consistent;
    views =
        All-set (IsTrueOf core.game is) core.views id (brought view place (value_of word))
        (true-brought core.game is view place (value_of word) (true-note core.game is view end p k (value_of word) (true-tighter core.game was is tighter view true_of) loose.state reads-back))
        (All-weaker (IsTrueOf core.game was) (IsTrueOf core.game is) (true-tighter core.game was is tighter) core.views kept.views);
  }
