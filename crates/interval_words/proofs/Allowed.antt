-- The steps of a board are allowed by its table's rule.
use Rattle.std.proofs.Common.{◌≡◌, ℕ, List, get_or, set, Some, refl, sym, subst, ◌∙◌, inl, inr}
use Rattle.std.proofs.lemmas.List.{set-get_or}
use mathlib.Core.Option.{some, none}
use lib.ListN.{get_elem?}
use Rattle.atomic_table.specs.Table.{State, Me, step, keeps, Allows, Splits, Joins}
use Rattle.atomic_table.proofs.Lists.{at_set}
use Rattle.position_rank.specs.Placement.{Placement}
use Rattle.directed_fixed.specs.declared.bounds.End.{End}
use Rattle.directed_fixed.specs.declared.bounds.End.TheVariants.{Lower, Upper}
use Rattle.turn_rule.specs.Games.{IsGame, kinds_of}
use Rattle.turn_rule.specs.Turn.{Words}
use Rattle.turn_rule.specs.States.{IsState, AreWithin}
use Rattle.turn_rule.specs.declared.game.Game.{Game}
use Rattle.interval_words.specs.declared.view.Note.{Note}
use Rattle.interval_words.specs.declared.view.View.{View}
use Rattle.interval_words.specs.Numbers.{state_of, word_of, value_of, tightest_word}
use Rattle.interval_words.specs.Core.{Core, IsKept, IsTrueOf, AreReached, words_in_core, noted, with_note, brought, without_work, without_hand, hired, settled, joined, spent}
use Rattle.interval_words.specs.Events.{IsLoose, IsRoundDone}
use Rattle.interval_words.specs.Seats.{AreKnown, Knows, WasHeld}
use Rattle.interval_words.specs.Rule.{core_of, Holds, ReadsWord, Tightens, SettlesWord}
use Rattle.interval_words.proofs.Ends.{tight-refl, tight-trans}
use Rattle.interval_words.proofs.TurnLaws.{all-rounds-within}
use Rattle.interval_words.proofs.Views.{All-at, contains-at, set-at, noted-opening}
use Rattle.interval_words.proofs.Steps.{tighter-trans, true-note, true-without_work, true-without_hand, true-hired, true-settled, true-joined, true-blank, kept-view, kept-new, kept-tightens}

abbrev St : Type 0
St = State (Unit {0}) View

abbrev Mine : Type 0
Mine = Me (Unit {0}) View

some-same : {X : Type 0} (x y : X) → Some x ≡ Some y → x ≡ y
some-same x y e = cc

-- a view names one game
pub one-game : (view : View) (game named : Game) → view.game ≡ Some game → view.game ≡ Some named → game ≡ named
one-game view game named a b = some-same game named (sym a ∙ b)

-- notes that are no tighter than the words after some rounds are within the bound, lower at most upper
pub known-notes : (game : Game) → IsGame game → (notes : List Note) → AreReached game (noted game notes) → AreKnown game notes
known-notes game is notes reached = record { within = within; reached = reached } where
  within : AreWithin game (noted game notes)
  within p k state =
      let low = noted-opening game notes Lower p k state in
      let high = noted-opening game notes Upper p k state in
      let from = reached.1 Lower p k state in
      let to = reached.1 Upper p k state in
      let round = all-rounds-within game is.stakes reached.0 p k state in
      record { from = low; in_order = tight-trans Upper _ _ _ (tight-trans Upper _ _ _ from round.in_order) to; to = high }

-- what is true of a core's words is known
pub knows-true : (core : Core) → IsKept core → (view : View) → IsTrueOf core.game (words_in_core core) view → view.game ≡ Some core.game → Knows view
knows-true core kept view is alive = record { notes = λ named e. subst (λ (g : Game). AreKnown g view.notes) (one-game view core.game named alive e) (known-notes core.game kept.game view.notes (kept.reached.0, tighter-trans core.game _ (words_in_core core) _ kept.reached.1 is.notes)) }

-- a load leaves the words as they are
same-words : (game : Game) (words : List ℕ) (views : List View) (i : ℕ) → IsKept (record { game = game; words = words; views = views }) → IsKept (record { game = game; words = set words i (get_or words i 0); views = views })
same-words game words views i kept = subst (λ (ws : List ℕ). IsKept (record { game = game; words = ws; views = views })) (sym (set-get_or words i 0)) kept

module _ (game : Game) (slots id : ℕ) (me : Mine) (alive : me.0.game ≡ Some game) where
  -- what a load finds the word held
  held : (s : St) → Holds game s → get_elem? s.views id ≡ some me.0 → (place : ℕ) → (named : Game) → me.0.game ≡ Some named → WasHeld named me.0 place (value_of (get_or s.words place 0))
  held s kept at place named names =
      subst (λ (g : Game). WasHeld g me.0 place (value_of (get_or s.words place 0))) (one-game me.0 game named alive names)
      (record { words = s.words; views = s.views; kept = kept; stands = contains-at s.views id me.0 at; held = refl })

  pub reads : (end : End) (p : Placement) (k : ℕ) → IsState game p k → Allows (Holds game) slots id me (word_of end (state_of (kinds_of game) p k)) (λ n. n) (ReadsWord (step slots (word_of end (state_of (kinds_of game) p k)) 0 0 none) me)
  reads end p k state s kept _ at _ =
      let place : ℕ = word_of end (state_of (kinds_of game) p k) in
      let core : Core = core_of game s in
      let is : IsTrueOf game (words_in_core core) me.0 = All-at (IsTrueOf game (words_in_core core)) s.views id me.0 kept.views at in
      let view : View = with_note me.0 place (words_in_core core end p k) in
      let true_of : IsTrueOf game (words_in_core core) view = true-note game (words_in_core core) me.0 end p k (words_in_core core end p k) is state (tight-refl end _) in
      (view, keeps, tt, same-words game s.words (set s.views id view) place (kept-view core id view kept true_of), (refl, knows-true core kept view true_of alive, held s kept at place))

  pub tightens : (end : End) (p : Placement) (k word : ℕ) → IsLoose game me.0 end p k (value_of word) → Allows (Holds game) slots id me (word_of end (state_of (kinds_of game) p k)) (λ n. tightest_word end n word) (Tightens (step slots (word_of end (state_of (kinds_of game) p k)) word 0 none) me)
  tightens end p k word loose s kept _ at _ =
      let place : ℕ = word_of end (state_of (kinds_of game) p k) in
      let core : Core = core_of game s in
      let is : IsTrueOf game (words_in_core core) me.0 = All-at (IsTrueOf game (words_in_core core)) s.views id me.0 kept.views at in
      let view : View = brought me.0 place (value_of word) in
      let more : Core = record core { words = set s.words place (tightest_word end (get_or s.words place 0) word); views = set s.views id view } in
      let after : IsKept more = kept-tightens core kept me.0 is end p k word loose id in
      let true_of : IsTrueOf game (words_in_core more) view = All-at (IsTrueOf game (words_in_core more)) (set s.views id view) id view after.views (set-at s.views id me.0 view at) in
      (view, keeps, tt, after, (refl, knows-true more after view true_of alive))

  pub settles : IsRoundDone game me.0 → Allows (Holds game) slots id me 0 (λ n. n) (SettlesWord (step slots 0 0 0 none) me)
  settles done s kept _ at _ =
      let core : Core = core_of game s in
      let is : IsTrueOf game (words_in_core core) me.0 = All-at (IsTrueOf game (words_in_core core)) s.views id me.0 kept.views at in
      let true_of : IsTrueOf game (words_in_core core) (settled me.0) = true-settled game (words_in_core core) me.0 is done in
      (settled me.0, keeps, tt, same-words game s.words (set s.views id (settled me.0)) 0 (kept-view core id (settled me.0) kept true_of), (refl, knows-true core kept (settled me.0) true_of alive))

pub splits : (game : Game) (id : ℕ) (view : View) → Splits (Holds game) id view view (without_work view)
splits game id view s kept at =
    let core : Core = core_of game s in
    let is : IsTrueOf game (words_in_core core) view = All-at (IsTrueOf game (words_in_core core)) s.views id view kept.views at in
    kept-new (record core { views = set s.views id view }) (without_work view) (kept-view core id view kept is) (true-without_work game (words_in_core core) view is)

pub hires : (game : Game) (id : ℕ) (view : View) → Splits (Holds game) id view (without_hand view) (hired view)
hires game id view s kept at =
    let core : Core = core_of game s in
    let is : IsTrueOf game (words_in_core core) view = All-at (IsTrueOf game (words_in_core core)) s.views id view kept.views at in
    kept-new (record core { views = set s.views id (without_hand view) }) (hired view) (kept-view core id (without_hand view) kept (true-without_hand game (words_in_core core) view is)) (true-hired game (words_in_core core) view is)

pub joins : (game : Game) (id : ℕ) (view : View) (other : ℕ) (those : View) → Joins (Holds game) id view other those (joined view those) spent
joins game id view other those s kept at differs there =
    let core : Core = core_of game s in
    let u : Words = words_in_core core in
    let is : IsTrueOf game u view = All-at (IsTrueOf game u) s.views id view kept.views at in
    let found : get_elem? s.views other ≡ some those = elim (at_set s.views id other (joined view those) those there) [ inl h ↦ absurd (differs h.0) | inr h ↦ h.1 ] in
    let those_true : IsTrueOf game u those = All-at (IsTrueOf game u) s.views other those kept.views found in
    let one : IsKept (record core { views = set s.views id (joined view those) }) = kept-view core id (joined view those) kept (true-joined game u view those is those_true) in
    kept-view (record core { views = set s.views id (joined view those) }) other spent one (true-blank game u kept.within spent (λ named e. absurd (cc)) refl refl)
