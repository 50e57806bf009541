-- Every event keeps a core.
use Rattle.std.proofs.Common.{◌≡◌, ◌<◌, ◌≤◌, ◌*◌, ℕ, zero, suc, ℤ, pos, neg_ℤ, ◌≤ℤ◌, List, [], ◌∷◌, length, get_or, Some, arith, refl, sym, ap, ◌∙◌, subst}
use Rattle.std.proofs.lemmas.Int.{ints}
use Rattle.std.proofs.lemmas.List.Elements.{All-nil}
use Rattle.directed_fixed.specs.declared.bounds.End.TheVariants.{Lower, Upper}
use Rattle.turn_rule.specs.Turn.{Words, turn, rounds, bound_words}
use Rattle.turn_rule.proofs.Within.{bound-positive}
use Rattle.cube_actions.specs.Stakes.{Terms, IsValid}
use Rattle.turn_rule.specs.States.{Agree, AreNoLooser}
use Rattle.interval_words.specs.Numbers.{AreBoundWords, state_of, states_in, words_of}
use Rattle.interval_words.proofs.Places.{state-in}
use Rattle.turn_rule.specs.declared.game.Game.{Game}
use Rattle.interval_words.specs.declared.view.View.{View}
use Rattle.interval_words.specs.Core.{Core, IsKept, IsFirstCore, IsTrueOf, AreInBound, words_in_core, first_view, without_work, without_hand, hired, settled, joined, spent}
use Rattle.interval_words.specs.Events.{BoardEvent, opens, reads, raises, lowers, settles, splits, hires, joins, view_at, IsAlive, IsAllowed, AreAllowed, core_after, core_after_all, with_view}
use Rattle.interval_words.proofs.Ends.{tight-refl}
use Rattle.interval_words.proofs.TurnLaws.{turns-tighten, rounds-more, rounds-turn, rounds-none}
use Rattle.interval_words.proofs.Steps.{tighter-trans, true-note, true-without_work, true-without_hand, true-hired, true-settled, true-joined, true-blank, kept-view, kept-new, kept-tightens}

some-names : {X : Type 0} (x y : X) → Some x ≡ Some y → x ≡ y
some-names x y e = cc

-- a view that isn't spent is one of the list
alive-in : (views : List View) (id : ℕ) (game : Game) → (get_or views id spent).game ≡ Some game → id < length views
alive-in [] id game alive = absurd (cc)
alive-in (view ∷ views) zero game alive = omega arith
alive-in (view ∷ views) (suc id) game alive = let inside : id < length views = alive-in views id game alive in omega arith

alive-true : (core : Core) → IsKept core → (id : ℕ) → IsAlive core id → IsTrueOf core.game (words_in_core core) (view_at core id)
alive-true core kept id alive = kept.views id spent (alive-in core.views id core.game alive)

blank-spent : (core : Core) → IsKept core → IsTrueOf core.game (words_in_core core) spent
blank-spent core kept = true-blank core.game (words_in_core core) kept.within spent (λ named e. absurd (cc)) refl refl

pub kept-event : (core : Core) (event : BoardEvent) → IsKept core → IsAllowed core event → IsKept (core_after core event)
kept-event core opens kept allowed = kept-new core (first_view core.game) kept (true-blank core.game (words_in_core core) kept.within (first_view core.game) (λ named e. some-names named core.game (sym e)) refl refl)
kept-event core (reads id end p k) kept allowed =
    kept-view core id _ kept (true-note core.game (words_in_core core) (view_at core id) end p k (words_in_core core end p k) (alive-true core kept id allowed.0) allowed.1 (tight-refl end (words_in_core core end p k)))
kept-event core (raises id p k word) kept allowed = kept-tightens core kept (view_at core id) (alive-true core kept id allowed.0) Lower p k word allowed.1 id
kept-event core (lowers id p k word) kept allowed = kept-tightens core kept (view_at core id) (alive-true core kept id allowed.0) Upper p k word allowed.1 id
kept-event core (settles id) kept allowed = kept-view core id (settled (view_at core id)) kept (true-settled core.game (words_in_core core) (view_at core id) (alive-true core kept id allowed.0) allowed.1)
kept-event core (splits id) kept allowed = kept-new core (without_work (view_at core id)) kept (true-without_work core.game (words_in_core core) (view_at core id) (alive-true core kept id allowed))
kept-event core (hires id) kept allowed =
    let is = alive-true core kept id allowed.0 in
    let one = kept-view core id (without_hand (view_at core id)) kept (true-without_hand core.game (words_in_core core) (view_at core id) is) in
    kept-new (with_view core id (without_hand (view_at core id))) (hired (view_at core id)) one (true-hired core.game (words_in_core core) (view_at core id) is)
kept-event core (joins id other) kept allowed =
    let both = true-joined core.game (words_in_core core) (view_at core id) (view_at core other) (alive-true core kept id allowed.0) (alive-true core kept other allowed.1) in
    let one = kept-view core id (joined (view_at core id) (view_at core other)) kept both in
    kept-view (with_view core id (joined (view_at core id) (view_at core other))) other spent one (blank-spent core kept)

pub kept-opening : (core : Core) → IsFirstCore core → IsKept core
kept-opening core start = record {
  game = start.game;
  long = start.long;
  reached = (0, subst (λ (v : Words). AreNoLooser core.game v (words_in_core core)) (sym (rounds-none core.game.stakes)) (λ end p k state. rw (start.words end p k state) (tight-refl end _)));
  within = bounded;
  consistent = consistent;
  views = rw start.views (All-nil (IsTrueOf core.game (words_in_core core)));
} where
  positive : pos 0 ≤ℤ core.game.stakes.bound
  positive = bound-positive core.game.stakes start.game.stakes

  bounded : AreInBound core.game (words_in_core core)
  bounded Lower p k state = rw (start.words Lower p k state) (record { from = omega (arith, ints, positive); to = omega (arith, ints, positive) })
  bounded Upper p k state = rw (start.words Upper p k state) (record { from = omega (arith, ints, positive); to = omega (arith, ints, positive) })

  closer : AreNoLooser core.game (words_in_core core) (bound_words core.game.stakes)
  closer end p k state = rw (start.words end p k state) (tight-refl end _)

  wider : AreNoLooser core.game (bound_words core.game.stakes) (words_in_core core)
  wider end p k state = rw (start.words end p k state) (tight-refl end _)

  first : AreNoLooser core.game (turn core.game.stakes (bound_words core.game.stakes)) (bound_words core.game.stakes)
  first = subst (λ (v : Words). AreNoLooser core.game (turn core.game.stakes v) v) (rounds-none core.game.stakes) (subst (λ (v : Words). AreNoLooser core.game v (rounds core.game.stakes 0)) (rounds-turn core.game.stakes 0) (rounds-more core.game start.game.stakes 0))

  consistent : AreNoLooser core.game (turn core.game.stakes (words_in_core core)) (words_in_core core)
  consistent =
      tighter-trans core.game _ (turn core.game.stakes (bound_words core.game.stakes)) _ (turns-tighten core.game start.game.stakes (words_in_core core) (bound_words core.game.stakes) closer)
      (tighter-trans core.game _ (bound_words core.game.stakes) _ first wider)

pub kept-events : (core : Core) (events : List BoardEvent) → IsKept core → AreAllowed core events → IsKept (core_after_all core events)
kept-events core [] kept allowed = kept
kept-events core (event ∷ events) kept allowed = kept-events (core_after core event) events (kept-event core event kept allowed.0) allowed.1

-- a new board
module _ (checkers : ℕ) (stakes : Terms) (low : 1 ≤ checkers) (high : checkers ≤ 3) (valid : IsValid stakes) where
  abbrev game : Game
  game = record { checkers = checkers; stakes = stakes }

  pub kept-new-board : (list : List ℕ) (bound : ℤ) (states : ℕ) → bound ≡ stakes.bound → states ≡ states_in checkers (length stakes.kinds) → AreBoundWords bound states list → IsKept (record { game = game; words = list; views = first_view game ∷ [] })
  kept-new-board list bound states is_bound many words = kept-event (record { game = game; words = list; views = [] }) opens (kept-opening (record { game = game; words = list; views = [] }) opening_core) tt where
    agree : Agree game (words_of (length stakes.kinds) list) (bound_words stakes)
    agree Lower p k state = words.lower (state_of (length stakes.kinds) p k) (subst (λ (n : ℕ). state_of (length stakes.kinds) p k < n) (sym many) (state-in checkers (length stakes.kinds) p k state)) ∙ ap neg_ℤ is_bound
    agree Upper p k state = words.upper (state_of (length stakes.kinds) p k) (subst (λ (n : ℕ). state_of (length stakes.kinds) p k < n) (sym many) (state-in checkers (length stakes.kinds) p k state)) ∙ is_bound

    opening_core : IsFirstCore (record { game = game; words = list; views = [] })
    opening_core = record {
      game = record { low = low; high = high; stakes = valid };
      long = words.long ∙ ap (λ (n : ℕ). 2 * n) many;
      words = agree;
      views = refl;
    }
