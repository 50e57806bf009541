-- The words of a board at its end.
use Rattle.std.proofs.Common.{◌≡◌, ℕ, List, sym, ap, subst, ◌∙◌}
use Rattle.atomic_table.specs.Table.{Me, Final, Seen}
use Rattle.directed_fixed.specs.declared.bounds.End.TheVariants.{Lower, Upper}
use Rattle.directed_fixed.specs.Bounds.{IsWithin}
use Rattle.turn_rule.specs.Games.{kinds_of}
use Rattle.turn_rule.specs.Turn.{rounds}
use Rattle.turn_rule.specs.States.{AreWithin, AreNoLooser}
use Rattle.turn_rule.specs.declared.game.Game.{Game}
use Rattle.interval_words.specs.declared.view.View.{View}
use Rattle.interval_words.specs.Core.{Core, IsKept, IsTrueOf, words_in_core, noted}
use Rattle.interval_words.specs.Numbers.{words_of}
use Rattle.interval_words.specs.Rule.{core_of, Holds}
use Rattle.interval_words.specs.WordLists.{AreRight, AreClosed, pair_at}
use Rattle.interval_words.proofs.Ends.{tight-trans}
use Rattle.interval_words.proofs.TurnLaws.{all-rounds-within, reached-sound}
use Rattle.interval_words.proofs.Views.{All-at}
use Rattle.interval_words.proofs.EachNumber.{each-number}

-- the words of a core are within the bound, lower at most upper
words-within : (core : Core) → IsKept core → AreWithin core.game (words_in_core core)
words-within core kept p k state =
    let round = all-rounds-within core.game kept.game.stakes kept.reached.0 p k state in
    record {
      from = (kept.within Lower p k state).from;
      in_order = tight-trans Upper _ _ _ (tight-trans Upper _ _ _ (kept.reached.1 Lower p k state) round.in_order) (kept.reached.1 Upper p k state);
      to = (kept.within Upper p k state).to;
    }

module _ (core : Core) (kept : IsKept core) (r : ℕ) where
  right-at-end : AreRight (record { game = core.game; rounds = r; list = core.words })
  right-at-end = record {
    long = kept.long;
    within = λ state below.
        let is = each-number core.game.checkers (kinds_of core.game) state kept.game.low kept.game.high kept.game.stakes.some below in
        subst (λ (n : ℕ). IsWithin core.game.stakes.bound (pair_at core.words n)) (sym is.number) (words-within core kept is.position is.kind is.is);
  }

  closed-at-end : AreNoLooser core.game (words_in_core core) (rounds core.game.stakes r) → AreClosed (record { game = core.game; rounds = r; list = core.words })
  closed-at-end tight = record {
    sound = reached-sound core.game kept.game.stakes kept.reached.0 (words_in_core core) kept.reached.1;
    consistent = kept.consistent;
    tight = tight;
  }

module _ (key game : Game) (same : key ≡ game) (id : ℕ) (me : Me (Unit {0}) View) (view : View) (mine : me.0 ≡ view) (r : ℕ) (base : r ≡ view.base) (words list : List ℕ) (slots : List (Unit {0})) (end : Final (Seen (Holds key) id me.0) words slots) (copied : list ≡ words) where
  core : Core
  core = core_of game end.0

  kept : IsKept core
  unfolding core
  kept = subst (λ (g : Game). Holds g end.0) same end.1.0

  listed : end.0.words ≡ list
  listed = end.2 ∙ sym copied

  pub right-of-last : AreRight (record { game = game; rounds = r; list = list })
  unfolding core
  right-of-last = subst (λ (xs : List ℕ). AreRight (record { game = game; rounds = r; list = xs })) listed (right-at-end core kept r)

  pub closed-of-last : AreClosed (record { game = game; rounds = r; list = list })
  unfolding core
  closed-of-last =
      let is = All-at (IsTrueOf game (words_in_core core)) end.0.views id me.0 kept.views end.1.1 in
      let bases : me.0.base ≡ r = ap (λ (v : View). v.base) mine ∙ sym base in
      let tight : AreNoLooser game (words_in_core core) (rounds game.stakes r) = subst (λ (n : ℕ). AreNoLooser game (words_in_core core) (rounds game.stakes n)) bases is.base in
      subst (λ (xs : List ℕ). AreClosed (record { game = game; rounds = r; list = xs })) listed (closed-at-end core kept r tight)

  -- the words at the end are at least as tight as all that was noted
  pub noted-of-last : AreNoLooser game (words_of (kinds_of game) list) (noted game view.notes)
  unfolding core
  noted-of-last =
      let is = All-at (IsTrueOf game (words_in_core core)) end.0.views id me.0 kept.views end.1.1 in
      let mine_notes : AreNoLooser game (words_in_core core) (noted game view.notes) = subst (λ (v : View). AreNoLooser game (words_in_core core) (noted game v.notes)) mine is.notes in
      subst (λ (xs : List ℕ). AreNoLooser game (words_of (kinds_of game) xs) (noted game view.notes)) listed mine_notes
