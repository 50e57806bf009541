-- Swept blocks stay swept, and cover all states.
use Rattle.std.proofs.Common.{◌≡◌, zero, suc, ◌+◌, ◌<◌, ◌≤◌, ◌++◌, ℕ, ℤ, List, [], ◌∷◌, arith, refl, ap, subst, sym, ◌∙◌}
use Rattle.position_rank.specs.Placement.{Placement}
use Rattle.position_rank.specs.Ranks.{layouts, rank_of}
use Rattle.position_rank.proofs.RankLaws.{layouts-one, layouts-two, layouts-three, rank-below}
use Rattle.directed_fixed.specs.declared.bounds.End.{End}
use Rattle.directed_fixed.specs.Bounds.{IsNoLooser}
use Rattle.turn_rule.specs.States.{AreNoLooser}
use Rattle.turn_rule.specs.Turn.{rounds}
use Rattle.turn_rule.specs.declared.game.Game.{Game}
use Rattle.interval_words.specs.declared.view.Note.{Note}
use Rattle.interval_words.specs.declared.view.View.{View}
use Rattle.interval_words.specs.Numbers.{tightest}
use Rattle.interval_words.specs.Core.{noted, known}
use Rattle.interval_words.specs.Events.{IsRoundDone}
use Rattle.interval_words.proofs.Ends.{tight-refl, tight-trans, tightest-left, tightest-right, tight-tightest}
use Rattle.interval_words.proofs.Views.{noted-cases, noted-more, noted-opening}
use Rattle.worker_sweep.specs.Blocks.{blocks, IsSwept}

-- there are layouts of one to three checkers
pub some-blocks : (checkers : ℕ) → 1 ≤ checkers → checkers ≤ 3 → 0 < blocks checkers
some-blocks zero low high = absurd (omega arith)
some-blocks (suc zero) low high = rw layouts-one (omega arith)
some-blocks (suc (suc zero)) low high = rw layouts-two (omega arith)
some-blocks (suc (suc (suc zero))) low high = rw layouts-three (omega arith)
some-blocks (suc (suc (suc (suc n)))) low high = absurd (omega arith)

-- where all blocks are swept, the round is done
pub round-done : (game : Game) (view : View) → ((block : ℕ) → block < blocks game.checkers → IsSwept game view block) → IsRoundDone game view
round-done game view all end p k state =
    let below : rank_of p.other < layouts game.checkers = omega (arith, rank-below p.other state.position.other, ap (λ (n : ℕ). layouts n) (sym state.position.same ∙ state.many)) in
    all (rank_of p.other) below end p k state refl

-- the tighter of tighter values
tightest-mono : (end : End) (a b c : ℤ) → IsNoLooser end b c → IsNoLooser end (tightest end a b) (tightest end a c)
tightest-mono end a b c h = tight-tightest end a c (tightest end a b) (tightest-left end a b) (tight-trans end _ _ _ (tightest-right end a b) h)

tightest-left-mono : (end : End) (a b c : ℤ) → IsNoLooser end a b → IsNoLooser end (tightest end a c) (tightest end b c)
tightest-left-mono end a b c h = tight-tightest end b c (tightest end a c) (tight-trans end _ _ _ (tightest-left end a c) h) (tightest-right end a c)

module _ (game : Game) where
  -- notes of two lists tell at least what the first tells, and what the second does
  pub append-left : (ms ns : List Note) → AreNoLooser game (noted game (ms ++ ns)) (noted game ms)
  append-left [] ns end p k state = noted-opening game ns end p k state
  append-left (m ∷ ms) ns end p k state =
      noted-cases game m (ms ++ ns) end p k (λ z. IsNoLooser end z (noted game (m ∷ ms) end p k))
      (λ hit. noted-cases game m ms end p k (IsNoLooser end (tightest end m.value (noted game (ms ++ ns) end p k))) (λ _. tightest-mono end m.value _ _ (append-left ms ns end p k state)) (λ miss. absurd (miss hit)))
      (λ miss. noted-cases game m ms end p k (IsNoLooser end (noted game (ms ++ ns) end p k)) (λ hit. absurd (miss hit)) (λ _. append-left ms ns end p k state))

  pub append-right : (ms ns : List Note) → AreNoLooser game (noted game (ms ++ ns)) (noted game ns)
  append-right [] ns end p k state = tight-refl end (noted game ns end p k)
  append-right (m ∷ ms) ns end p k state = tight-trans end _ _ _ (noted-more game m (ms ++ ns) end p k state) (append-right ms ns end p k state)

  -- with tighter notes and the same base, what is swept stays swept
  pub swept-still : (a b : View) (block : ℕ) → b.base ≡ a.base → AreNoLooser game (noted game b.notes) (noted game a.notes) → IsSwept game a block → IsSwept game b block
  swept-still a b block same tighter swept end p k state here =
      subst (λ (n : ℕ). IsNoLooser end (tightest end (noted game b.notes end p k) (rounds game.stakes n end p k)) (rounds game.stakes (n + 1) end p k)) (sym same)
      (tight-trans end _ _ _ (tightest-left-mono end _ _ _ (tighter end p k state)) (swept end p k state here))

  -- where notes alone tell it, a state is swept
  pub swept-noted : (view : View) (end : End) (p : Placement) (k : ℕ) → IsNoLooser end (noted game view.notes end p k) (rounds game.stakes (view.base + 1) end p k) → IsNoLooser end (known game view end p k) (rounds game.stakes (view.base + 1) end p k)
  swept-noted view end p k noted_is = tight-trans end _ _ _ (tightest-left end (noted game view.notes end p k) (rounds game.stakes view.base end p k)) noted_is
