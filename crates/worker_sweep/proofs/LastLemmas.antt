-- A last round, over the notes and over the words.
use Rattle.std.proofs.Common.{◌≡◌, ℕ, ℤ, Option, None, Some, IsSomeAnd, List, inl, inr, subst, sym, arith}
use Rattle.std.proofs.lemmas.Bool.{cases_lt}
use Rattle.turn_rule.specs.Turn.{Words}
use Rattle.turn_rule.specs.States.{AreNoLooser}
use Rattle.turn_rule.specs.declared.game.Game.{Game}
use Rattle.interval_words.specs.declared.view.Note.{Note}
use Rattle.interval_words.specs.Core.{noted}
use Rattle.interval_words.specs.WordLists.{AreNarrow, WordList, words_in_list}
use Rattle.interval_words.proofs.Narrow.{narrow-tighter}
use Rattle.worker_sweep.specs.LastRounds.{IsLastRound}

-- with no goal, the last round is the last that was asked for
pub last-asked : (game : Game) (asked : ℕ) (words : Words) (round : ℕ) → IsLastRound game None asked words round → round ≡ asked
last-asked game asked words round last = elim (cases_lt round asked) [
  | inl fewer ↦ absurd (last.narrow fewer)
  | inr all ↦ omega (arith, all, last.most)
]

narrow-goal : (game : Game) (goal : Option ℤ) (u v : Words) → AreNoLooser game u v → IsSomeAnd goal (AreNarrow game v) → IsSomeAnd goal (AreNarrow game u)
narrow-goal game None u v tighter none = none
narrow-goal game (Some widest) u v tighter narrow = narrow-tighter game u v widest tighter narrow

-- it is so by tighter words too
pub last-tighter : (game : Game) (goal : Option ℤ) (asked : ℕ) (u v : Words) (round : ℕ) → AreNoLooser game u v → IsLastRound game goal asked v round → IsLastRound game goal asked u round
last-tighter game goal asked u v round tighter last = record {
  some = last.some;
  most = last.most;
  narrow = λ fewer. narrow-goal game goal u v tighter (last.narrow fewer);
  needed = last.needed;
}

-- the closed words of a board after its last round
pub closed-last : (game : Game) (closed : WordList) (goal : Option ℤ) (asked made : ℕ) (notes : List Note) → closed.game ≡ game → closed.rounds ≡ made → AreNoLooser closed.game (words_in_list closed) (noted closed.game notes)
    → IsLastRound game goal asked (noted game notes) made → IsLastRound closed.game goal asked (words_in_list closed) closed.rounds
closed-last game closed goal asked made notes same rounds tighter last =
    subst (λ (n : ℕ). IsLastRound closed.game goal asked (words_in_list closed) n) (sym rounds)
    (last-tighter closed.game goal asked (words_in_list closed) (noted closed.game notes) made tighter (subst (λ (g : Game). IsLastRound g goal asked (noted g notes) made) (sym same) last))
