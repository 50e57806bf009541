-- The numbers of states that are looked at.
use Rattle.std.proofs.Common.{◌≡◌, ◌<◌, ◌+◌, ◌*◌, ℕ, refl, sym, ap, subst, ◌∙◌}
use Rattle.position_rank.specs.LiveRanks.{live_rank_of}
use Rattle.position_rank.specs.Placement.{Placement}
use Rattle.turn_rule.specs.Games.{kinds_of}
use Rattle.turn_rule.specs.States.{IsState, pair_of}
use Rattle.interval_words.proofs.Calls.{number-is}
use Rattle.interval_words.specs.Numbers.{state_of}
use Rattle.interval_words.specs.WordLists.{WordList, pair_at, states_of, words_in_list}
use Rattle.directed_fixed.specs.Bounds.{Bounds}
use Rattle.base_scan.specs.declared.numbers.Seen.{Seen}
use Rattle.base_scan.specs.Sides.{IsSeen, IsSideOf}

pub state-number : (kinds first : ℕ) (p : Placement) (k : ℕ) → first ≡ live_rank_of p * kinds → first + k ≡ state_of kinds p k
state-number kinds first p k is = ap (λ (n : ℕ). n + k) is ∙ number-is kinds p k (live_rank_of p) kinds refl refl

pub seen-pair : (words : WordList) (seen : Seen) (pair : Bounds) → IsSeen words seen → pair ≡ pair_at words.list seen.state → pair ≡ pair_of (words_in_list words) seen.position seen.kind
seen-pair words seen pair is at = at ∙ ap (pair_at words.list) is.number

-- a state of a position, whose first state has this number
pub is-seen : (words : WordList) (p : Placement) (k first : ℕ) (seen : Seen) → IsState words.game p k → state_of (kinds_of words.game) p k < states_of words.game
    → first ≡ live_rank_of p * kinds_of words.game → seen.position ≡ p → seen.kind ≡ k → seen.state ≡ first + k → IsSideOf p.mover seen.mover → IsSideOf p.other seen.other → IsSeen words seen
is-seen words p k first seen state inside begins at kind number mover other =
    let same : seen.state ≡ state_of (kinds_of words.game) p k = number ∙ state-number (kinds_of words.game) first p k begins in
    record {
      state = rw (at, kind) state;
      number = rw (at, kind) same;
      inside = subst (λ (n : ℕ). n < states_of words.game) (sym same) inside;
      mover = rw at mover;
      other = rw at other;
    }
