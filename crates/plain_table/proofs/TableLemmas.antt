-- Places of a table, and what a write leaves.
use Rattle.std.proofs.Common.{◌≡◌, ◌≢◌, ◌<◌, ◌+◌, ◌*◌, ◌∙◌, ℕ, length, get_or, set, subst, length-set, refl, arith, get_or-set_same, get_or-set_other, below_more}
use Rattle.std.proofs.lemmas.Nat.{mul-add-lt}
use Rattle.position_rank.specs.Placement.{Placement}
use Rattle.position_rank.specs.Ranks.{square_rank_of}
use Rattle.directed_fixed.specs.Bounds.{Bounds}
use Rattle.cube_actions.specs.Stakes.{nothing}
use Rattle.turn_rule.specs.States.{pair_of}
use Rattle.turn_rule.specs.Layouts.{squares_of}
use Rattle.column_turns.proofs.Places.{places-same}
use Rattle.plain_table.specs.Tables.{PairTable, IsFull, words_at, table_place}
use Rattle.plain_table.specs.Columns.{IsSameBut}
use Rattle.plain_table.specs.Rounds.{AreAlike}

-- the pair of a position and a kind stands in the table
pub place-within : (table : PairTable) (square k : ℕ) → IsFull table → square < squares_of table.checkers → k < table.kinds → square * table.kinds + k < length table.pairs
place-within table square k full here kind = omega (arith, mul-add-lt square table.kinds k (squares_of table.checkers) here kind)

written : (table : PairTable) (place : ℕ) (pair : Bounds) → place < length table.pairs → get_or (set table.pairs place pair) place nothing ≡ pair
written table place pair h = rw get_or-set_same refl

kept : (table : PairTable) (place other : ℕ) (pair : Bounds) → other ≢ place → get_or (set table.pairs place pair) other nothing ≡ get_or table.pairs other nothing
kept table place other pair h = rw get_or-set_other refl

-- the first few kinds of a position have these pairs, and the pairs of other squares are as before
pub record IsPut (start : PairTable) (p : Placement) (turned : ℕ → Bounds) (number : ℕ) (new : PairTable) : Type 0 where
  pub alike : AreAlike start new
  pub full : IsFull new
  pub so_far : (k : ℕ) → k < number → pair_of (words_at new) p k ≡ turned k
  pub rest : IsSameBut (square_rank_of p) start new

-- one more kind
pub put-step : (start : PairTable) (p : Placement) (turned : ℕ → Bounds) (number : ℕ) (new : PairTable) (place : ℕ) (pair : Bounds) → IsPut start p turned number new → place ≡ square_rank_of p * new.kinds + number → number < new.kinds → place < length new.pairs → pair ≡ turned number
    → IsPut start p turned (number + 1) (record new { pairs = set new.pairs place pair })
put-step start p turned number new place pair before at kind here is = record {
  alike = record { checkers = before.alike.checkers; kinds = before.alike.kinds };
  full = length-set new.pairs place pair ∙ before.full;
  so_far = below_more (λ k. pair_of (words_at (record new { pairs = set new.pairs place pair })) p k ≡ turned k) number
      (λ k h. let apart : table_place new.kinds p k ≢ place = omega (arith, at) in kept new place (table_place new.kinds p k) pair apart ∙ before.so_far k h)
      (subst (λ (i : ℕ). get_or (set new.pairs place pair) i nothing ≡ turned number) at (written new place pair here ∙ is));
  rest = λ s k other below.
      let there : k < new.kinds = rw before.alike.kinds below in
      let same : s * start.kinds + k ≡ s * new.kinds + k = rw before.alike.kinds refl in
      let apart : s * start.kinds + k ≢ place = λ e. other (places-same new.kinds s (square_rank_of p) k number there kind (omega (arith, e, at, same))).0 in
      kept new place (s * start.kinds + k) pair apart ∙ before.rest s k other below;
}
