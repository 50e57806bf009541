-- Whole tables: that of no round, and one that was turned.
use Rattle.std.proofs.Common.{◌≡◌, ◌<◌, ◌+◌, ◌*◌, ℕ, zero, suc, length, replicate, get_or, sym, ap, subst, ◌∙◌, refl, add-one, arith}
use Rattle.position_rank.specs.Placement.{Placement}
use Rattle.position_rank.specs.Ranks.{layouts, rank_of, square_rank_of}
use Rattle.position_rank.proofs.RankLaws.{rank-below}
use Rattle.directed_fixed.specs.declared.bounds.End.{End}
use Rattle.directed_fixed.specs.declared.bounds.End.TheVariants.{Lower, Upper}
use Rattle.directed_fixed.specs.Bounds.{Bounds, at}
use Rattle.cube_actions.specs.Stakes.{Terms, IsValid, nothing}
use Rattle.turn_rule.specs.Games.{game_of}
use Rattle.turn_rule.specs.Turn.{Words, turn, bound_words, rounds, bound_pair}
use Rattle.turn_rule.specs.Layouts.{squares_of}
use Rattle.plain_table.specs.Tables.{PairTable, IsFull, words_at, table_place}
use Rattle.turn_rule.specs.States.{IsState, AreWithin, Agree, pair_of}
use Rattle.plain_table.specs.Rounds.{StakesAndTable, HasTable, IsTurnedBefore}
use Rattle.plain_table.proofs.TableLemmas.{place-within}
use Rattle.turn_rule.proofs.Squares.{square-below}
use Rattle.turn_rule.proofs.Within.{turn-within, rounds-within}
use Rattle.turn_rule.proofs.Agreement.{turn-agree}

pub state-place : (table : PairTable) (stakes : Terms) → IsFull table → table.kinds ≡ length stakes.kinds → (p : Placement) (k : ℕ) → IsState (game_of table.checkers stakes) p k → table_place table.kinds p k < length table.pairs
state-place table stakes full kinds p k state =
    place-within table (square_rank_of p) k full (square-below p table.checkers state.position state.many) (subst (λ (n : ℕ). k < n) (sym kinds) state.kind)

all_same : (n i : ℕ) (pair : Bounds) → i < n → get_or (replicate n pair) i nothing ≡ pair
all_same zero i pair h = absurd (omega arith)
all_same (suc n) zero pair h = refl
all_same (suc n) (suc i) pair h = all_same n i pair (omega arith)

pub replicate-full : (checkers kinds : ℕ) (pair : Bounds) → IsFull (record { checkers = checkers; kinds = kinds; pairs = replicate (squares_of checkers * kinds) pair })
replicate-full checkers kinds pair = length-copies (squares_of checkers * kinds) where
  length-copies : (n : ℕ) → length (replicate n pair) ≡ n
  length-copies zero = refl
  length-copies (suc n) = ap suc (length-copies n)

-- a table in which each pair is the bound has the words before the first round
pub opening-rounds : (stakes : Terms) (checkers kinds : ℕ) → kinds ≡ length stakes.kinds → HasTable (record { stakes = stakes; table = record { checkers = checkers; kinds = kinds; pairs = replicate (squares_of checkers * kinds) (bound_pair stakes) } }) 0
unfolding rounds
opening-rounds stakes checkers kinds same end p k state =
    let table : PairTable = record { checkers = checkers; kinds = kinds; pairs = replicate (squares_of checkers * kinds) (bound_pair stakes) } in
    let full = replicate-full checkers kinds (bound_pair stakes) in
    let here = state-place table stakes full same p k state in
    ap (at end) (all_same (squares_of checkers * kinds) (table_place kinds p k) (bound_pair stakes) (subst (λ (n : ℕ). table_place kinds p k < n) full here)) ∙ by_end end where
      by_end : (end : End) → at end (bound_pair stakes) ≡ bound_words stakes end p k
      by_end Lower = refl
      by_end Upper = refl

pub agree-within : (checkers : ℕ) (stakes : Terms) (u v : Words) → Agree (game_of checkers stakes) u v → AreWithin (game_of checkers stakes) v → AreWithin (game_of checkers stakes) u
agree-within checkers stakes u v same within p k state =
    let w = within p k state in
    record { from = rw (same Lower p k state) w.from; in_order = rw (same Lower p k state, same Upper p k state) w.in_order; to = rw (same Upper p k state) w.to }

pub rounds-agree-within : (game : StakesAndTable) (r : ℕ) → IsValid game.stakes → HasTable game r → AreWithin (game_of game.table.checkers game.stakes) (words_at game.table)
rounds-agree-within game r valid has = agree-within game.table.checkers game.stakes (words_at game.table) (rounds game.stakes r) has (rounds-within (game_of game.table.checkers game.stakes) valid r)

-- once every column has had its turn, every state has
pub all-turned : (stakes : Terms) (old new : PairTable) (columns : ℕ) → columns ≡ layouts old.checkers → IsTurnedBefore stakes old new columns → Agree (game_of old.checkers stakes) (words_at new) (turn stakes (words_at old))
all-turned stakes old new columns all turned end p k state =
    let below : rank_of p.other < columns = rw (all, ← state.many, state.position.same) (rank-below p.other state.position.other) in
    by_end end (turned p k state below) where
      by_end : (end : End) → pair_of (words_at new) p k ≡ pair_of (turn stakes (words_at old)) p k → words_at new end p k ≡ turn stakes (words_at old) end p k
      by_end Lower e = ap (λ (b : Bounds). b.lower) e
      by_end Upper e = ap (λ (b : Bounds). b.upper) e

pub turned-within : (stakes : Terms) (old new : PairTable) → IsValid stakes → AreWithin (game_of old.checkers stakes) (words_at old) → Agree (game_of old.checkers stakes) (words_at new) (turn stakes (words_at old)) → AreWithin (game_of old.checkers stakes) (words_at new)
turned-within stakes old new valid within turned =
    agree-within old.checkers stakes (words_at new) (turn stakes (words_at old)) turned (turn-within (game_of old.checkers stakes) valid (words_at old) within)

-- a turn over the words of some rounds gives those of one round more
pub one-round : (stakes : Terms) (old new : PairTable) (r : ℕ) → IsValid stakes → Agree (game_of old.checkers stakes) (words_at new) (turn stakes (words_at old)) → Agree (game_of old.checkers stakes) (words_at old) (rounds stakes r) → Agree (game_of old.checkers stakes) (words_at new) (rounds stakes (r + 1))
unfolding rounds
one-round stakes old new r valid turned has end p k state =
    rw (add-one r) (turned end p k state ∙ turn-agree (game_of old.checkers stakes) valid (words_at old) (rounds stakes r) has end p k state)
