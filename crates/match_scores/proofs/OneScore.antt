-- One score of a match: where the start pairs before it enclose, its sound words enclose its game, and its start pair its start.
use Rattle.std.proofs.Common.{◌≡◌, ◌<◌, ◌≤◌, ◌+◌, ◌*◌, ◌^◌, ◌∙◌, ℕ, zero, suc, ℤ, pos, ◌*ℤ◌, ◌≤ℤ◌, [], length, ap, sym, subst, arith}
use Rattle.std.proofs.lemmas.Int.{ints}
use Rattle.std.proofs.Math.Nat.{le_of_mul-le-mul_left, mul_comm, mul-pos, pow-succ'}
use borrow.Author.Differences.{up, down}
use Rattle.directed_fixed.specs.Bounds.{Bounds}
use Rattle.cube_actions.specs.declared.side.Side.{Side}
use Rattle.cube_actions.specs.Scores.{MatchScore, IsScore, needs}
use Rattle.cube_actions.specs.Ladder.{ladder}
use Rattle.cube_actions.specs.Starts.{StartPairs, AreStarts, Covers, start_pair, ladder_place}
use Rattle.cube_actions.specs.Matches.{after_win, terms_of}
use Rattle.turn_rule.specs.Turn.{Words}
use Rattle.turn_rule.specs.Exact.{exact}
use Rattle.turn_rule.specs.Truth.{Encloses, IsScoring, AreEnclosing, AreSoundFrom}
use Rattle.turn_rule.proofs.Integers.{regroup}
use Rattle.match_scores.specs.Openings.{start_over, thirty_starts}
use Rattle.match_scores.specs.Payoffs.{ScoredMatch, IsMeanStart, match_scoring}
use Rattle.match_scores.specs.Ladders.{IsScoredMatch, EncloseStarts, game_at_score, start_pair_at}
use Rattle.match_scores.proofs.Centred.{centred-terms}
use Rattle.match_scores.proofs.OpeningSums.{GoOn}
use Rattle.match_scores.proofs.Starts.{start-encloses, both-ends}
use Rattle.match_scores.proofs.Places.{score-found}
use Rattle.match_scores.proofs.MatchPayoffs.{scored-within, values-same}

-- a win leads to a score that comes earlier in the ladder
abbrev pub LeadDown : Type 0
LeadDown =
    (match_length : ℕ) (score : MatchScore) (winner : Side) (won : ℕ) → 1 ≤ match_length → match_length ≤ 5 → ladder_place match_length score < length (ladder match_length)
    → 1 ≤ won → won < needs score winner → ladder_place match_length (after_win score winner won) < ladder_place match_length score

module _ (down : LeadDown) (checkers : ℕ) (scored : ScoredMatch) (is_scored : IsScoredMatch checkers scored) (score : MatchScore) (starts : StartPairs) where
  -- each score that a win leads to has its start enclosed
  known-starts : AreStarts starts → Covers starts score → EncloseStarts scored starts → (winner : Side) (won : ℕ) → 1 ≤ won → won < needs score winner
      → Encloses (start_pair starts (after_win score winner won)) (scored.starts (after_win score winner won)) scored.scale
  known-starts valid covers enclosed winner won some less =
      let next = after_win score winner won in
      let place = ladder_place starts.match_length next in
      let before : place < ladder_place starts.match_length score = down starts.match_length score winner won valid.from valid.to covers.listed some less in
      let held : place < length starts.pairs = omega (arith, before, covers.held) in
      let listed : place < length (ladder starts.match_length) = omega (arith, held, valid.room) in
      subst (λ (s : MatchScore). Encloses (start_pair_at starts place) (scored.starts s) scored.scale) (score-found starts.match_length next listed) (enclosed place held)

  -- the exact payoffs and the end scores lie within the stakes
  pub payoffs-within : AreStarts starts → IsScore score → Covers starts score → EncloseStarts scored starts → IsScoring (game_at_score checkers score starts) (match_scoring scored score)
  payoffs-within valid is covers enclosed = scored-within checkers scored is_scored score starts is (known-starts valid covers enclosed)

  -- so sound words enclose the game
  pub game-enclosed : AreStarts starts → IsScore score → Covers starts score → EncloseStarts scored starts → (enough : ℕ) (u : Words) → enough ≤ scored.turns → AreSoundFrom (game_at_score checkers score starts) enough u → AreEnclosing (game_at_score checkers score starts) (match_scoring scored score) scored.turns u
  game-enclosed valid is covers enclosed enough u more sound = sound scored.turns more (match_scoring scored score) (payoffs-within valid is covers enclosed)

-- ---- a mean

swapped : (c w : ℕ) (a : ℤ) → pos c *ℤ (pos w *ℤ a) ≡ pos w *ℤ (pos c *ℤ a)
swapped c w a = regroup c w a ∙ ap (λ (n : ℕ). pos n *ℤ a) (mul_comm c w) ∙ sym (regroup w c a)

-- numbers that are in order so many times are in order
pub cancel : (n : ℕ) (a b : ℤ) → 0 < n → (pos n *ℤ a) ≤ℤ (pos n *ℤ b) → a ≤ℤ b
cancel n a b some h =
    let apart : n * (up a + down b) ≤ n * (up b + down a) = omega (arith, ints, h) in
    omega (arith, ints, le_of_mul-le-mul_left apart some)

-- so many times a number, over so many times as much, is the same fraction
same-fraction : (pair : Bounds) (x : ℤ) (over n : ℕ) → 0 < n → Encloses pair (pos n *ℤ x) (n * over) → Encloses pair x over
same-fraction pair x over n some h = record {
  lower = cancel n _ _ some (rw (regroup n over pair.lower, swapped n (2 ^ 32) x) h.lower);
  upper = cancel n _ _ some (rw (regroup n over pair.upper, swapped n (2 ^ 32) x) h.upper);
}

power-some : (n : ℕ) → 0 < 36 ^ n
power-some zero = omega arith
power-some (suc n) = rw pow-succ' (mul-pos (omega arith) (power-some n))

pub parts-some : (turns : ℕ) → 0 < 30 * 36 ^ turns
parts-some turns = mul-pos (omega arith) (power-some turns)

module _ (checkers : ℕ) (scored : ScoredMatch) (score : MatchScore) (starts : StartPairs) (mean : IsMeanStart checkers scored score) where
  -- what the near side has of the game, over all its parts, is so many times the exact start of the score
  start-is : thirty_starts checkers (exact (terms_of score starts) (match_scoring scored score) scored.turns) score ≡ pos (30 * 36 ^ scored.turns) *ℤ scored.starts score
  start-is = (λ i. thirty_starts checkers (λ p k. values-same score starts (record { match_length = 1; pairs = [] }) (match_scoring scored score) scored.turns p k i) score) ∙ sym mean

  scale-is : (s n : ℕ) → 30 * (s * n) ≡ (30 * n) * s
  scale-is s n = omega arith

  -- and its start pair encloses the start
  pub start-enclosed : GoOn → 1 ≤ checkers → checkers ≤ 3 → (u : Words) → AreEnclosing (game_at_score checkers score starts) (match_scoring scored score) scored.turns u → Encloses (start_over checkers u score) (scored.starts score) scored.scale
  start-enclosed goes low high u encloses =
      let values = exact (terms_of score starts) (match_scoring scored score) scored.turns in
      let over = scored.scale * 36 ^ scored.turns in
      let start = start-encloses goes checkers (length (terms_of score starts).kinds) low high score (centred-terms score starts) u values over (λ end p k state. both-ends end u values over p k (encloses p k state)) in
      same-fraction (start_over checkers u score) (scored.starts score) scored.scale (30 * 36 ^ scored.turns) (parts-some scored.turns)
      (subst (λ (x : ℤ). Encloses (start_over checkers u score) x ((30 * 36 ^ scored.turns) * scored.scale)) start-is
      (subst (Encloses (start_over checkers u score) (thirty_starts checkers values score)) (scale-is scored.scale (36 ^ scored.turns)) start))
