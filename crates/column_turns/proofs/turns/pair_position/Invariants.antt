use Rattle.std.proofs.Common.{◌≡◌, ◌≢◌, ◌<◌, ℕ, length, get_or}
use Rattle.position_rank.specs.Placement.{Placement}
use Rattle.cube_actions.specs.Stakes.{nothing}
use Rattle.turn_rule.specs.Looks.{Source, Notes, IsTurnPair}
use Rattle.column_turns.specs.Turns.{place_in, AreSummed}
use Rattle.column_turns.proofs.turns.pair_position.Given as goal

-- the kinds so far
abbrev pub invariant-loop-kind : goal.invariant-loop-kind
invariant-loop-kind l =
    let kinds = length l.stakes.kinds in
    record {
      room : length l.pairs ≡ length l.fn.pairs;
      turns : (source : Source) (noted : Notes) (place : ℕ → Placement) (many : ℕ) → l.i < many → AreSummed source noted l.stakes place many l.lower l.upper
          → (k : ℕ) → k < l.kind → IsTurnPair l.stakes (place l.i) k source noted (get_or l.pairs (place_in kinds l.i k) nothing);
      same : (a k : ℕ) → k < kinds → a ≢ l.i → get_or l.pairs (place_in kinds a k) nothing ≡ get_or l.fn.pairs (place_in kinds a k) nothing;
    }
