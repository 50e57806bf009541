-- Over words within the bound, a turn stays within it, its lower end at most its upper end.
use Rattle.std.proofs.Common.{◌≡◌, ◌<◌, ◌≤◌, ◌^◌, ℕ, zero, suc, ℤ, pos, neg_ℤ, ◌≤ℤ◌, ◌*ℤ◌, List, [], ◌∷◌, map, Option, Some, None, Bool, true, false, cond, length, sum, slice_index, slice_index_or, All, IfSome, inl, inr, refl, sym, ap, ◌∙◌, subst, arith, ltb}
use Rattle.std.proofs.lemmas.Bool.{cases_lt}
use Rattle.std.specs.List.{Contains}
use Rattle.std.proofs.lemmas.List.Elements.{All-contains}
use Rattle.std.proofs.Math.Nat.{mul_comm}
use Rattle.std.proofs.lemmas.Bool.Decides.{nat_tests}
use Rattle.std.specs.Int.{int_max, int_min}
use Rattle.std.proofs.lemmas.Int.{ints, clamps}
use Rattle.position_rank.specs.Placement.{Placement, InPlay, above, swap}
use Rattle.roll_table.specs.Rolls.{Dice, IsRoll, all_rolls}
use Rattle.move_rules.specs.Ends.{legal_ends}
use Rattle.move_rules.specs.Listing.{Among}
use Rattle.move_rules.proofs.StayLive.{legal_end-stays}
use Rattle.move_rules.specs.declared.payoff.Won.{Won}
use Rattle.move_rules.specs.declared.payoff.Won.TheVariants.{Single, Gammon, Backgammon}
use Rattle.move_rules.specs.Payoff.{points}
use Rattle.directed_fixed.specs.declared.bounds.End.TheVariants.{Lower, Upper}
use Rattle.directed_fixed.specs.Bounds.{Bounds, IsWithin}
use Rattle.directed_fixed.specs.Rounding.{floor_36, ceil_36}
use Rattle.cube_actions.specs.declared.kind.Kind.{Kind}
use Rattle.cube_actions.specs.declared.kind.Double.{Double}
use Rattle.cube_actions.specs.declared.kind.Taken.{Taken}
use Rattle.cube_actions.specs.declared.name.StakesName.{StakesName}
use Rattle.cube_actions.specs.declared.name.StakesName.TheVariants.{Unlimited, Match}
use Rattle.cube_actions.specs.Stakes.{Terms, kind_at, no_kind, nothing, bound_of, IsValid, IsRightDouble, IsRightAnswer}
use Rattle.turn_rule.specs.declared.game.Game.{Game}
use Rattle.turn_rule.specs.Turn.{Words, win, if_won, worth, sum_over, roll_value, least, doubled, or_double, turn, bound_words, rounds}
use Rattle.turn_rule.specs.States.{IsState, AreWithin, pair_of}
use Rattle.turn_rule.specs.Games.{kinds_of}
use Rattle.turn_rule.specs.Looks.{MayFollow, MayFollowTurn, roll_pair}
use Rattle.turn_rule.specs.Following.{AreWithinOn}
use Rattle.turn_rule.proofs.Follows.{may-follow, answer-follows}
use Rattle.turn_rule.proofs.Integers.{le_refl, neg_le, mul_mono, regroup, times-neg, floor_36_below, floor_36_above}
use Rattle.turn_rule.proofs.Greatest.{all_rolls-right, sum-mono, sum-upto, sum-from, total-all_rolls}

-- the game has not ended exactly while the mover has a checker in play
goes_on : (b c d : Bool) (x y z : Option Won) → cond b None (cond c (Some Single) (cond d (Some Backgammon) (Some Gammon))) ≡ None → b ≡ true
goes_on true c d x y z h = refl
goes_on false true d x y z h = absurd (grind arith)
goes_on false false true x y z h = absurd (grind arith)
goes_on false false false x y z h = absurd (grind arith)

pub in_play : (q : Placement) → points q ≡ None → InPlay q.mover
in_play q h =
    let t = goes_on (ltb (slice_index q.mover 0) (sum q.mover)) (ltb 0 (slice_index q.other 0)) (ltb 0 (above q.other 18)) None None None h in
    let less : slice_index q.mover 0 < sum q.mover = grind (arith, nat_tests) in
    λ e. absurd (omega arith)

pub bound-positive : (stakes : Terms) → IsValid stakes → pos 0 ≤ℤ stakes.bound
bound-positive stakes valid = rw valid.bound (named stakes.name) where
  named : (name : StakesName) → pos 0 ≤ℤ bound_of name
  named (Unlimited rule) = omega (arith, ints)
  named (Match score) = omega (arith, ints)

nothing-within : (bound : ℤ) → pos 0 ≤ℤ bound → IsWithin bound nothing
nothing-within bound z = record { from = omega (arith, ints); in_order = omega (arith, ints); to = z }

at-within : (bound : ℤ) (wins : List Bounds) (i : ℕ) → pos 0 ≤ℤ bound → All (IsWithin bound) wins → IsWithin bound (slice_index_or wins i nothing)
at-within bound wins i z all = elim (cases_lt i (length wins)) [ inl here ↦ all i nothing here | inr past ↦ rw (past_end wins i past) (nothing-within bound z) ] where
  past_end : (xs : List Bounds) (i : ℕ) → length xs ≤ i → slice_index_or xs i nothing ≡ nothing
  past_end [] i h = refl
  past_end (x ∷ xs) zero h = absurd (omega arith)
  past_end (x ∷ xs) (suc i) h = past_end xs i (omega arith)

pub win-within : (bound : ℤ) (kind : Kind) → pos 0 ≤ℤ bound → All (IsWithin bound) kind.win → (won : Won) → IsWithin bound (win kind won)
win-within bound kind z all Single = at-within bound kind.win 0 z all
win-within bound kind z all Gammon = at-within bound kind.win 1 z all
win-within bound kind z all Backgammon = at-within bound kind.win 2 z all

min_left : (x y b : ℤ) → x ≤ℤ b → int_min x y ≤ℤ b
min_left x y b h = omega (arith, ints, clamps)

min_mono : (a b c d : ℤ) → a ≤ℤ c → b ≤ℤ d → int_min a b ≤ℤ int_min c d
min_mono a b c d h k = omega (arith, ints, clamps)

max_mono : (a b c d : ℤ) → a ≤ℤ c → b ≤ℤ d → int_max a b ≤ℤ int_max c d
max_mono a b c d h k = omega (arith, ints, clamps)

max_upto : (a b c : ℤ) → a ≤ℤ c → b ≤ℤ c → int_max a b ≤ℤ c
max_upto a b c h k = omega (arith, ints, clamps)

max_from : (a b c : ℤ) → c ≤ℤ a → c ≤ℤ int_max a b
max_from a b c h = omega (arith, ints, clamps)

least-upto : (v b : ℤ) (vs : List ℤ) → v ≤ℤ b → least v vs ≤ℤ b
least-upto v b [] h = h
least-upto v b (w ∷ vs) h = least-upto (int_min v w) b vs (min_left v w b h)

pub least-mono : (X : Type 0) (f g : X → ℤ) (v w : ℤ) (xs : List X) → v ≤ℤ w → ((x : X) → Among x xs → f x ≤ℤ g x) → least v (map f xs) ≤ℤ least w (map g xs)
least-mono X f g v w [] h k = h
least-mono X f g v w (x ∷ xs) h k = least-mono X f g (int_min v (f x)) (int_min w (g x)) xs (min_mono _ _ _ _ h (k x (inl refl))) (λ y m. k y (inr m))

pub at_member : {X : Type 0} (P : X → Type 0) (xs : List X) → All P xs → (x : X) → Among x xs → P x
at_member P [] all x m = absurd m
at_member P (y ∷ ys) all x (inl e) = subst P (sym e) (all 0 y (omega arith))
at_member P (y ∷ ys) all x (inr m) = at_member P ys (λ i d h. all (suc i) d (omega arith)) x m

times-one : (x : ℤ) → pos 1 *ℤ x ≡ x
times-one x = omega (arith, ints)

-- so many times 36 bounds are 36 times so many bounds
exchanged : (f : ℕ) (b : ℤ) → pos f *ℤ (pos 36 *ℤ b) ≡ pos 36 *ℤ (pos f *ℤ b)
exchanged f b = regroup f 36 b ∙ ap (λ (n : ℕ). pos n *ℤ b) (mul_comm f 36) ∙ sym (regroup 36 f b)

-- the mean of two sums, counted so many times and rounded outwards
mean-within : (f : ℕ) (bound low high : ℤ) → neg_ℤ (pos 36 *ℤ bound) ≤ℤ low → low ≤ℤ high → high ≤ℤ (pos 36 *ℤ bound) → IsWithin (pos f *ℤ bound) (record { lower = floor_36 (pos f *ℤ low); upper = ceil_36 (pos f *ℤ high) })
mean-within f bound low high h k l =
    let above = subst (λ (z : ℤ). (pos f *ℤ high) ≤ℤ z) (exchanged f bound) (mul_mono f high (pos 36 *ℤ bound) l) in
    let below = subst (λ (z : ℤ). z ≤ℤ (pos f *ℤ low)) (times-neg f (pos 36 *ℤ bound) ∙ ap neg_ℤ (exchanged f bound)) (mul_mono f (neg_ℤ (pos 36 *ℤ bound)) low h) in
    let order = mul_mono f low high k in
    record {
      from = omega (arith, ints, floor_36_above (pos f *ℤ low), below);
      in_order = omega (arith, ints, order, floor_36_below (pos f *ℤ low), floor_36_below (neg_ℤ (pos f *ℤ high)));
      to = omega (arith, ints, floor_36_above (neg_ℤ (pos f *ℤ high)), above);
    }

module _ (game : Game) (valid : IsValid game.stakes) where
  -- after a play that doesn't end the game, the other side has a state of the same game
  pub follow-state : (p : Placement) (k : ℕ) → IsState game p k → (q : Placement) (j : ℕ) → MayFollow game.stakes p k q j → IsState game q j
  follow-state p k state q j may =
      subst (λ (n : ℕ). IsState game q n) (sym may.left.kind) (subst (λ (r : Placement). IsState game r (kind_at game.stakes k).next) (sym may.left.sides) after) where
        after : IsState game (swap may.end) (kind_at game.stakes k).next
        after =
            let stays = legal_end-stays p may.roll may.end may.right state.position state.live may.legal in
            let mover_view = stays.0 in
            record {
              position = record { mover = mover_view.other; other = mover_view.mover; same = sym mover_view.same };
              many = omega (arith, mover_view.same, stays.1, state.many);
              live = stays.2 (in_play may.end may.left.goes_on);
              kind = (valid.kinds k no_kind state.kind).next;
            }

  pub next_state : (p : Placement) (k : ℕ) → IsState game p k → (roll : Dice) (q : Placement) → IsRoll roll → Among q (legal_ends p roll) → points q ≡ None → IsState game (swap q) (kind_at game.stakes k).next
  next_state p k state roll q right m on = follow-state p k state (swap q) (kind_at game.stakes k).next (may-follow game.stakes p k roll q right m on)

  -- an answer to a double of a kind of the game leads to a kind of the game
  pub answer-kind : (k : ℕ) → k < kinds_of game → (double : Double) → (kind_at game.stakes k).double ≡ Some double → (taken : Taken) → Contains double.answers.items taken → taken.kind < kinds_of game
  answer-kind k inside double is taken answer =
      let right : IsRightDouble game.stakes double = subst (λ (d : Option Double). IfSome d (IsRightDouble game.stakes)) is (valid.kinds k no_kind inside).double in
      (All-contains (IsRightAnswer game.stakes) double.answers.items taken right.answers answer).kind

  -- and so has it after the whole turn
  pub follow-turn-state : (p : Placement) (k : ℕ) → IsState game p k → (q : Placement) (j : ℕ) → MayFollowTurn game.stakes p k q j → IsState game q j
  follow-turn-state p k state q j (inl may) = follow-state p k state q j may
  follow-turn-state p k state q j (inr may) =
      follow-state p may.taken.kind
      (record { position = state.position; many = state.many; live = state.live; kind = answer-kind k state.kind may.double may.right may.taken may.answer }) q j may.after

  module _ (u : Words) (p : Placement) where
    ends_within : (k : ℕ) → k < kinds_of game → AreWithinOn (MayFollow game.stakes p k) game.stakes.bound u → (roll : Dice) (q : Placement) → IsRoll roll → Among q (legal_ends p roll) → IsWithin game.stakes.bound (record { lower = worth Lower (kind_at game.stakes k) u q; upper = worth Upper (kind_at game.stakes k) u q })
    ends_within k inside words roll q right m = by_points (points q) refl where
      by_points : (o : Option Won) → points q ≡ o → IsWithin game.stakes.bound (record { lower = if_won o (λ won. (win (kind_at game.stakes k) won).lower) (neg_ℤ (u Upper (swap q) (kind_at game.stakes k).next)); upper = if_won o (λ won. (win (kind_at game.stakes k) won).upper) (neg_ℤ (u Lower (swap q) (kind_at game.stakes k).next)) })
      by_points None on =
          let later = words (swap q) (kind_at game.stakes k).next (may-follow game.stakes p k roll q right m on) in
          record { from = neg_le _ _ later.to; in_order = neg_le _ _ later.in_order; to = (let h = later.from in omega (arith, ints, h)) }
      by_points (Some won) over = win-within game.stakes.bound (kind_at game.stakes k) (bound-positive game.stakes valid) (valid.kinds k no_kind inside).wins won

    -- the sums over the rolls, from which the mean is taken
    pub sums-within : (k : ℕ) → k < kinds_of game → AreWithinOn (MayFollow game.stakes p k) game.stakes.bound u → IsWithin (pos 36 *ℤ game.stakes.bound) (record { lower = sum_over all_rolls (worth Lower (kind_at game.stakes k) u) p; upper = sum_over all_rolls (worth Upper (kind_at game.stakes k) u) p })
    sums-within k inside words =
        let positive = bound-positive game.stakes valid in
        let negative : neg_ℤ game.stakes.bound ≤ℤ pos 0 = omega (arith, ints) in
        let low = sum-from (worth Lower (kind_at game.stakes k) u) (neg_ℤ game.stakes.bound) negative p (λ roll q right m. (ends_within k inside words roll q right m).from) all_rolls all_rolls-right in
        let high = sum-upto (worth Upper (kind_at game.stakes k) u) game.stakes.bound positive p (λ roll q right m. (ends_within k inside words roll q right m).to) all_rolls all_rolls-right in
        let middle = sum-mono (worth Lower (kind_at game.stakes k) u) (worth Upper (kind_at game.stakes k) u) p (λ roll q right m. (ends_within k inside words roll q right m).in_order) all_rolls all_rolls-right in
        record { from = (let h = rw total-all_rolls at low in omega (arith, ints, h)); in_order = middle; to = rw total-all_rolls at high }

    -- rolling in a kind stays within so many times the bound as it counts
    pub roll-within : (k factor : ℕ) → k < kinds_of game → AreWithinOn (MayFollow game.stakes p k) game.stakes.bound u → IsWithin (pos factor *ℤ game.stakes.bound) (roll_pair game.stakes u p k factor)
    roll-within k factor inside words =
        let sums = sums-within k inside words in
        mean-within factor game.stakes.bound _ _ sums.from sums.in_order sums.to

    doubled-in_order : (double : Double) → IsRightDouble game.stakes double → ((taken : Taken) → Among taken double.answers.items → AreWithinOn (MayFollow game.stakes p taken.kind) game.stakes.bound u) → doubled Lower game.stakes u p double ≤ℤ doubled Upper game.stakes u p double
    doubled-in_order double right words =
        least-mono Taken (λ taken. roll_value Lower game.stakes u p taken.kind taken.factor) (λ taken. roll_value Upper game.stakes u p taken.kind taken.factor) double.pass.lower double.pass.upper double.answers.items right.pass.in_order
        (λ taken m. (roll-within taken.kind taken.factor (at_member (IsRightAnswer game.stakes) double.answers.items right.answers taken m).kind (words taken m)).in_order)

    or_double-within : (double : Option Double) → IfSome double (IsRightDouble game.stakes) → ((d : Double) → double ≡ Some d → (taken : Taken) → Among taken d.answers.items → AreWithinOn (MayFollow game.stakes p taken.kind) game.stakes.bound u) → (low high : ℤ) → IsWithin game.stakes.bound (record { lower = low; upper = high }) → IsWithin game.stakes.bound (record { lower = or_double Lower game.stakes u p low double; upper = or_double Upper game.stakes u p high double })
    or_double-within None right words low high h = h
    or_double-within (Some double) right words low high h = record {
      from = max_from _ _ _ h.from;
      in_order = max_mono _ _ _ _ h.in_order (doubled-in_order double right (words double refl));
      to = max_upto _ _ _ h.to (least-upto double.pass.upper game.stakes.bound (map (λ (taken : Taken). roll_value Upper game.stakes u p taken.kind taken.factor) double.answers.items) right.pass.to);
    }

    -- over words that are within the bound where they may follow, the turn is within it
    pub turn-within-at : (k : ℕ) → k < kinds_of game → AreWithinOn (MayFollowTurn game.stakes p k) game.stakes.bound u → IsWithin game.stakes.bound (pair_of (turn game.stakes u) p k)
    unfolding turn
    turn-within-at k inside words =
        or_double-within (kind_at game.stakes k).double (valid.kinds k no_kind inside).double
        (λ d is taken m q j may. words q j (answer-follows game.stakes p k d is taken m q j may)) _ _
        (once (roll-within k 1 inside (λ q j may. words q j (inl may)))) where
          once : IsWithin (pos 1 *ℤ game.stakes.bound) (roll_pair game.stakes u p k 1) → IsWithin game.stakes.bound (roll_pair game.stakes u p k 1)
          once h = subst (λ (b : ℤ). IsWithin b (roll_pair game.stakes u p k 1)) (times-one game.stakes.bound) h

  pub roll-in_order : (u : Words) → AreWithin game u → (p : Placement) (k factor : ℕ) → IsState game p k → roll_value Lower game.stakes u p k factor ≤ℤ roll_value Upper game.stakes u p k factor
  roll-in_order u words p k factor state = (roll-within u p k factor state.kind (λ q j may. words q j (follow-state p k state q j may))).in_order

  pub turn-within : (u : Words) → AreWithin game u → AreWithin game (turn game.stakes u)
  turn-within u words p k state = turn-within-at u p k state.kind (λ q j may. words q j (follow-turn-state p k state q j may))

  pub opening-within : AreWithin game (bound_words game.stakes)
  opening-within p k state =
      let positive = bound-positive game.stakes valid in
      record { from = le_refl _; in_order = omega (arith, ints); to = le_refl _ }

  pub rounds-within : (r : ℕ) → AreWithin game (rounds game.stakes r)
  unfolding rounds
  rounds-within zero = opening-within
  rounds-within (suc r) = turn-within (rounds game.stakes r) (rounds-within r)

pub bound-small : (stakes : Terms) → IsValid stakes → stakes.bound ≤ℤ pos (2 ^ 36)
bound-small stakes valid = rw valid.bound (named stakes.name) where
  named : (name : StakesName) → bound_of name ≤ℤ pos (2 ^ 36)
  named (Unlimited rule) = omega (arith, ints)
  named (Match score) = omega (arith, ints)
