-- A turn of the side that follows a policy: it stays within the bound, asks for no words but those of the states that may follow, is tighter over
-- tighter words, and bounds what following is worth before it.
use Rattle.std.proofs.Common.{◌≡◌, ◌<◌, ◌^◌, ◌*◌, ℕ, suc, ℤ, pos, neg_ℤ, ◌≤ℤ◌, ◌*ℤ◌, List, [], ◌∷◌, map, Option, Some, None, IfSome, inl, inr, refl, sym, ap, ◌∙◌, subst, arith}
use Rattle.std.specs.Int.{int_max, int_min}
use Rattle.std.proofs.lemmas.Int.{ints, clamps}
use Rattle.std.proofs.Math.Nat.{mul_comm, pow-succ'}
use Rattle.position_rank.specs.Placement.{Placement, swap}
use Rattle.roll_table.specs.Rolls.{Dice, IsRoll, all_rolls}
use Rattle.move_rules.specs.Listing.{Among}
use Rattle.move_rules.proofs.Members.{Among-Contains}
use Rattle.move_rules.specs.declared.payoff.Won.{Won}
use Rattle.move_rules.specs.Payoff.{points}
use Rattle.directed_fixed.specs.declared.bounds.End.{End}
use Rattle.directed_fixed.specs.declared.bounds.End.TheVariants.{Lower, Upper}
use Rattle.directed_fixed.specs.Bounds.{IsNoLooser, IsWithin, other, at}
use Rattle.directed_fixed.specs.Rounding.{floor_36, ceil_36, outwards}
use Rattle.cube_actions.specs.declared.kind.Double.{Double}
use Rattle.cube_actions.specs.declared.kind.Taken.{Taken}
use Rattle.cube_actions.specs.Stakes.{Terms, kind_at, no_kind, IsValid, IsRightDouble, IsRightAnswer}
use Rattle.turn_rule.specs.declared.game.Game.{Game}
use Rattle.turn_rule.specs.Games.{kinds_of}
use Rattle.turn_rule.specs.Turn.{Words, win, if_won, worth, least}
use Rattle.turn_rule.specs.States.{pair_of}
use Rattle.turn_rule.specs.Exact.{Scoring, Values, left_with}
use Rattle.turn_rule.specs.Truth.{IsBoundOf, Encloses, AreWinsWithin, ArePassesWithin}
use Rattle.turn_rule.specs.Looks.{MayFollow, MayFollowTurn}
use Rattle.turn_rule.specs.Following.{AgreeOn, AreNoLooserOn, AreBoundsOn, AreWithinOn}
use Rattle.turn_rule.proofs.Follows.{answer-follows}
use Rattle.turn_rule.proofs.Integers.{neg_le, mul_mono, regroup, times-neg, max_mono, floor_36_below, floor_36_above}
use Rattle.turn_rule.proofs.Greatest.{all_rolls-right, total-all_rolls}
use Rattle.turn_rule.proofs.Within.{answer-kind, at_member, bound-positive, least-mono, win-within}
use Rattle.turn_rule.proofs.Tightness.{tight-neg, tight-max, tight-least, tight-times, tight-outwards}
use Rattle.turn_rule.proofs.Tight.{tight-refl}
use Rattle.turn_rule.proofs.Fractions.{bound-at, bound-max, bound-least, bound-neg, bound-times, bound-over, bound-outwards}
use Rattle.best_reply.specs.Policies.{Policy, IsLegalPolicy}
use Rattle.best_reply.specs.Replies.{rolled_by, better_of_by, before_turn_by}
use Rattle.best_reply.specs.ReplyPairs.{roll_value_by, or_double_by, turn_by}
use Rattle.best_reply.proofs.SumsBy.{bound-sum_by, sum_by-agree, sum_by-from, sum_by-mono, sum_by-upto, tight-sum_by}

least-agree : (X : Type 0) (f g : X → ℤ) (v : ℤ) (xs : List X) → ((x : X) → Among x xs → f x ≡ g x) → least v (map f xs) ≡ least v (map g xs)
least-agree X f g v [] h = refl
least-agree X f g v (x ∷ xs) h =
    ap (λ (z : ℤ). least (int_min v z) (map f xs)) (h x (inl refl)) ∙ least-agree X f g (int_min v (g x)) xs (λ y m. h y (inr m))

min_left : (x y b : ℤ) → x ≤ℤ b → int_min x y ≤ℤ b
min_left x y b h = omega (arith, ints, clamps)

max_upto : (a b c : ℤ) → a ≤ℤ c → b ≤ℤ c → int_max a b ≤ℤ c
max_upto a b c h k = omega (arith, ints, clamps)

max_from : (a b c : ℤ) → c ≤ℤ a → c ≤ℤ int_max a b
max_from a b c h = omega (arith, ints, clamps)

least-upto : (v b : ℤ) (vs : List ℤ) → v ≤ℤ b → least v vs ≤ℤ b
least-upto v b [] h = h
least-upto v b (w ∷ vs) h = least-upto (int_min v w) b vs (min_left v w b h)

once : (x : ℤ) → pos 1 *ℤ x ≡ x
once x = omega (arith, ints)

exchanged : (f : ℕ) (b : ℤ) → pos f *ℤ (pos 36 *ℤ b) ≡ pos 36 *ℤ (pos f *ℤ b)
exchanged f b = regroup f 36 b ∙ ap (λ (n : ℕ). pos n *ℤ b) (mul_comm f 36) ∙ sym (regroup 36 f b)

-- the mean of two sums, counted so many times and rounded outwards
mean-within : (f : ℕ) (bound low high : ℤ) → neg_ℤ (pos 36 *ℤ bound) ≤ℤ low → low ≤ℤ high → high ≤ℤ (pos 36 *ℤ bound) → IsWithin (pos f *ℤ bound) (record { lower = floor_36 (pos f *ℤ low); upper = ceil_36 (pos f *ℤ high) })
mean-within f bound low high h k l =
    let above = subst (λ (z : ℤ). (pos f *ℤ high) ≤ℤ z) (exchanged f bound) (mul_mono f high (pos 36 *ℤ bound) l) in
    let below = subst (λ (z : ℤ). z ≤ℤ (pos f *ℤ low)) (times-neg f (pos 36 *ℤ bound) ∙ ap neg_ℤ (exchanged f bound)) (mul_mono f (neg_ℤ (pos 36 *ℤ bound)) low h) in
    let order = mul_mono f low high k in
    record {
      from = omega (arith, ints, floor_36_above (pos f *ℤ low), below);
      in_order = omega (arith, ints, order, floor_36_below (pos f *ℤ low), floor_36_below (neg_ℤ (pos f *ℤ high)));
      to = omega (arith, ints, floor_36_above (neg_ℤ (pos f *ℤ high)), above);
    }

module _ (policy : Policy) (legal : IsLegalPolicy policy) (stakes : Terms) (p : Placement) where
  -- the state that the policy's play leaves may follow
  pub played-follows : (k : ℕ) (roll : Dice) → IsRoll roll → points (policy p k roll) ≡ None → MayFollow stakes p k (swap (policy p k roll)) (kind_at stakes k).next
  played-follows k roll right on = record {
    roll = roll;
    right = right;
    end = policy p k roll;
    legal = legal p k roll;
    left = record { goes_on = on; sides = refl; kind = refl };
  }

  -- ---- equal words

  module _ (end : End) (u v : Words) where
    worth-agree : (k : ℕ) → AgreeOn (MayFollow stakes p k) (other end) u v → (roll : Dice) → IsRoll roll → worth end (kind_at stakes k) u (policy p k roll) ≡ worth end (kind_at stakes k) v (policy p k roll)
    worth-agree k same roll right = by_points (points q) refl where
      q : Placement
      q = policy p k roll

      by_points : (o : Option Won) → points q ≡ o → if_won o (λ won. at end (win (kind_at stakes k) won)) (neg_ℤ (u (other end) (swap q) (kind_at stakes k).next)) ≡ if_won o (λ won. at end (win (kind_at stakes k) won)) (neg_ℤ (v (other end) (swap q) (kind_at stakes k).next))
      by_points None on = ap neg_ℤ (same (swap q) (kind_at stakes k).next (played-follows k roll right on))
      by_points (Some won) over = refl

    roll-agree : (k factor : ℕ) → AgreeOn (MayFollow stakes p k) (other end) u v → roll_value_by policy end stakes u p k factor ≡ roll_value_by policy end stakes v p k factor
    roll-agree k factor same =
        ap (λ (z : ℤ). outwards end (pos factor *ℤ z)) (sum_by-agree (worth end (kind_at stakes k) u) (worth end (kind_at stakes k) v) (policy p k) (worth-agree k same) all_rolls all_rolls-right)

    or_double-agree : (double : Option Double) → ((d : Double) → double ≡ Some d → (taken : Taken) → Among taken d.answers.items → AgreeOn (MayFollow stakes p taken.kind) (other end) u v) → (plain : ℤ) → or_double_by policy end stakes u p plain double ≡ or_double_by policy end stakes v p plain double
    or_double-agree None same plain = refl
    or_double-agree (Some double) same plain =
        ap (λ (z : ℤ). int_max plain z) (least-agree Taken (λ taken. roll_value_by policy end stakes u p taken.kind taken.factor) (λ taken. roll_value_by policy end stakes v p taken.kind taken.factor) (at end double.pass) double.answers.items
        (λ taken m. roll-agree taken.kind taken.factor (same double refl taken m)))

    pub turn_by-agree : (k : ℕ) → AgreeOn (MayFollowTurn stakes p k) (other end) u v → turn_by policy stakes u end p k ≡ turn_by policy stakes v end p k
    unfolding turn_by
    turn_by-agree k same =
        let kind = kind_at stakes k in
        ap (λ (z : ℤ). or_double_by policy end stakes u p z kind.double) (roll-agree k 1 (λ q j may. same q j (inl may)))
        ∙ or_double-agree kind.double (λ d is taken m q j may. same q j (answer-follows stakes p k d is taken m q j may)) (roll_value_by policy end stakes v p k 1)

    -- ---- tighter words

    worth-tighter : (k : ℕ) → AreNoLooserOn (MayFollow stakes p k) (other end) u v → (roll : Dice) → IsRoll roll → IsNoLooser end (worth end (kind_at stakes k) u (policy p k roll)) (worth end (kind_at stakes k) v (policy p k roll))
    worth-tighter k tight roll right = by_points (points q) refl where
      q : Placement
      q = policy p k roll

      by_points : (o : Option Won) → points q ≡ o → IsNoLooser end (if_won o (λ won. at end (win (kind_at stakes k) won)) (neg_ℤ (u (other end) (swap q) (kind_at stakes k).next))) (if_won o (λ won. at end (win (kind_at stakes k) won)) (neg_ℤ (v (other end) (swap q) (kind_at stakes k).next)))
      by_points None on = tight-neg end _ _ (tight (swap q) (kind_at stakes k).next (played-follows k roll right on))
      by_points (Some won) over = tight-refl end _

    roll-tighter : (k factor : ℕ) → AreNoLooserOn (MayFollow stakes p k) (other end) u v → IsNoLooser end (roll_value_by policy end stakes u p k factor) (roll_value_by policy end stakes v p k factor)
    roll-tighter k factor tight =
        tight-outwards end _ _ (tight-times end factor _ _ (tight-sum_by end (worth end (kind_at stakes k) u) (worth end (kind_at stakes k) v) (policy p k) (worth-tighter k tight)))

    double-tighter : (double : Option Double) → ((d : Double) → double ≡ Some d → (taken : Taken) → Among taken d.answers.items → AreNoLooserOn (MayFollow stakes p taken.kind) (other end) u v) → (x y : ℤ) → IsNoLooser end x y → IsNoLooser end (or_double_by policy end stakes u p x double) (or_double_by policy end stakes v p y double)
    double-tighter None tight x y h = h
    double-tighter (Some double) tight x y h =
        tight-max end _ _ _ _ h (tight-least Taken end (λ taken. roll_value_by policy end stakes u p taken.kind taken.factor) (λ taken. roll_value_by policy end stakes v p taken.kind taken.factor) _ _ double.answers.items (tight-refl end (at end double.pass))
        (λ taken m. roll-tighter taken.kind taken.factor (tight double refl taken m)))

    pub turn_by-tighter : (k : ℕ) → AreNoLooserOn (MayFollowTurn stakes p k) (other end) u v → IsNoLooser end (turn_by policy stakes u end p k) (turn_by policy stakes v end p k)
    unfolding turn_by
    turn_by-tighter k tight =
        double-tighter (kind_at stakes k).double (λ d is taken m q j may. tight q j (answer-follows stakes p k d is taken m q j may)) _ _ (roll-tighter k 1 (λ q j may. tight q j (inl may)))

-- ---- words within the bound

module _ (policy : Policy) (legal : IsLegalPolicy policy) (game : Game) (valid : IsValid game.stakes) (u : Words) (p : Placement) where
  abbrev Plays : ℕ → Type 0
  Plays k = AreWithinOn (MayFollow game.stakes p k) game.stakes.bound u

  worth-within : (k : ℕ) → k < kinds_of game → Plays k → (roll : Dice) → IsRoll roll → IsWithin game.stakes.bound (record { lower = worth Lower (kind_at game.stakes k) u (policy p k roll); upper = worth Upper (kind_at game.stakes k) u (policy p k roll) })
  worth-within k inside words roll right = by_points (points q) refl where
    q : Placement
    q = policy p k roll

    by_points : (o : Option Won) → points q ≡ o → IsWithin game.stakes.bound (record { lower = if_won o (λ won. (win (kind_at game.stakes k) won).lower) (neg_ℤ (u Upper (swap q) (kind_at game.stakes k).next)); upper = if_won o (λ won. (win (kind_at game.stakes k) won).upper) (neg_ℤ (u Lower (swap q) (kind_at game.stakes k).next)) })
    by_points None on =
        let later = words (swap q) (kind_at game.stakes k).next (played-follows policy legal game.stakes p k roll right on) in
        record { from = neg_le _ _ later.to; in_order = neg_le _ _ later.in_order; to = (let h = later.from in omega (arith, ints, h)) }
    by_points (Some won) over = win-within game.stakes.bound (kind_at game.stakes k) (bound-positive game.stakes valid) (valid.kinds k no_kind inside).wins won

  roll-within : (k factor : ℕ) → k < kinds_of game → Plays k → IsWithin (pos factor *ℤ game.stakes.bound) (record { lower = roll_value_by policy Lower game.stakes u p k factor; upper = roll_value_by policy Upper game.stakes u p k factor })
  roll-within k factor inside words =
      let bound = game.stakes.bound in
      let lower = worth Lower (kind_at game.stakes k) u in
      let upper = worth Upper (kind_at game.stakes k) u in
      let low = sum_by-from lower (policy p k) (neg_ℤ bound) (λ roll right. (worth-within k inside words roll right).from) all_rolls all_rolls-right in
      let high = sum_by-upto upper (policy p k) bound (λ roll right. (worth-within k inside words roll right).to) all_rolls all_rolls-right in
      let middle = sum_by-mono lower upper (policy p k) (λ roll right. (worth-within k inside words roll right).in_order) all_rolls all_rolls-right in
      mean-within factor bound _ _ (let h = rw total-all_rolls at low in omega (arith, ints, h)) middle (rw total-all_rolls at high)

  or_double-within : (double : Option Double) → IfSome double (IsRightDouble game.stakes) → ((d : Double) → double ≡ Some d → (taken : Taken) → Among taken d.answers.items → Plays taken.kind) → (low high : ℤ) → IsWithin game.stakes.bound (record { lower = low; upper = high })
      → IsWithin game.stakes.bound (record { lower = or_double_by policy Lower game.stakes u p low double; upper = or_double_by policy Upper game.stakes u p high double })
  or_double-within None right words low high h = h
  or_double-within (Some double) right words low high h =
      let low_of : Taken → ℤ = λ taken. roll_value_by policy Lower game.stakes u p taken.kind taken.factor in
      let high_of : Taken → ℤ = λ taken. roll_value_by policy Upper game.stakes u p taken.kind taken.factor in
      record {
        from = max_from _ _ _ h.from;
        in_order = max_mono _ _ _ _ h.in_order (least-mono Taken low_of high_of double.pass.lower double.pass.upper double.answers.items right.pass.in_order
            (λ taken m. (roll-within taken.kind taken.factor (at_member (IsRightAnswer game.stakes) double.answers.items right.answers taken m).kind (words double refl taken m)).in_order));
        to = max_upto _ _ _ h.to (least-upto double.pass.upper game.stakes.bound (map high_of double.answers.items) right.pass.to);
      }

  plain-within : (low high : ℤ) → IsWithin (pos 1 *ℤ game.stakes.bound) (record { lower = low; upper = high }) → IsWithin game.stakes.bound (record { lower = low; upper = high })
  plain-within low high h = subst (λ (b : ℤ). IsWithin b (record { lower = low; upper = high })) (once game.stakes.bound) h

  pub turn_by-within : (k : ℕ) → k < kinds_of game → AreWithinOn (MayFollowTurn game.stakes p k) game.stakes.bound u → IsWithin game.stakes.bound (pair_of (turn_by policy game.stakes u) p k)
  unfolding turn_by
  turn_by-within k inside words =
      or_double-within (kind_at game.stakes k).double (valid.kinds k no_kind inside).double
      (λ d is taken m q j may. words q j (answer-follows game.stakes p k d is taken m q j may)) _ _
      (plain-within _ _ (roll-within k 1 inside (λ q j may. words q j (inl may))))

-- ---- bounds of what following is worth

module _ (policy : Policy) (legal : IsLegalPolicy policy) (game : Game) (scoring : Scoring) (wins : AreWinsWithin game scoring) (turns : ℕ) (end : End) (u : Words) (later : Values) (p : Placement) where
  -- over what values are counted after the turn, and before it
  abbrev after : ℕ
  after = scoring.scale * 36 ^ turns

  abbrev before : ℕ
  before = scoring.scale * 36 ^ suc turns

  times_36 : (n : ℕ) → 36 * (scoring.scale * n) ≡ scoring.scale * (36 * n)
  times_36 n = omega arith

  before_is : 36 * after ≡ before
  before_is = times_36 (36 ^ turns) ∙ ap (λ (n : ℕ). scoring.scale * n) (sym (pow-succ' 36 turns))

  bound-play : (k : ℕ) → k < kinds_of game → AreBoundsOn (MayFollow game.stakes p k) (other end) u later after → (roll : Dice) → IsRoll roll → IsBoundOf end (worth end (kind_at game.stakes k) u (policy p k roll)) (left_with game.stakes scoring turns later k (policy p k roll)) after
  bound-play k inside bounds roll right = by_points (points q) refl where
    q : Placement
    q = policy p k roll

    by_points : (o : Option Won) → points q ≡ o → IsBoundOf end (if_won o (λ won. at end (win (kind_at game.stakes k) won)) (neg_ℤ (u (other end) (swap q) (kind_at game.stakes k).next))) (if_won o (λ won. pos (36 ^ turns) *ℤ scoring.win k won) (neg_ℤ (later (swap q) (kind_at game.stakes k).next))) after
    by_points None on = bound-neg end _ _ after (bounds (swap q) (kind_at game.stakes k).next (played-follows policy legal game.stakes p k roll right on))
    by_points (Some won) over = bound-over end (36 ^ turns) _ _ scoring.scale (bound-at end _ _ scoring.scale (wins k won inside))

  bound-roll : (k factor : ℕ) → k < kinds_of game → AreBoundsOn (MayFollow game.stakes p k) (other end) u later after → IsBoundOf end (roll_value_by policy end game.stakes u p k factor) (pos factor *ℤ rolled_by policy game.stakes scoring turns later p k) before
  bound-roll k factor inside bounds =
      subst (IsBoundOf end (roll_value_by policy end game.stakes u p k factor) (pos factor *ℤ rolled_by policy game.stakes scoring turns later p k)) before_is
      (bound-outwards end _ _ after (bound-times end factor _ _ after (bound-sum_by end (worth end (kind_at game.stakes k) u) (left_with game.stakes scoring turns later k) (policy p k) after (bound-play k inside bounds))))

  bound-better : (k : ℕ) (double : Option Double) → ((d : Double) → double ≡ Some d → (taken : Taken) → Among taken d.answers.items → (taken.kind < kinds_of game) × AreBoundsOn (MayFollow game.stakes p taken.kind) (other end) u later after) → IfSome double (λ double. Encloses double.pass (scoring.pass k) scoring.scale)
      → (a x : ℤ) → IsBoundOf end a x before → IsBoundOf end (or_double_by policy end game.stakes u p a double) (better_of_by policy game.stakes scoring turns later p k x double) before
  bound-better k None bounds passes a x h = h
  bound-better k (Some double) bounds passes a x h =
      bound-max end _ _ _ _ before h (bound-least Taken end (λ taken. roll_value_by policy end game.stakes u p taken.kind taken.factor) (λ taken. pos taken.factor *ℤ rolled_by policy game.stakes scoring turns later p taken.kind) _ _ double.answers.items before
      (bound-over end (36 ^ suc turns) _ _ scoring.scale (bound-at end _ _ scoring.scale passes))
      (λ taken m. let inside = bounds double refl taken m in bound-roll taken.kind taken.factor inside.0 inside.1))

  pub bound-turn_by : IsValid game.stakes → ArePassesWithin game scoring → (k : ℕ) → k < kinds_of game → AreBoundsOn (MayFollowTurn game.stakes p k) (other end) u later after → IsBoundOf end (turn_by policy game.stakes u end p k) (before_turn_by policy game.stakes scoring turns later p k) before
  unfolding turn_by
  bound-turn_by valid passes k inside bounds =
      bound-better k (kind_at game.stakes k).double
      (λ d is taken m. (answer-kind game valid k inside d is taken (Among-Contains taken d.answers.items m), λ q j may. bounds q j (answer-follows game.stakes p k d is taken m q j may)))
      (passes k inside) _ _
      (subst (λ (x : ℤ). IsBoundOf end (roll_value_by policy end game.stakes u p k 1) x before) (once (rolled_by policy game.stakes scoring turns later p k)) (bound-roll k 1 inside (λ q j may. bounds q j (inl may))))
