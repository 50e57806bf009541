-- What a play loses over the pairs of all plays of its roll.
use Rattle.std.proofs.Common.{◌≡◌, ◌≢◌, All, zero, suc, ◌^◌, Ok, Err, ℕ, ℤ, pos, ◌*ℤ◌, ◌-ℤ◌, ◌≤ℤ◌, List, [], ◌∷◌, map, Bool, true, false, None, IsTrue, inl, inr, refl, subst, sym, arith}
use Rattle.std.specs.Bool.{⊤}
use Rattle.std.specs.Int.{int_max}
use Rattle.std.proofs.lemmas.Int.{ints, clamps}
use Rattle.position_rank.specs.Placement.{Placement, swap}
use Rattle.roll_table.specs.Rolls.{Dice, IsRoll}
use Rattle.move_rules.specs.Ends.{legal_ends}
use Rattle.move_rules.specs.Listing.{Among}
use Rattle.move_rules.specs.Sequences.{IsLegalEnd}
use Rattle.move_rules.proofs.Members.{Contains-Among, Among-Contains}
use Rattle.move_rules.proofs.EndsExact.{legal_ends-complete, legal_ends-sound}
use Rattle.move_rules.specs.declared.payoff.Won.{Won}
use Rattle.directed_fixed.specs.Bounds.{Bounds, IsWithin}
use Rattle.hyper_outside.specs.declared.outside.LookStop.{LookStop}
use Rattle.cube_actions.specs.Stakes.{Terms, kind_at, no_kind, IsValid}
use Rattle.turn_rule.specs.Games.{game_of}
use Rattle.turn_rule.specs.Turn.{Words, win}
use Rattle.turn_rule.specs.States.{IsStateOf, IsState}
use Rattle.turn_rule.specs.Looks.{Source, Notes, Damage, Looked, IsPairFor, AreStakesOf, IsLeft, MayFollowRoll}
use Rattle.turn_rule.specs.Found.{LeavesState, of_play}
use Rattle.turn_rule.proofs.Within.{bound-positive, bound-small, win-within, next_state}
use Rattle.turn_rule.proofs.Integers.{le_refl}
use Rattle.turn_rule.proofs.Found.{look, notes-refl, then-err}
use Rattle.turn_rule.specs.declared.choice.Choice.TheVariants.{Played}
use Rattle.play_analyser.specs.Losses.{Options, ahead, loss}
use Rattle.play_analyser.specs.Choices.{all_but, same_position}
use Rattle.play_analyser.specs.Regrets.{play_pair, loss_of}
use Rattle.play_analyser.specs.Sought.{ArePairsFor, IsNear, of_loss}
use Rattle.play_analyser.proofs.OtherPlays.{same-is, other-is, left-in, in-left}
use Rattle.play_analyser.proofs.LossLemmas.{both_ends}
use Rattle.play_analyser.proofs.LossPairs.{loss-pair, pair-floor, pair-notes, pair-within, pairs-floor, pairs-notes, pairs-within, pairs-right}

-- ---- what counts is which values there are

below-max : (x a b c : ℤ) → x ≤ℤ a → a ≤ℤ c → b ≤ℤ c → int_max x b ≤ℤ c
below-max x a b c h k l = omega (arith, ints, clamps)

first-max : (a b : ℤ) → a ≤ℤ int_max a b
first-max a b = omega (arith, ints, clamps)

later-max : (x a b : ℤ) → x ≤ℤ b → x ≤ℤ int_max a b
later-max x a b h = omega (arith, ints, clamps)

equal-both : (a b : ℤ) → a ≤ℤ b → b ≤ℤ a → a ≡ b
equal-both a b h k = omega (arith, ints)

module _ (f : Placement → Bounds) (g : Bounds → ℤ) (mine : ℤ) where
  abbrev ahead_of : List Placement → ℤ
  ahead_of qs = ahead (map g (map f qs)) mine

  zero-ahead : (qs : List Placement) → pos 0 ≤ℤ ahead_of qs
  zero-ahead [] = le_refl _
  zero-ahead (q ∷ qs) = later-max (pos 0) (g (f q) -ℤ mine) (ahead_of qs) (zero-ahead qs)

  one-ahead : (qs : List Placement) (q : Placement) → Among q qs → (g (f q) -ℤ mine) ≤ℤ ahead_of qs
  one-ahead [] q m = absurd m
  one-ahead (r ∷ qs) q (inl is) = subst (λ (x : Placement). (g (f x) -ℤ mine) ≤ℤ ahead_of (r ∷ qs)) (sym is) (first-max (g (f r) -ℤ mine) (ahead_of qs))
  one-ahead (r ∷ qs) q (inr m) = later-max (g (f q) -ℤ mine) (g (f r) -ℤ mine) (ahead_of qs) (one-ahead qs q m)

  more-ahead : (qs rs : List Placement) → ((q : Placement) → Among q qs → Among q rs) → ahead_of qs ≤ℤ ahead_of rs
  more-ahead [] rs among = zero-ahead rs
  more-ahead (q ∷ qs) rs among = below-max (g (f q) -ℤ mine) (g (f q) -ℤ mine) (ahead_of qs) (ahead_of rs) (le_refl _) (one-ahead rs q (among q (inl refl))) (more-ahead qs rs (λ r m. among r (inr m)))

  pub same-ahead : (qs rs : List Placement) → ((q : Placement) → Among q qs → Among q rs) → ((q : Placement) → Among q rs → Among q qs) → ahead_of qs ≡ ahead_of rs
  same-ahead qs rs there back = equal-both (ahead_of qs) (ahead_of rs) (more-ahead qs rs there) (more-ahead rs qs back)

-- the other plays of a roll
pub record AreOthers (p : Placement) (roll : Dice) (end : Placement) (others : List Placement) : Type 0 where
  pub legal : (q : Placement) → Among q others → IsLegalEnd p roll q × (q ≢ end)
  pub all : (q : Placement) → IsLegalEnd p roll q → q ≢ end → Among q others

near-four : (bound : ℤ) (pair : Bounds) → bound ≤ℤ pos (2 ^ 36) → IsWithin (pos 4 *ℤ bound) pair → IsNear pair
near-four bound pair small h = let low = h.from in let high = h.to in record { from = omega (arith, ints); in_order = h.in_order; to = omega (arith, ints) }

pub all-of : {X : Type 0} (P : X → Type 0) (xs : List X) → ((x : X) → Among x xs → P x) → All P xs
all-of P [] h i d below = absurd (omega arith)
all-of P (x ∷ xs) h zero d below = h x (inl refl)
all-of P (x ∷ xs) h (suc i) d below = all-of P xs (λ y m. h y (inr m)) i d (omega arith)

-- no look-up
pub nothing-looked : (s : Source) (u : Notes) (a : ℕ) (meant : Damage → Type 0) → Looked (look s u u a a) meant (λ (x : Unit {0}). ⊤) (Ok tt)
nothing-looked s u a meant = record { later = omega arith; notes = notes-refl s u; answer = tt; stop = tt }

-- the first look-up stopped
pub first-err : {A B : Type 0} (s : Source) (u v : Notes) (a b : ℕ) (meant meant' : Damage → Type 0) (right : A → Type 0) (right' : B → Type 0) (stop : LookStop) → Looked (look s u v a b) meant right (Err stop) → ((damage : Damage) → meant damage → meant' damage) → Looked (look s u v a b) meant' right' (Err stop)
first-err s u v a b meant meant' right right' stop looked within = then-err s u u v a a b meant' meant meant' (λ (x : Unit {0}). ⊤) right right' tt stop (nothing-looked s u a meant') looked (λ damage told. within damage)

-- the play and the others over words
abbrev pub plays_over : Terms → ℕ → Placement → List Placement → Words → Options Bounds
plays_over stakes k end others u = record { chosen = play_pair (kind_at stakes k) u end; others = map (play_pair (kind_at stakes k) u) others }

module _ (stakes : Terms) (p : Placement) (k : ℕ) (roll : Dice) (end : Placement) (others : List Placement) (are : AreOthers p roll end others) where
  there : (q : Placement) → Among q others → Among q (all_but end (legal_ends p roll))
  there q m = let legal = are.legal q m in in-left end (legal_ends p roll) q (Contains-Among q (legal_ends p roll) (legal_ends-complete p roll q legal.0)) legal.1

  back : (q : Placement) → Among q (all_but end (legal_ends p roll)) → Among q others
  back q m = let left = left-in end (legal_ends p roll) q m in are.all q (legal_ends-sound p roll q (Among-Contains q (legal_ends p roll) left.0)) left.1

  pub same-loss : (u : Words) → loss (plays_over stakes k end others u) ≡ loss_of stakes u p k (Played roll end)
  same-loss u =
      let kind = kind_at stakes k in
      both_ends (loss (plays_over stakes k end others u)) _ _
      (same-ahead (play_pair kind u) (λ (pair : Bounds). pair.lower) (play_pair kind u end).upper others (all_but end (legal_ends p roll)) there back)
      (same-ahead (play_pair kind u) (λ (pair : Bounds). pair.upper) (play_pair kind u end).lower others (all_but end (legal_ends p roll)) there back)

module _ (s : Source) (stakes : Terms) (valid : IsValid stakes) (fits : AreStakesOf s stakes) (p : Placement) (k : ℕ) (state : IsStateOf s.checkers s.kinds p k) where
  state-fits : IsState (game_of s.checkers stakes) p k
  state-fits = subst (λ (n : ℕ). IsStateOf s.checkers n p k) fits.kinds state

  pub source-positive : pos 0 ≤ℤ s.bound
  source-positive = subst (λ (b : ℤ). pos 0 ≤ℤ b) (sym fits.bound) (bound-positive stakes valid)

  pub source-wins : (won : Won) → IsWithin s.bound (win (kind_at stakes k) won)
  source-wins won =
      subst (λ (b : ℤ). IsWithin b (win (kind_at stakes k) won)) (sym fits.bound)
      (win-within stakes.bound (kind_at stakes k) (bound-positive stakes valid) (valid.kinds k no_kind state-fits.kind).wins won)

  pub source-leaves : (roll : Dice) → IsRoll roll → (q : Placement) → IsLegalEnd p roll q → LeavesState s (kind_at stakes k).next q
  source-leaves roll right q legal on =
      subst (λ (n : ℕ). IsStateOf s.checkers n (swap q) (kind_at stakes k).next) (sym fits.kinds)
      (next_state (game_of s.checkers stakes) valid p k state-fits roll q right (Contains-Among q (legal_ends p roll) (legal_ends-complete p roll q legal)) on)

  pub source-small : s.bound ≤ℤ pos (2 ^ 36)
  source-small = subst (λ (b : ℤ). b ≤ℤ pos (2 ^ 36)) (sym fits.bound) (bound-small stakes valid)

  pub source-near : (pair : Bounds) → IsWithin (pos 4 *ℤ s.bound) pair → IsNear pair
  source-near pair h = near-four s.bound pair source-small h

  once : s.bound ≤ℤ (pos 4 *ℤ s.bound)
  once = let z = source-positive in omega (arith, ints)

  pub near-play : (q : Placement) (w : Notes) (pair : Bounds) → IsPairFor (of_play (kind_at stakes k) q) s w pair → IsNear pair
  near-play q w pair is = source-near pair (pair-within s (of_play (kind_at stakes k) q) w pair (pos 4 *ℤ s.bound) once is)

  pub near-plays : (qs : List Placement) (w : Notes) (pairs : List Bounds) → ArePairsFor (of_play (kind_at stakes k)) qs s w pairs → All IsNear pairs
  near-plays qs w pairs rest = all-of IsNear pairs (λ pair m. source-near pair (pairs-within s (of_play (kind_at stakes k)) w (pos 4 *ℤ s.bound) qs (λ q n. once) pairs rest pair m))

  module _ (roll : Dice) (end : Placement) (others : List Placement) (are : AreOthers p roll end others) where
    module _ (w : Notes) (chosen : Bounds) (pairs : List Bounds) (one : IsPairFor (of_play (kind_at stakes k) end) s w chosen) (rest : ArePairsFor (of_play (kind_at stakes k)) others s w pairs) where
      right : IsTrue w.told → (q : Placement) (j : ℕ) → MayFollowRoll stakes p k roll q j → s.damage q j ≡ None
      right told q j may = by_same (same_position may.end end) refl where
        by_same : (same : Bool) → same_position may.end end ≡ same → s.damage q j ≡ None
        by_same true is = one.right told q j (subst (λ (r : Placement). IsLeft (kind_at stakes k).next r q j) (same-is may.end end is) may.left)
        by_same false is = pairs-right s (of_play (kind_at stakes k)) w told others pairs rest may.end (are.all may.end may.legal (other-is may.end end is)) q j may.left

      pub play-loss : IsPairFor (of_loss stakes p k (Played roll end)) s w (loss (record { chosen = chosen; others = pairs }))
      play-loss =
          let kind = kind_at stakes k in
          loss-pair s w (MayFollowRoll stakes p k roll) (plays_over stakes k end others) (λ u. loss_of stakes u p k (Played roll end)) (same-loss stakes p k roll end others are) source-positive (record { chosen = chosen; others = pairs })
          (record { chosen = pair-within s (of_play kind end) w chosen (pos 4 *ℤ s.bound) once one; others = pairs-within s (of_play kind) w (pos 4 *ℤ s.bound) others (λ q m. once) pairs rest })
          (λ told. record { chosen = pair-floor s (of_play kind end) w chosen one told; others = pairs-floor s (of_play kind) w told others pairs rest })
          (λ told. record { chosen = pair-notes s (of_play kind end) w chosen one told; others = pairs-notes s (of_play kind) w told others pairs rest })
          right
