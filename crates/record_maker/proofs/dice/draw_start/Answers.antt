use Rattle.std.proofs.Common.{◌≡◌, ◌≢◌, ◌∙◌, ◌+◌, ◌-◌, ℕ, Bool, true, false, suc, eqb, cond, sym, ap, refl, arith}
use Rattle.std.proofs.lemmas.Bool.Decides.{nat_tests}
use Rattle.rand_pcg.specs.Lcg.{Lcg}
use Rattle.roll_table.specs.Rolls.{Dice}
use Rattle.game_record.specs.declared.player.Player.TheVariants.{A}
use Rattle.record_maker.specs.Draws.{Start, die, rest, roll_of, start_in, started_by, starter}
use Rattle.record_maker.proofs.dice.draw_start.Goals as goal

-- two dice, where so many draws are left
one_draw : (n m a b : ℕ) (words after end : Lcg) → n ≡ suc m → a ≡ die words → after ≡ rest words → b ≡ die after → end ≡ rest after
    → started_by a b end (start_in m) ≡ start_in n words
unfolding start_in
one_draw n m a b words after end is first one second two =
    (λ i. started_by (first i) (second i) (two i) (start_in m))
    ∙ (λ i. started_by (die words) (die (one i)) (rest (one i)) (start_in m))
    ∙ ap (λ k. start_in k words) (sym is)

equal : (a b : ℕ) (end : Lcg) (again : Lcg → Start) → a ≡ b → started_by a b end again ≡ again end
equal a b end again same = go (eqb a b) refl where
  go : (t : Bool) → eqb a b ≡ t → cond t (again end) (record { player = starter a b; roll = roll_of a b; after = end }) ≡ again end
  go true e = refl
  go false e = absurd (grind (arith, nat_tests))

unequal : (a b : ℕ) (end : Lcg) (again : Lcg → Start) → a ≢ b → started_by a b end again ≡ record { player = starter a b; roll = roll_of a b; after = end }
unequal a b end again apart = go (eqb a b) refl where
  go : (t : Bool) → eqb a b ≡ t → cond t (again end) (record { player = starter a b; roll = roll_of a b; after = end }) ≡ record { player = starter a b; roll = roll_of a b; after = end }
  go true e = absurd (grind (arith, nat_tests))
  go false e = refl

none : (n : ℕ) (words : Lcg) → n ≡ 0 → record { player = A; roll = roll_of 2 1; after = words } ≡ start_in n words
unfolding start_in
none n words is = ap (λ k. start_in k words) (sym is)

pub returns-then-a-b : goal.returns-then-a-b
returns-then-a-b c =
    let a = c.draw_die-a.result in
    let b = c.draw_die-b.result in
    let end = c.draw_die-b.new.words in
    let left = 31 - c.draws.counter in
    (λ i. record { player = c.starter.ensures i; roll = c.roll_of.ensures i; after = end })
    ∙ sym (unequal a b end (start_in left) c.if-a-b.true)
    ∙ one_draw (32 - c.draws.counter) left a b c.draws.words c.draw_die-a.new.words end (omega (arith, c.draws-test.true)) c.draw_die-a.ensures.die c.draw_die-a.ensures.rest c.draw_die-b.ensures.die c.draw_die-b.ensures.rest
    ∙ c.draws.invariant

pub draws-preserved : goal.draws-preserved
draws-preserved c =
    let a = c.draw_die-a.result in
    let b = c.draw_die-b.result in
    let end = c.draw_die-b.new.words in
    let left = 31 - c.draws.counter in
    let fewer : 32 - (c.draws.counter + 1) ≡ left = omega arith in
    ap (λ n. start_in n end) fewer
    ∙ sym (equal a b end (start_in left) c.if-a-b.false)
    ∙ one_draw (32 - c.draws.counter) left a b c.draws.words c.draw_die-a.new.words end (omega (arith, c.draws-test.true)) c.draw_die-a.ensures.die c.draw_die-a.ensures.rest c.draw_die-b.ensures.die c.draw_die-b.ensures.rest
    ∙ c.draws.invariant

pub returns : goal.returns
returns c =
    ap (λ (roll : Dice). record { player = A; roll = roll; after = c.draws.words }) c.roll_of-2.ensures
    ∙ none (32 - c.draws.counter) c.draws.words (omega (arith, c.draws-test.false))
    ∙ c.draws.invariant
