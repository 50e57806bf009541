-- A legal play has no fault, and a written play that is one has none.
use Rattle.std.proofs.Common.{◌≡◌, ◌≢◌, ◌<◌, ◌≤◌, ◌⊎◌, ◌↔◌, IsTrue, ℕ, zero, suc, Bool, true, false, cond, eqb, List, [], ◌∷◌, length, replicate, map, get_or, Some, inl, inr, refl, sym, ap, subst, ◌∙◌, arith}
use Rattle.std.proofs.lemmas.Bool.Decides.{nat_tests}
use Rattle.std.specs.List.{slice_get, remove}
use Rattle.position_rank.specs.Placement.{Placement, above}
use Rattle.roll_table.specs.Rolls.{Dice, dice_of}
use Rattle.move_rules.specs.declared.play.Move.{Move}
use Rattle.move_rules.specs.declared.written.Step.{Step}
use Rattle.move_rules.specs.declared.applied.BadPlay.{BadPlay}
use Rattle.move_rules.specs.declared.applied.BadPlay.TheVariants.{WrongDice, NoChecker, BarFirst, NotHome, Closed, HitMark, TooFew, HigherDie}
use Rattle.move_rules.specs.Moves.{MayLeave, IsMove}
use Rattle.move_rules.specs.Sequences.{IsSequence, IsLegal}
use Rattle.move_rules.specs.Faults.{HasFault, IsFirstWrong, IsWholeFault, IsFault}
use Rattle.move_rules.specs.Written.{IsSmallest, IsGreatest, IsDieOf, IsHit, IsStep, IsWritten, Leaves, IsWrongStep, IsWrongWritten, IsWrittenFault}
use Rattle.move_rules.proofs.EndsExact.{after_move-complete, same_dice}
use Rattle.move_rules.proofs.FaultLaws.{Contains-got}
use Rattle.move_rules.proofs.WrittenLegal.{IsTakenAs, written-legal}

leaves : (p : Placement) (die from : ℕ) (q : Placement) → IsMove p die from q → MayLeave p from
leaves p die from q (inl runs) = runs.leaves
leaves p die from q (inr off) = off.leaves

off_board : (p : Placement) (from : ℕ) → 1 ≤ from → from ≤ 25 → 0 < get_or p.mover from 0 → (from < 1) ⊎ (25 < from) ⊎ (get_or p.mover from 0 ≡ 0) → ⊥
off_board p from low high held (inl a) = absurd (omega arith)
off_board p from low high held (inr (inl b)) = absurd (omega arith)
off_board p from low high held (inr (inr c)) = absurd (omega arith)

bar_first : (from bar : ℕ) → (from ≡ 25) ⊎ (bar ≡ 0) → from ≢ 25 → 0 < bar → ⊥
bar_first from bar (inl e) h k = h e
bar_first from bar (inr e) h k = absurd (omega arith)

at_home : (from die outside higher : ℕ) → outside ≡ 0 → (from ≡ die) ⊎ (higher ≡ 0) → (0 < outside) ⊎ ((from ≢ die) × (0 < higher)) → ⊥
at_home from die outside higher home highest (inl h) = absurd (omega arith)
at_home from die outside higher home (inl e) (inr h) = h.0 e
at_home from die outside higher home (inr e) (inr h) = let more = h.1 in absurd (omega (arith, more, e))

-- a move that is made has no fault
right_move : (p : Placement) (dice : List ℕ) (i : ℕ) (m : Move) (next : Placement) (fault : BadPlay) → slice_get dice i ≡ Some m.die → IsMove p m.die m.from next → HasFault p dice m fault → ⊥
right_move p dice i m next WrongDice e move h = h (Contains-got dice i m.die e)
right_move p dice i m next NoChecker e move h = let l = leaves p m.die m.from next move in off_board p m.from l.place l.within l.checker h
right_move p dice i m next BarFirst e move h = let l = leaves p m.die m.from next move in bar_first m.from _ l.bar_first h.0 h.1
right_move p dice i m next NotHome e (inl runs) h = let outside = runs.on_board in let reaches = h.0 in absurd (omega (arith, outside, reaches))
right_move p dice i m next NotHome e (inr off) h = at_home m.from m.die (above p.mover 6) (above p.mover m.from) off.home off.highest h.1
right_move p dice i m next Closed e (inl runs) h = let free = runs.open_point in let held = h.1 in absurd (omega (arith, free, held))
right_move p dice i m next Closed e (inr off) h = let reaches = off.reaches in let outside = h.0 in absurd (omega (arith, reaches, outside))
right_move p dice i m next HitMark e move h = h
right_move p dice i m next TooFew e move h = h
right_move p dice i m next HigherDie e move h = h

same_some : {X : Type 0} (x y : X) → Some x ≡ Some y → x ≡ y
same_some x y e = cc

-- a move leaves one position
one_next : (p : Placement) (die from : ℕ) (q r : Placement) → IsMove p die from q → IsMove p die from r → q ≡ r
one_next p die from q r a b = same_some q r (sym (after_move-complete p die from q a) ∙ after_move-complete p die from r b)

alike : (n d : ℕ) (p : Placement) (moves : List Move) (q : Placement) (fault : BadPlay) → IsSequence p (replicate n d) moves q → IsFirstWrong p (replicate n d) moves fault → ⊥
alike n d p [] q fault s w = w
alike n d p (m ∷ moves) q fault (i, e, next, move, rest) (inl here) = right_move p (replicate n d) i m next fault e move here.fault_is
alike n d p (m ∷ moves) q fault (i, e, next, move, rest) (inr (j, e', next', move', wrong)) =
    let a = same_dice n d i m.die e in
    let b = same_dice n d j m.die e' in
    let same = one_next p m.die m.from next' next move' move in
    let fewer : b.0 ≡ a.0 = omega (arith, a.1, b.1) in
    let left : remove (replicate n d) j ≡ replicate a.0 d = b.3 ∙ ap (λ (k : ℕ). replicate k d) fewer in
    alike a.0 d next moves q fault (rw (← a.3) rest) (subst (λ (x : Placement). IsFirstWrong x (replicate a.0 d) moves fault) same (subst (λ (xs : List ℕ). IsFirstWrong next' xs moves fault) left wrong))

two : (a b : ℕ) → a ≢ b → (p : Placement) (moves : List Move) (q : Placement) (fault : BadPlay) → IsSequence p (a ∷ b ∷ []) moves q → IsFirstWrong p (a ∷ b ∷ []) moves fault → ⊥
two a b apart p [] q fault s w = w
two a b apart p (m ∷ moves) q fault (i, e, next, move, rest) (inl here) = right_move p (a ∷ b ∷ []) i m next fault e move here.fault_is
two a b apart p (m ∷ moves) q fault (zero, e, next, move, rest) (inr (zero, e', next', move', wrong)) =
    alike 1 b next moves q fault rest (subst (λ (x : Placement). IsFirstWrong x (b ∷ []) moves fault) (one_next p m.die m.from next' next move' move) wrong)
two a b apart p (m ∷ moves) q fault (suc zero, e, next, move, rest) (inr (suc zero, e', next', move', wrong)) =
    alike 1 a next moves q fault rest (subst (λ (x : Placement). IsFirstWrong x (a ∷ []) moves fault) (one_next p m.die m.from next' next move' move) wrong)
two a b apart p (m ∷ moves) q fault (zero, e, next, move, rest) (inr (suc zero, e', next', move', wrong)) = apart (same_some a b (e ∙ sym e'))
two a b apart p (m ∷ moves) q fault (suc zero, e, next, move, rest) (inr (zero, e', next', move', wrong)) = apart (same_some a b (e' ∙ sym e))
two a b apart p (m ∷ moves) q fault (suc (suc i), e, next, move, rest) (inr (j, e', next', move', wrong)) = absurd (grind arith)
two a b apart p (m ∷ moves) q fault (zero, e, next, move, rest) (inr (suc (suc j), e', next', move', wrong)) = absurd (grind arith)
two a b apart p (m ∷ moves) q fault (suc zero, e, next, move, rest) (inr (suc (suc j), e', next', move', wrong)) = absurd (grind arith)

-- a sequence has no wrong move
pub sequence-right : (p : Placement) (roll : Dice) (moves : List Move) (q : Placement) (fault : BadPlay) → IsSequence p (dice_of roll) moves q → IsFirstWrong p (dice_of roll) moves fault → ⊥
sequence-right p roll moves q fault s w = by (eqb roll.high roll.low) refl s w where
  by : (b : Bool) → eqb roll.high roll.low ≡ b → IsSequence p (cond b (roll.high ∷ roll.high ∷ roll.high ∷ roll.high ∷ []) (roll.high ∷ roll.low ∷ [])) moves q → IsFirstWrong p (cond b (roll.high ∷ roll.high ∷ roll.high ∷ roll.high ∷ []) (roll.high ∷ roll.low ∷ [])) moves fault → ⊥
  by true e s w = alike 4 roll.high p moves q fault s w
  by false e s w = two roll.high roll.low (λ same. absurd (grind (arith, nat_tests))) p moves q fault s w

length-dies : (moves : List Move) → length (map (λ (move : Move). move.die) moves) ≡ length moves
length-dies [] = refl
length-dies (m ∷ moves) = ap suc (length-dies moves)

one_head : (x y : ℕ) → x ∷ [] ≡ y ∷ [] → x ≡ y
one_head x y e = cc

-- a legal sequence has nothing wrong with all of it
pub legal-whole : (p : Placement) (roll : Dice) (moves : List Move) (q : Placement) (fault : BadPlay) → IsLegal p roll moves q → IsWholeFault p roll moves fault → ⊥
legal-whole p roll moves q TooFew legal w = absurd (omega (arith, legal.longest w.others w.others_end w.other, w.more))
legal-whole p roll moves q HigherDie legal w =
    let one : length moves ≡ 1 = sym (length-dies moves) ∙ ap length w.lower in
    let less = w.unequal in
    let higher = legal.higher one (λ e. absurd (omega arith)) w.can in
    let same : roll.high ≡ roll.low = one_head roll.high roll.low (sym higher ∙ w.lower) in
    absurd (omega arith)
legal-whole p roll moves q WrongDice legal w = w
legal-whole p roll moves q NoChecker legal w = w
legal-whole p roll moves q BarFirst legal w = w
legal-whole p roll moves q NotHome legal w = w
legal-whole p roll moves q Closed legal w = w
legal-whole p roll moves q HitMark legal w = w

pub legal-right : (p : Placement) (roll : Dice) (moves : List Move) (q : Placement) (fault : BadPlay) → IsLegal p roll moves q → IsFault p roll moves fault → ⊥
legal-right p roll moves q fault legal (inl wrong) = sequence-right p roll moves q fault legal.sequence wrong
legal-right p roll moves q fault legal (inr whole) = legal-whole p roll moves q fault legal whole

-- ---- written plays

least_die : (dice : List ℕ) (from die other : ℕ) → IsSmallest dice from die → IsSmallest dice from other → die ≤ other
least_die dice from die other a b = let k = b.0 in rw k.2 at (a.2 k.0 other k.1 (rw k.2 b.1))

greatest_die : (dice : List ℕ) (from die other : ℕ) → IsGreatest dice from die → IsGreatest dice from other → other ≤ die
greatest_die dice from die other a b = let k = b.0 in rw k.2 at (a.2 k.0 other k.1)

both_ways : (a b : ℕ) → a ≤ b → b ≤ a → a ≡ b
both_ways a b h k = omega arith

-- a step is made by one die
one_die_of : (p : Placement) (dice : List ℕ) (step : Step) (a b : ℕ) → IsDieOf p dice step a → IsDieOf p dice step b → a ≡ b
one_die_of p dice step a b (inl h) (inl k) = h.1 ∙ sym k.1
one_die_of p dice step a b (inl h) (inr (inl k)) = let above = h.0 in let off = k.0 in absurd (omega (arith, above, off))
one_die_of p dice step a b (inl h) (inr (inr k)) = let above = h.0 in let off = k.0 in absurd (omega (arith, above, off))
one_die_of p dice step a b (inr (inl h)) (inl k) = let above = k.0 in let off = h.0 in absurd (omega (arith, above, off))
one_die_of p dice step a b (inr (inr h)) (inl k) = let above = k.0 in let off = h.0 in absurd (omega (arith, above, off))
one_die_of p dice step a b (inr (inl h)) (inr (inl k)) = both_ways a b (greatest_die dice step.from b a k.2 h.2) (greatest_die dice step.from a b h.2 k.2)
one_die_of p dice step a b (inr (inl h)) (inr (inr k)) = absurd (k.1 h.1)
one_die_of p dice step a b (inr (inr h)) (inr (inl k)) = absurd (h.1 k.1)
one_die_of p dice step a b (inr (inr h)) (inr (inr k)) = both_ways a b (least_die dice step.from a b h.2 k.2) (least_die dice step.from b a k.2 h.2)

as_made : (m : Move) (from die : ℕ) → m.from ≡ from → m.die ≡ die → m ≡ record { from = from; die = die }
as_made m from die h k =
    let with_from : ℕ → Move = λ n. record { from = n; die = m.die } in
    let with_die : ℕ → Move = λ n. record { from = from; die = n } in
    ap with_from h ∙ ap with_die k

-- a step is written for one move
one_move_of : (p : Placement) (dice : List ℕ) (step : Step) (m n : Move) (i j : ℕ) (q r : Placement) → IsStep p dice step m i q → IsStep p dice step n j r → m ≡ n
one_move_of p dice step m n i j q r a b = as_made m n.from n.die (a.from ∙ sym b.from) (one_die_of p dice step m.die n.die a.die b.die)

-- a step that is right isn't wrong
right_step : (p : Placement) (dice : List ℕ) (step : Step) (m : Move) (i : ℕ) (next : Placement) (fault : BadPlay) → IsStep p dice step m i next → IsWrongStep p dice step fault → ⊥
right_step p dice step m i next fault right (inl (e, none)) = none m.die right.die
right_step p dice step m i next fault right (inr (inl (die, is, wrong))) =
    let same = as_made m step.from die right.from (one_die_of p dice step m.die die right.die is) in
    right_move p dice i m next fault right.left right.made (subst (λ (x : Move). HasFault p dice x fault) (sym same) wrong.fault_is)
right_step p dice step m i next fault right (inr (inr (e, die, is, marked))) =
    let same = as_made m step.from die right.from (one_die_of p dice step m.die die right.die is) in
    marked.mark (subst (λ (x : Move). IsTrue step.hit ↔ IsHit p x) same right.mark)

written-alike : (n d : ℕ) (p : Placement) (steps : List Step) (moves : List Move) (q : Placement) (fault : BadPlay) → IsWritten p (replicate n d) steps moves q → IsWrongWritten p (replicate n d) steps fault → ⊥
written-alike n d p [] [] q fault s w = w
written-alike n d p [] (m ∷ moves) q fault s w = w
written-alike n d p (step ∷ steps) [] q fault s w = s
written-alike n d p (step ∷ steps) (m ∷ moves) q fault (i, next, right, rest) (inl here) = right_step p (replicate n d) step m i next fault right here
written-alike n d p (step ∷ steps) (m ∷ moves) q fault (i, next, right, rest) (inr (m', j, next', right', wrong)) =
    let one = one_move_of p (replicate n d) step m' m j i next' next right' right in
    let made = subst (λ (x : Move). IsMove p x.die x.from next') one right'.made in
    let same = one_next p m.die m.from next' next made right.made in
    let a = same_dice n d i m.die right.left in
    let b = same_dice n d j m'.die right'.left in
    let fewer : b.0 ≡ a.0 = omega (arith, a.1, b.1) in
    let left : remove (replicate n d) j ≡ replicate a.0 d = b.3 ∙ ap (λ (k : ℕ). replicate k d) fewer in
    written-alike a.0 d next steps moves q fault (rw (← a.3) rest) (subst (λ (x : Placement). IsWrongWritten x (replicate a.0 d) steps fault) same (subst (λ (xs : List ℕ). IsWrongWritten next' xs steps fault) left wrong))

written-two : (a b : ℕ) → a ≢ b → (p : Placement) (steps : List Step) (moves : List Move) (q : Placement) (fault : BadPlay) → IsWritten p (a ∷ b ∷ []) steps moves q → IsWrongWritten p (a ∷ b ∷ []) steps fault → ⊥
written-two a b apart p [] [] q fault s w = w
written-two a b apart p [] (m ∷ moves) q fault s w = w
written-two a b apart p (step ∷ steps) [] q fault s w = s
written-two a b apart p (step ∷ steps) (m ∷ moves) q fault (i, next, right, rest) (inl here) = right_step p (a ∷ b ∷ []) step m i next fault right here
written-two a b apart p (step ∷ steps) (m ∷ moves) q fault (i, next, right, rest) (inr (m', j, next', right', wrong)) =
    let one = one_move_of p (a ∷ b ∷ []) step m' m j i next' next right' right in
    let made = subst (λ (x : Move). IsMove p x.die x.from next') one right'.made in
    let same = one_next p m.die m.from next' next made right.made in
    let left' = subst (λ (x : Move). slice_get (a ∷ b ∷ []) j ≡ Some x.die) one right'.left in
    go i j right.left left' rest (subst (λ (x : Placement). IsWrongWritten x (remove (a ∷ b ∷ []) j) steps fault) same wrong) where
      go : (i j : ℕ) → slice_get (a ∷ b ∷ []) i ≡ Some m.die → slice_get (a ∷ b ∷ []) j ≡ Some m.die → IsWritten next (remove (a ∷ b ∷ []) i) steps moves q → IsWrongWritten next (remove (a ∷ b ∷ []) j) steps fault → ⊥
      go zero zero e k s w = written-alike 1 b next steps moves q fault s w
      go (suc zero) (suc zero) e k s w = written-alike 1 a next steps moves q fault s w
      go zero (suc zero) e k s w = apart (same_some a b (e ∙ sym k))
      go (suc zero) zero e k s w = apart (same_some a b (k ∙ sym e))
      go (suc (suc i)) j e k s w = absurd (grind arith)
      go zero (suc (suc j)) e k s w = absurd (grind arith)
      go (suc zero) (suc (suc j)) e k s w = absurd (grind arith)

moves-alike : (n d : ℕ) (p : Placement) (steps : List Step) (moves others : List Move) (q r : Placement) → IsWritten p (replicate n d) steps moves q → IsWritten p (replicate n d) steps others r → moves ≡ others
moves-alike n d p [] [] [] q r s t = refl
moves-alike n d p [] [] (o ∷ others) q r s t = absurd t
moves-alike n d p [] (m ∷ moves) others q r s t = absurd s
moves-alike n d p (step ∷ steps) [] others q r s t = absurd s
moves-alike n d p (step ∷ steps) (m ∷ moves) [] q r s t = absurd t
moves-alike n d p (step ∷ steps) (m ∷ moves) (o ∷ others) q r (i, next, right, rest) (j, next', right', rest') =
    let one = one_move_of p (replicate n d) step o m j i next' next right' right in
    let made = subst (λ (x : Move). IsMove p x.die x.from next') one right'.made in
    let same = one_next p m.die m.from next' next made right.made in
    let a = same_dice n d i m.die right.left in
    let b = same_dice n d j o.die right'.left in
    let fewer : b.0 ≡ a.0 = omega (arith, a.1, b.1) in
    let left : remove (replicate n d) j ≡ replicate a.0 d = b.3 ∙ ap (λ (k : ℕ). replicate k d) fewer in
    let later = moves-alike a.0 d next steps moves others q r (rw (← a.3) rest) (subst (λ (x : Placement). IsWritten x (replicate a.0 d) steps others r) same (subst (λ (xs : List ℕ). IsWritten next' xs steps others r) left rest')) in
    ap (λ (x : Move). x ∷ moves) (sym one) ∙ ap (λ (xs : List Move). o ∷ xs) later

moves-two : (a b : ℕ) → a ≢ b → (p : Placement) (steps : List Step) (moves others : List Move) (q r : Placement) → IsWritten p (a ∷ b ∷ []) steps moves q → IsWritten p (a ∷ b ∷ []) steps others r → moves ≡ others
moves-two a b apart p [] [] [] q r s t = refl
moves-two a b apart p [] [] (o ∷ others) q r s t = absurd t
moves-two a b apart p [] (m ∷ moves) others q r s t = absurd s
moves-two a b apart p (step ∷ steps) [] others q r s t = absurd s
moves-two a b apart p (step ∷ steps) (m ∷ moves) [] q r s t = absurd t
moves-two a b apart p (step ∷ steps) (m ∷ moves) (o ∷ others) q r (i, next, right, rest) (j, next', right', rest') =
    let one = one_move_of p (a ∷ b ∷ []) step o m j i next' next right' right in
    let made = subst (λ (x : Move). IsMove p x.die x.from next') one right'.made in
    let same = one_next p m.die m.from next' next made right.made in
    let left' = subst (λ (x : Move). slice_get (a ∷ b ∷ []) j ≡ Some x.die) one right'.left in
    let later = go i j right.left left' rest (subst (λ (x : Placement). IsWritten x (remove (a ∷ b ∷ []) j) steps others r) same rest') in
    ap (λ (x : Move). x ∷ moves) (sym one) ∙ ap (λ (xs : List Move). o ∷ xs) later where
      go : (i j : ℕ) → slice_get (a ∷ b ∷ []) i ≡ Some m.die → slice_get (a ∷ b ∷ []) j ≡ Some m.die → IsWritten next (remove (a ∷ b ∷ []) i) steps moves q → IsWritten next (remove (a ∷ b ∷ []) j) steps others r → moves ≡ others
      go zero zero e k s t = moves-alike 1 b next steps moves others q r s t
      go (suc zero) (suc zero) e k s t = moves-alike 1 a next steps moves others q r s t
      go zero (suc zero) e k s t = absurd (apart (same_some a b (e ∙ sym k)))
      go (suc zero) zero e k s t = absurd (apart (same_some a b (k ∙ sym e)))
      go (suc (suc i)) j e k s t = absurd (grind arith)
      go zero (suc (suc j)) e k s t = absurd (grind arith)
      go (suc zero) (suc (suc j)) e k s t = absurd (grind arith)

-- what is taken has no fault
taken-right : (p : Placement) (roll : Dice) (steps : List Step) (q : Placement) (fault : BadPlay) → IsTakenAs p roll steps q → IsWrittenFault p roll steps fault → ⊥
taken-right p roll steps q fault (moves, written, legal) (inl wrong) = by (eqb roll.high roll.low) refl written wrong where
  by : (b : Bool) → eqb roll.high roll.low ≡ b → IsWritten p (cond b (roll.high ∷ roll.high ∷ roll.high ∷ roll.high ∷ []) (roll.high ∷ roll.low ∷ [])) steps moves q → IsWrongWritten p (cond b (roll.high ∷ roll.high ∷ roll.high ∷ roll.high ∷ []) (roll.high ∷ roll.low ∷ [])) steps fault → ⊥
  by true e s w = written-alike 4 roll.high p steps moves q fault s w
  by false e s w = written-two roll.high roll.low (λ same. absurd (grind (arith, nat_tests))) p steps moves q fault s w
taken-right p roll steps q fault (moves, written, legal) (inr (others, end, other, whole)) =
    let same = by (eqb roll.high roll.low) refl other written in
    legal-whole p roll moves q fault legal (subst (λ (xs : List Move). IsWholeFault p roll xs fault) same whole) where
      by : (b : Bool) → eqb roll.high roll.low ≡ b → IsWritten p (cond b (roll.high ∷ roll.high ∷ roll.high ∷ roll.high ∷ []) (roll.high ∷ roll.low ∷ [])) steps others end → IsWritten p (cond b (roll.high ∷ roll.high ∷ roll.high ∷ roll.high ∷ []) (roll.high ∷ roll.low ∷ [])) steps moves q → others ≡ moves
      by true e s t = moves-alike 4 roll.high p steps others moves end q s t
      by false e s t = moves-two roll.high roll.low (λ same. absurd (grind (arith, nat_tests))) p steps others moves end q s t

-- nor has a written play that is right
pub written-right : (p : Placement) (roll : Dice) (steps : List Step) (q : Placement) (fault : BadPlay) → Leaves p roll steps q → IsWrittenFault p roll steps fault → ⊥
written-right p roll steps q fault right wrong = taken-right p roll steps q fault (written-legal p roll right.moves q steps right.roll_is right.legal right.written) wrong
