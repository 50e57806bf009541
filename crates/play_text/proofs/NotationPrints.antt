-- Plays that are printed move by move.
use Rattle.std.proofs.Common.{◌≡◌, ◌≤◌, ◌<◌, ◌+◌, ◌-◌, ◌*◌, ℕ, zero, suc, Bool, true, false, cond, eqb, IsTrue, List, [], ◌∷◌, ◌++◌, length, map, fold, codes, inl, inr, Some, refl, sym, ap, subst, ◌∙◌, arith, append_assoc, length-append}
use Rattle.std.proofs.lemmas.Bool.Decides.{nat_tests}
use Rattle.std.proofs.lemmas.List.Elements.{All-cons, All-nil}
use Rattle.std.specs.List.{All, slice_get, remove, join_with_byte}
use Rattle.std.specs.Option.{unwrap_or}
use Rattle.std.specs.Prelude.{◌↔◌}
use Rattle.position_rank.specs.Placement.{Placement}
use Rattle.position_text.specs.Text.{place_text}
use Rattle.position_text.specs.TextParts.{add_word}
use Rattle.roll_table.specs.Rolls.{dice_of}
use Rattle.move_rules.specs.Ends.{next_board}
use Rattle.move_rules.specs.Moves.{IsMove}
use Rattle.move_rules.specs.Sequences.{IsSequence}
use Rattle.move_rules.specs.Written.{AreStepsOf, IsHit}
use Rattle.play_text.specs.Notation.{mark, step_word, step_text, play_of_words, HitsPoint, IsPlayText, is_hit, words_from, play_text, CanFollow}
use Rattle.move_rules.specs.declared.play.Move.{Move}
use Rattle.move_rules.specs.declared.written.Step.{Step}
use Rattle.move_rules.proofs.EndsExact.{after_move-complete}
use Rattle.move_rules.proofs.FaultLaws.{All-remove, dice-from}
use Rattle.play_text.proofs.NotationWords.{step_word-cut}

-- ---- moves that can be made in turn

pub record Follows (p : Placement) (moves : List Move) : Type 0 where
  pub dice : List ℕ
  pub above_none : All (λ die. 1 ≤ die) dice
  pub end : Placement
  pub sequence : IsSequence p dice moves end

pub follows : (p : Placement) (moves : List Move) → CanFollow p moves → Follows p moves
follows p moves can = record { dice = dice_of can.roll; above_none = dice-from can.roll (dice_of can.roll) can.valid refl; end = can.end; sequence = can.sequence }

pub record Begins (p : Placement) (move : Move) (moves : List Move) : Type 0 where
  pub die : 1 ≤ move.die
  pub from : 1 ≤ move.from
  pub place : move.from ≤ 25
  pub later : Follows (next_board p move) moves

got : (xs : List ℕ) (i x : ℕ) → All (λ die. 1 ≤ die) xs → slice_get xs i ≡ Some x → 1 ≤ x
got [] i x all e = absurd (cc)
got (y ∷ xs) zero x all e = let same : y ≡ x = cc in subst (λ z. 1 ≤ z) same (all 0 0 (omega arith))
got (y ∷ xs) (suc i) x all e = got xs i x (λ k d low. all (suc k) d (omega arith)) e

leaves : (p : Placement) (die from : ℕ) (q : Placement) → IsMove p die from q → (1 ≤ from) × (from ≤ 25)
leaves p die from q (inl runs) = (runs.leaves.place, runs.leaves.within)
leaves p die from q (inr off) = (off.leaves.place, off.leaves.within)

pub begins-with : (p : Placement) (move : Move) (moves : List Move) → Follows p (move ∷ moves) → Begins p move moves
begins-with p move moves f =
    let i = f.sequence.0 in
    let next = f.sequence.2 in
    let made : IsMove p move.die move.from next = f.sequence.3 in
    let places = leaves p move.die move.from next made in
    let is : next_board p move ≡ next = ap (λ o. unwrap_or o p) (after_move-complete p move.die move.from next made) in
    record {
      die = got f.dice i move.die f.above_none f.sequence.1;
      from = places.0;
      place = places.1;
      later = record { dice = remove f.dice i; above_none = All-remove f.dice i f.above_none; end = f.end; sequence = rw is f.sequence.4 };
    }

-- ---- the steps of moves

pub hit-told : (p : Placement) (move : Move) → IsTrue (is_hit p move) ↔ IsHit p move
hit-told p move = (λ h. grind (arith, nat_tests), λ h. grind (arith, nat_tests))

record HasSteps (p : Placement) (moves : List Move) : Type 0 where
  steps : List Step
  of : AreStepsOf p moves steps
  words : map step_text steps ≡ words_from p moves
  hits : All HitsPoint steps
  many : length steps ≡ length moves

has-steps : (p : Placement) (moves : List Move) → Follows p moves → HasSteps p moves
has-steps p [] f = record { steps = []; of = tt; words = refl; hits = All-nil HitsPoint; many = refl }
has-steps p (move ∷ moves) f =
    let first = begins-with p move moves f in
    let rest = has-steps (next_board p move) moves first.later in
    let low = first.die in
    let some = first.from in
    let told = hit-told p move in
    let step : Step = record { from = move.from; to = move.from - move.die; hit = is_hit p move; within = first.place; falls = omega (arith, low, some) } in
    record {
      steps = step ∷ rest.steps;
      of = (record { from = refl; to = refl; mark = told }, rest.of);
      words = ap (λ ws. step_text step ∷ ws) rest.words;
      hits = All-cons HitsPoint step rest.steps (λ h. let hit = told.0 h in omega (arith, hit.0)) rest.hits;
      many = omega (arith, rest.many);
    }

pub printed-read : (p : Placement) (moves : List Move) → CanFollow p moves → length moves ≤ 4 → (steps : List Step) × AreStepsOf p moves steps × IsPlayText (play_text p moves) steps
printed-read p moves can few =
    let has = has-steps p moves (follows p moves can) in
    (has.steps, has.of, record { words = ap play_of_words (sym has.words); hits = has.hits; few = omega (arith, has.many) })

-- ---- printing

join-glue : (text word : List ℕ) (ws : List (List ℕ)) → join_with_byte 32 ((text ++ 32 ∷ word) ∷ ws) ≡ text ++ 32 ∷ join_with_byte 32 (word ∷ ws)
join-glue text word [] = refl
join-glue text word (w ∷ ws) = append_assoc text (32 ∷ word) (32 ∷ join_with_byte 32 (w ∷ ws))

joined : (text : List ℕ) (ws : List (List ℕ)) → 0 < length text → fold add_word text ws ≡ join_with_byte 32 (text ∷ ws)
joined text [] h = refl
joined text (word ∷ ws) h =
    let some : eqb (length text) 0 ≡ false = grind (arith, nat_tests) in
    let longer : 0 < length (text ++ 32 ∷ word) = omega (arith, length-append text (32 ∷ word)) in
    rw some (joined (text ++ 32 ∷ word) ws longer ∙ join-glue text word ws)

step_word-full : (from to : ℕ) (hit : Bool) → 0 < length (step_word from to hit)
step_word-full from to hit = omega (arith, ap length (step_word-cut from to hit), length-append (place_text from) (47 ∷ (place_text to ++ mark hit)))

-- the text so far and the words that are left make the whole text
pub record HasPrinted (p : Placement) (moves : List Move) (text : List ℕ) (now : Placement) (left : List Move) (n : ℕ) : Type 0 where
  pub whole : fold add_word text (words_from now left) ≡ play_text p moves
  pub later : Follows now left
  pub short : length text ≤ 9 * n + 1

pub none-printed : (p : Placement) → Follows p [] → (text : List ℕ) → text ≡ codes "-" → HasPrinted p [] text p [] 0
none-printed p f text e = record { whole = e; later = f; short = omega (arith, ap length e) }

pub print-start : (p : Placement) (moves : List Move) → CanFollow p moves → (text : List ℕ) → (length moves ≡ 0 → text ≡ codes "-") → (0 < length moves → text ≡ []) → HasPrinted p moves text p moves 0
print-start p [] can text dash some = none-printed p (follows p [] can) text (dash refl)
print-start p (move ∷ moves) can text dash some =
    let empty : text ≡ [] = some (omega arith) in
    record {
      whole = ap (λ xs. fold add_word xs (words_from p (move ∷ moves))) empty ∙ joined (step_word move.from (move.from - move.die) (is_hit p move)) (words_from (next_board p move) moves) (step_word-full move.from (move.from - move.die) (is_hit p move));
      later = follows p (move ∷ moves) can;
      short = omega (arith, ap length empty);
    }

add_word-longer : (text word : List ℕ) → length (add_word text word) ≤ length text + 1 + length word
add_word-longer text word = by-cases (eqb (length text) 0) where
  by-cases : (b : Bool) → length (cond b word (text ++ 32 ∷ word)) ≤ length text + 1 + length word
  by-cases true = omega arith
  by-cases false = omega (arith, length-append text (32 ∷ word))

pub print-one : (p : Placement) (moves : List Move) (text : List ℕ) (now : Placement) (left : List Move) (n : ℕ) (move : Move) (rest : List Move) (word text' : List ℕ) (next : Placement)
    → HasPrinted p moves text now left n → left ≡ move ∷ rest → word ≡ step_word move.from (move.from - move.die) (is_hit now move) → length word ≤ 8 → text' ≡ add_word text word → next ≡ next_board now move → HasPrinted p moves text' next rest (n + 1)
print-one p moves text now left n move rest word text' next h e w low t b =
    let before = rw e at h in
    record {
      whole = rw (t, b, w) before.whole;
      later = rw b (begins-with now move rest before.later).later;
      short = omega (arith, ap length t, add_word-longer text word, h.short);
    }
