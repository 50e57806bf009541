-- The words that were read of the states before one, and of that one.
use Rattle.std.proofs.Common.{◌≡◌, ◌<◌, ◌+◌, ◌*◌, ◌^◌, ℕ, ℤ, pos, ◌+ℤ◌, List, [], ◌∷◌, ◌++◌, length, get_or, arith, sym, subst, ◌∙◌, inl, inr}
use Rattle.std.proofs.lemmas.Bool.{cases_lt}
use Rattle.std.proofs.lemmas.Int.{ints}
use Rattle.std.proofs.lemmas.List.{length-append, get_or_append_left, get_or_at}
use Rattle.directed_fixed.specs.declared.bounds.End.{End}
use Rattle.directed_fixed.specs.declared.bounds.End.TheVariants.{Lower, Upper}
use Rattle.turn_rule.specs.declared.game.Game.{Game}
use Rattle.interval_words.specs.declared.view.View.{View}
use Rattle.interval_words.specs.Numbers.{value_of, word_of}
use Rattle.interval_words.specs.Seats.{WasHeld}
use Rattle.game_census.specs.Saved.{WasRead, WereRead}

pub value_of-word : (word : ℕ) (value : ℤ) → pos word ≡ value +ℤ pos (2 ^ 36) → value_of word ≡ value
unfolding value_of
value_of-word word value is = omega (arith, ints, is)

-- a value that was held in this word
abbrev HeldAt : Game → ℕ → ℕ → Type 0
HeldAt game place word = (view : View) × WasHeld game view place (value_of word)

word-under : (end : End) (n many : ℕ) → n < many → word_of end n < 2 * many
word-under Lower n many h = omega (arith, h)
word-under Upper n many h = omega (arith, h)

module _ (game : Game) (many : ℕ) (list : List ℕ) (a b : ℕ) where
  one-long : length list ≡ 2 * many → length (list ++ a ∷ []) ≡ 2 * many + 1
  one-long long = length-append list (a ∷ []) ∙ omega (arith, long)

  older : length list ≡ 2 * many → (place : ℕ) → place < 2 * many → get_or ((list ++ a ∷ []) ++ b ∷ []) place 0 ≡ get_or list place 0
  older long place h =
      get_or_append_left (list ++ a ∷ []) (b ∷ []) 0 place (omega (arith, h, one-long long))
      ∙ get_or_append_left list (a ∷ []) 0 place (omega (arith, h, long))

  newest : length list ≡ 2 * many → HeldAt game (2 * many) a → HeldAt game (2 * many + 1) b → (end : End) → WasRead game ((list ++ a ∷ []) ++ b ∷ []) end many
  newest long lower upper Lower =
      let is : get_or ((list ++ a ∷ []) ++ b ∷ []) (2 * many) 0 ≡ a = get_or_append_left (list ++ a ∷ []) (b ∷ []) 0 (2 * many) (omega (arith, one-long long)) ∙ get_or_at list a [] 0 (2 * many) long in
      subst (λ (w : ℕ). HeldAt game (2 * many) w) (sym is) lower
  newest long lower upper Upper =
      subst (λ (w : ℕ). HeldAt game (2 * many + 1) w) (sym (get_or_at (list ++ a ∷ []) b [] 0 (2 * many + 1) (one-long long))) upper

  pub one_more : WereRead game many list → HeldAt game (2 * many) a → HeldAt game (2 * many + 1) b → WereRead game (many + 1) ((list ++ a ∷ []) ++ b ∷ [])
  one_more before lower upper = record {
    long = length-append (list ++ a ∷ []) (b ∷ []) ∙ omega (arith, one-long before.long);
    each = λ end n under. elim (cases_lt n many) [
      | inl low ↦ subst (λ (w : ℕ). HeldAt game (word_of end n) w) (sym (older before.long (word_of end n) (word-under end n many low))) (before.each end n low)
      | inr from ↦ (let same : n ≡ many = omega arith in subst (λ (m : ℕ). WasRead game ((list ++ a ∷ []) ++ b ∷ []) end m) (sym same) (newest before.long lower upper end))
    ];
  }
