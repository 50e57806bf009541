-- What is told by looks that don't go all the way.
use Rattle.std.proofs.Common.{◌≡◌, Bool, true, false, ◌&&◌, ◌||◌, cond, ℕ, List, [], ◌∷◌, refl, sym, ap, ◌∙◌}
use Rattle.std.specs.List.{list_all, list_any}
use Rattle.std.proofs.lemmas.Bool.{false≢true}
use Rattle.position_rank.specs.Placement.{Placement}
use Rattle.position_text.proofs.PlaceTexts.{both-true}
use Rattle.interval_words.specs.WordLists.{WordList}
use Rattle.base_scan.specs.declared.condition.Test.{Test}
use Rattle.base_scan.specs.declared.condition.Field.{Field}
use Rattle.base_scan.specs.declared.condition.Field.TheVariants.{LowerWord, UpperWord, Width, KindNumber, Pips, OtherPips, Off, OtherOff, OnBar, OtherOnBar, Offered, Answered}
use Rattle.base_scan.specs.declared.numbers.Depth.TheVariants.{Checkers, Words, Advice}
use Rattle.base_scan.specs.Meets.{asks_more, meets, meets_by, number_of, says, says_by, says_of}

all-weaker : (f g : Test → Bool) → ((test : Test) → g test ≡ true → f test ≡ true) → (tests : List Test) → list_all g tests ≡ true → list_all f tests ≡ true
all-weaker f g le [] h = refl
all-weaker f g le (test ∷ tests) h = let both = both-true (g test) (list_all g tests) h in rw (le test both.0, all-weaker f g le tests both.1) refl

any-weaker : (f g : Test → Bool) → ((test : Test) → g test ≡ true → f test ≡ true) → (groups : List (List Test)) → list_any (list_all g) groups ≡ true → list_any (list_all f) groups ≡ true
any-weaker f g le [] h = h
any-weaker f g le (group ∷ groups) h = some (list_all g group) (list_all f group) _ _ (all-weaker f g le group) (any-weaker f g le groups) h where
  some : (a b c d : Bool) → (a ≡ true → b ≡ true) → (c ≡ true → d ≡ true) → (a || c) ≡ true → (b || d) ≡ true
  some true b c d one other h = rw (one refl) refl
  some false true c d one other h = refl
  some false false c d one other h = other h

last : (a b : Bool) → (b ≡ true → a ≡ true) → (a && b) ≡ b
last true b h = refl
last false true h = h refl
last false false h = refl

module _ (words : WordList) (groups : List (List Test)) (p : Placement) where
  may : (asks says : Bool) → says ≡ true → cond asks true says ≡ true
  may true says h = refl
  may false says h = h

  advice-last : (k : ℕ) → (meets_by Words words groups p k && meets_by Advice words groups p k) ≡ meets words groups p k
  advice-last k =
      last (meets_by Words words groups p k) (meets words groups p k)
      (any-weaker (says_by Words words p k) (says_of words p k) (λ test h. may (asks_more Words test.field) (says_of words p k test) h) groups)

  pub no-advice : (k : ℕ) → meets_by Words words groups p k ≡ false → meets words groups p k ≡ false
  no-advice k e = sym (advice-last k) ∙ ap (λ (b : Bool). b && meets_by Advice words groups p k) e

  -- what a test says by the checkers alone is the same of each kind
  by-checkers : (j k : ℕ) (test : Test) (field : Field) → says test (number_of words p k field) ≡ true → cond (asks_more Checkers field) true (says test (number_of words p j field)) ≡ true
  by-checkers j k test LowerWord h = refl
  by-checkers j k test UpperWord h = refl
  by-checkers j k test Width h = refl
  by-checkers j k test KindNumber h = refl
  by-checkers j k test Pips h = h
  by-checkers j k test OtherPips h = h
  by-checkers j k test Off h = h
  by-checkers j k test OtherOff h = h
  by-checkers j k test OnBar h = h
  by-checkers j k test OtherOnBar h = h
  by-checkers j k test Offered h = refl
  by-checkers j k test Answered h = refl

  true-or : (a b : Bool) → a ≡ false → (b ≡ true → a ≡ true) → b ≡ false
  true-or false false h w = refl
  true-or false true h w = sym (w refl)
  true-or true b h w = absurd (false≢true (sym h))

  pub no-checkers : (j k : ℕ) → meets_by Checkers words groups p j ≡ false → meets words groups p k ≡ false
  no-checkers j k e =
      true-or (meets_by Checkers words groups p j) (meets words groups p k) e
      (any-weaker (says_by Checkers words p j) (says_of words p k) (λ test h. by-checkers j k test test.field h) groups)
