-- How games are made one after another.
use Rattle.std.proofs.Common.{◌≡◌, ◌+◌, ◌<◌, ◌≤◌, ◌⊎◌, ℕ, Bool, true, false, not, ◌&&◌, List, [], ◌∷◌, ◌++◌, inl, inr, refl, subst, arith, nat_lt}
use Rattle.std.proofs.lemmas.Bool.Decides.{nat_tests}
use Rattle.game_record.specs.declared.record.Game.{Game}
use Rattle.record_maker.specs.declared.size.Size.{Size}
use Rattle.record_maker.specs.declared.state.Maker.{Maker}
use Rattle.record_maker.specs.Makers.{HasLinesLeft, makes_another, sheet_of}
use Rattle.record_maker.specs.Making.{AllMade, AddsGame, Sheet, first_sheet}
use Rattle.record_maker.specs.Sizes.{is_full}

-- so many games were made
pub record HasMade (number most : ℕ) (games : List Game) (maker : Maker) (count : ℕ) : Type 0 where
  pub made : AllMade (first_sheet number) games (sheet_of maker count)
  pub room : HasLinesLeft 3 maker.size
  pub few : count ≤ most

pub all-made-more : (start : Sheet) (games : List Game) (now : Sheet) (game : Game) (next : Sheet) → AllMade start games now → AddsGame now game next → AllMade start (games ++ game ∷ []) next
all-made-more start [] now game next all one = (next, subst (λ (from : Sheet). AddsGame from game next) all one, refl)
all-made-more start (first ∷ games) now game next (after, makes, all) one = (after, makes, all-made-more after games now game next all one)

-- no more are made where there are as many as are wanted, or too much text
pub last-made : (count most : ℕ) (size : Size) → count ≤ most → makes_another count most size ≡ false → (count ≡ most) ⊎ ((count ≤ most) × (is_full size ≡ true))
last-made count most size few stops = by (nat_lt count most) (is_full size) refl stops where
  by : (more full : Bool) → nat_lt count most ≡ more → (more && not full) ≡ false → (count ≡ most) ⊎ ((count ≤ most) × (full ≡ true))
  by true true e s = inr (few, refl)
  by true false e s = absurd (cc)
  by false full e s = inl (grind (arith, nat_tests))

-- another is made where there is room for it
pub another-made : (count most : ℕ) (size : Size) → makes_another count most size ≡ true → (count < most) × (is_full size ≡ false)
another-made count most size goes = by (nat_lt count most) (is_full size) refl goes where
  by : (more full : Bool) → nat_lt count most ≡ more → (more && not full) ≡ true → (count < most) × (full ≡ false)
  by true false e s = (grind (arith, nat_tests), refl)
  by true true e s = absurd (cc)
  by false full e s = absurd (cc)
