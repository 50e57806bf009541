-- Take points and gammon prices enclose those of all values inside the pairs.
use Rattle.std.proofs.Common.{rules, ◌≡◌, Bool, true, false, cond, Some, None, IfSome, refl, ◌^◌, ◌<◌, ◌≤◌, ℕ, ℤ, pos, ◌-ℤ◌, ◌*ℤ◌, ◌≤ℤ◌, ◌<ℤ◌, arith}
use Rattle.std.proofs.lemmas.Int.{ints}
use Rattle.std.proofs.Math.Nat.{mul-le-mul_right, mul-pos}
use Rattle.directed_fixed.specs.Bounds.{Bounds}
use Rattle.match_plan.specs.Quotients.{quotient_down, quotient_up, IsShare}
use Rattle.match_plan.specs.Points.{rise, is_take_point_known, is_gammon_price_known, take_bounds, price_bounds, take_point, gammon_price, IsTakePointKnown, IsGammonPriceKnown, LiesInside, EnclosesTakePoints, EnclosesGammonPrices}
use Rattle.match_plan.proofs.Shares.{down-below, up-above, down-few, up-few, rise-is, rise-some, times-rise, share-low, share-high, share-of}

-- a value in units, over a scale, lies inside a pair
record IsInside (scale : ℕ) (pair : Bounds) (value : ℤ) : Type 0 where
  from : (pos scale *ℤ pair.lower) ≤ℤ value
  to : value ≤ℤ (pos scale *ℤ pair.upper)

in-units : (scale : ℕ) (pair : Bounds) (value : ℤ) → LiesInside scale pair value → IsInside scale pair (pos (2 ^ 32) *ℤ value)
in-units scale pair value h = record { from = h.from; to = h.to }

-- a value inside the second pair is above one inside the first
above : (s : ℕ) (a b : Bounds) (x y : ℤ) → 0 < s → a.upper <ℤ b.lower → IsInside s a x → IsInside s b y → pos 0 <ℤ (y -ℤ x)
above s a b x y some apart low high =
    omega (arith, ints, low.to, high.from, times-rise s a.upper b.lower (omega (arith, ints, apart)), mul-pos some (rise-some a.upper b.lower apart))

module _ (lose pass win : Bounds) (lose_order : lose.lower ≤ℤ lose.upper) (pass_order : pass.lower ≤ℤ pass.upper) (win_order : win.lower ≤ℤ win.upper)
    (known : IsTakePointKnown lose pass win) where
  abbrev low_part : ℕ
  low_part = rise lose.upper pass.lower

  abbrev low_whole : ℕ
  low_whole = rise lose.upper win.upper

  abbrev high_part : ℕ
  high_part = rise lose.lower pass.upper

  abbrev high_whole : ℕ
  high_whole = rise lose.lower win.lower

  low_whole-some : 0 < low_whole
  low_whole-some = rise-some lose.upper win.upper (omega (arith, ints, known.apart, win_order))

  high_whole-some : 0 < high_whole
  high_whole-some = rise-some lose.lower win.lower (omega (arith, ints, known.apart, lose_order))

  low_part-within : low_part ≤ low_whole
  low_part-within =
      omega (arith, ints, known.win_above, pass_order, win_order, rise-is lose.upper pass.lower known.lose_below, rise-is lose.upper win.upper (omega (arith, ints, known.apart, win_order)))

  high_part-within : high_part ≤ high_whole
  high_part-within =
      omega (arith, ints, known.win_above, rise-is lose.lower pass.upper (omega (arith, ints, known.lose_below, pass_order, lose_order)), rise-is lose.lower win.lower (omega (arith, ints, known.apart, lose_order)))

  -- a take point is a chance
  pub take-chance : quotient_up high_part high_whole ≤ 1000000
  take-chance = up-few high_part high_whole high_whole-some high_part-within

  take-units : (s : ℕ) (l p w : ℤ) → 0 < s → IsInside s lose l → IsInside s pass p → IsInside s win w → IsShare (take_bounds lose pass win) (p -ℤ l) (w -ℤ l)
  take-units s l p w some in_lose in_pass in_win = record {
    some = above s lose win l w some known.apart in_lose in_win;
    low =
        let below = rise l (pos s *ℤ lose.upper) in
        let down = rise-is l (pos s *ℤ lose.upper) in_lose.to in
        share-low (quotient_down low_part low_whole) low_whole low_part s below (p -ℤ l) (w -ℤ l) (down-below low_part low_whole)
        (mul-le-mul_right below (down-few low_part low_whole low_whole-some low_part-within))
        (omega (arith, ints, in_win.to, down, times-rise s lose.upper win.upper (omega (arith, ints, known.apart, win_order))))
        (omega (arith, ints, in_pass.from, down, times-rise s lose.upper pass.lower known.lose_below));
    high =
        let beyond = rise (pos s *ℤ lose.lower) l in
        let up = rise-is (pos s *ℤ lose.lower) l in_lose.from in
        share-high (quotient_up high_part high_whole) high_whole high_part s beyond (p -ℤ l) (w -ℤ l) (up-above high_part high_whole high_whole-some)
        (mul-le-mul_right beyond (up-few high_part high_whole high_whole-some high_part-within))
        (omega (arith, ints, in_win.from, up, times-rise s lose.lower win.lower (omega (arith, ints, known.apart, lose_order))))
        (omega (arith, ints, in_pass.to, up, times-rise s lose.lower pass.upper (omega (arith, ints, known.lose_below, pass_order, lose_order))));
  }

  pub take-encloses : EnclosesTakePoints lose pass win (take_bounds lose pass win)
  take-encloses s l p w some in_lose in_pass in_win =
      share-of (take_bounds lose pass win) p l w l
      (take-units s (pos (2 ^ 32) *ℤ l) (pos (2 ^ 32) *ℤ p) (pos (2 ^ 32) *ℤ w) some (in-units s lose l in_lose) (in-units s pass p in_pass) (in-units s win w in_win))

module _ (lose win gammon : Bounds) (lose_order : lose.lower ≤ℤ lose.upper) (win_order : win.lower ≤ℤ win.upper) (gammon_order : gammon.lower ≤ℤ gammon.upper)
    (known : IsGammonPriceKnown lose win gammon) where
  abbrev least_part : ℕ
  least_part = rise win.upper gammon.lower

  abbrev least_whole : ℕ
  least_whole = rise lose.lower win.upper

  abbrev greatest_part : ℕ
  greatest_part = rise win.lower gammon.upper

  abbrev greatest_whole : ℕ
  greatest_whole = rise lose.upper win.lower

  price-units : (s : ℕ) (l w g : ℤ) → 0 < s → IsInside s lose l → IsInside s win w → IsInside s gammon g → IsShare (price_bounds lose win gammon) (g -ℤ w) (w -ℤ l)
  price-units s l w g some in_lose in_win in_gammon = record {
    some = above s lose win l w some known.apart in_lose in_win;
    low =
        share-low (quotient_down least_part least_whole) least_whole least_part s 0 (g -ℤ w) (w -ℤ l) (down-below least_part least_whole) (omega arith)
        (omega (arith, ints, in_win.to, in_lose.from, times-rise s lose.lower win.upper (omega (arith, ints, known.apart, lose_order, win_order))))
        (omega (arith, ints, in_gammon.from, in_win.to, times-rise s win.upper gammon.lower known.gammon_above));
    high =
        share-high (quotient_up greatest_part greatest_whole) greatest_whole greatest_part s 0 (g -ℤ w) (w -ℤ l)
        (up-above greatest_part greatest_whole (rise-some lose.upper win.lower known.apart)) (omega arith)
        (omega (arith, ints, in_win.from, in_lose.to, times-rise s lose.upper win.lower (omega (arith, ints, known.apart))))
        (omega (arith, ints, in_gammon.to, in_win.from, times-rise s win.lower gammon.upper (omega (arith, ints, known.gammon_above, win_order, gammon_order))));
  }

  pub price-encloses : EnclosesGammonPrices lose win gammon (price_bounds lose win gammon)
  price-encloses s l w g some in_lose in_win in_gammon =
      share-of (price_bounds lose win gammon) g w w l
      (price-units s (pos (2 ^ 32) *ℤ l) (pos (2 ^ 32) *ℤ w) (pos (2 ^ 32) *ℤ g) some (in-units s lose l in_lose) (in-units s win w in_win) (in-units s gammon g in_gammon))

-- ---- where they are known

take-known : (lose pass win : Bounds) → is_take_point_known lose pass win ≡ true → IsTakePointKnown lose pass win
take-known lose pass win h = search rules

price-known : (lose win gammon : Bounds) → is_gammon_price_known lose win gammon ≡ true → IsGammonPriceKnown lose win gammon
price-known lose win gammon h = search rules

-- a take point that is known encloses
pub take_point-encloses : (lose pass win : Bounds) → lose.lower ≤ℤ lose.upper → pass.lower ≤ℤ pass.upper → win.lower ≤ℤ win.upper → IfSome (take_point lose pass win) (EnclosesTakePoints lose pass win)
take_point-encloses lose pass win in_lose in_pass in_win = by_test (is_take_point_known lose pass win) refl where
  by_test : (b : Bool) → is_take_point_known lose pass win ≡ b → IfSome (cond b (Some (take_bounds lose pass win)) None) (EnclosesTakePoints lose pass win)
  by_test true is = take-encloses lose pass win in_lose in_pass in_win (take-known lose pass win is)
  by_test false is = tt

-- and a gammon price
pub gammon_price-encloses : (lose win gammon : Bounds) → lose.lower ≤ℤ lose.upper → win.lower ≤ℤ win.upper → gammon.lower ≤ℤ gammon.upper → IfSome (gammon_price lose win gammon) (EnclosesGammonPrices lose win gammon)
gammon_price-encloses lose win gammon in_lose in_win in_gammon = by_test (is_gammon_price_known lose win gammon) refl where
  by_test : (b : Bool) → is_gammon_price_known lose win gammon ≡ b → IfSome (cond b (Some (price_bounds lose win gammon)) None) (EnclosesGammonPrices lose win gammon)
  by_test true is = price-encloses lose win gammon in_lose in_win in_gammon (price-known lose win gammon is)
  by_test false is = tt
