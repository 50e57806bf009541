-- What the cube shows.
use Rattle.std.proofs.Common.{◌≡◌, ◌≤◌, ◌<◌, ◌^◌, ◌*◌, ℕ, zero, suc, false, nat_lt, arith}
use Rattle.std.proofs.lemmas.Bool.{le-ltb}
use Rattle.std.proofs.Math.Nat.{pow-le-pow_right}

-- turned four times or more, it shows more than a match has points
pub not-below : (turns points : ℕ) → 3 < turns → points ≤ 5 → nat_lt (2 ^ turns) points ≡ false
not-below turns points many few =
    let two : 0 < 2 = omega arith in
    let four : 4 ≤ turns = many in
    let high : 2 ^ 4 ≤ 2 ^ turns = pow-le-pow_right {n = 2} two {i = 4} {j = turns} four in
    le-ltb (2 ^ turns) points (omega (arith, high))

-- turned three times or less, it shows at most eight
pub at-most-8 : (turns : ℕ) → turns ≤ 3 → 2 ^ turns ≤ 8
at-most-8 turns few = let two : 0 < 2 = omega arith in pow-le-pow_right {n = 2} two {i = turns} {j = 3} few

-- at most three points, as often as the cube shows, fit into a byte
pub few-points : (points shown : ℕ) → points ≤ 3 → shown ≤ 8 → points * shown < 256
few-points zero shown few low = omega arith
few-points (suc zero) shown few low = omega arith
few-points (suc (suc zero)) shown few low = omega arith
few-points (suc (suc (suc zero))) shown few low = omega arith
few-points (suc (suc (suc (suc n)))) shown few low = absurd (omega arith)
