-- Points that both sides hold.
use Rattle.std.proofs.Common.{◌≡◌, ◌<◌, ◌+◌, ◌-◌, ℕ, suc, Bool, true, false, ◌&&◌, nat_lt, slice_index, List, refl, arith}
use Rattle.std.proofs.lemmas.Bool.Decides.{nat_tests}
use Rattle.std.specs.List.{list_any, range_with_len}
use Rattle.position_rank.specs.Placement.{Placement, AreApart, InPlay, IsLive}
use Rattle.position_text.specs.Text.{share_point, all_off}
use Rattle.position_text.proofs.TextLists.{none-in-range}

abbrev pub is_shared : Placement → ℕ → Bool
is_shared p point = nat_lt 0 (slice_index p.mover point) && nat_lt 0 (slice_index p.other (25 - point))

-- a point from this one on is held by both sides
unfoldable pub shared_from : Placement → ℕ → Bool
shared_from p point = list_any (is_shared p) (range_with_len point (25 - point))

pub shared-start : (p : Placement) → share_point p ≡ shared_from p 1
unfolding share_point shared_from
shared-start p = refl

pub shared-end : (p : Placement) → shared_from p 25 ≡ false
unfolding shared_from
shared-end p = refl

pub shared-here : (p : Placement) (point : ℕ) → point < 25 → 0 < slice_index p.mover point → 0 < slice_index p.other (25 - point) → shared_from p point ≡ true
unfolding shared_from
shared-here p point low a b =
    let more : 25 - point ≡ suc (25 - (point + 1)) = omega arith in
    let here : is_shared p point ≡ true = grind (arith, nat_tests) in
    rw more (rw here refl)

pub shared-later : (p : Placement) (point : ℕ) → point < 25 → is_shared p point ≡ false → shared_from p point ≡ shared_from p (point + 1)
unfolding shared_from
shared-later p point low away =
    let more : 25 - point ≡ suc (25 - (point + 1)) = omega arith in
    rw more (rw away refl)

not-both : (a b : ℕ) → (nat_lt 0 a && nat_lt 0 b) ≡ false → 0 < a → b ≡ 0
not-both a b e h = grind (arith, nat_tests)

apart : (p : Placement) → share_point p ≡ false → AreApart p
unfolding share_point
apart p e point low high held = not-both (slice_index p.mover point) (slice_index p.other (25 - point)) (none-in-range (is_shared p) 1 24 point e low (omega arith)) held

in_play : (counts : List ℕ) → all_off counts ≡ false → InPlay counts
in_play counts e same = grind (arith, nat_tests)

-- a position in which no point is shared and neither side is off is live
pub live-told : (p : Placement) → share_point p ≡ false → all_off p.mover ≡ false → all_off p.other ≡ false → IsLive p
live-told p shared mover other = record { apart = apart p shared; mover = in_play p.mover mover; other = in_play p.other other }
