use Rattle.std.proofs.Common.{◌≡◌, ◌+◌, ◌*◌, ◌/◌, ◌%◌, ◌<◌, ◌≤◌, ◌∙◌, ℕ, length, take, ap, sym, arith}
use Rattle.std.proofs.Math.Nat.{mul-le-mul_right, div-le_of_le-mul}
use Rattle.std.proofs.lemmas.Nat.{mod_below, div-add-mod'}
use Rattle.std.proofs.lemmas.List.{length-take-le}
use Rattle.position_rank.specs.Ranks.{layouts}
use Rattle.position_rank.specs.LiveRanks.{live_below}
use Rattle.position_rank.proofs.LiveLaws.{live_below-none, live_below-le, square-size}
use Rattle.position_rank.proofs.RowLaws.{layouts-in}
use Rattle.position_rank.proofs.live.count_below.Goals as goal

pub nonzero_div-rows : goal.nonzero_div-rows
nonzero_div-rows c = omega (arith, c.from-layouts.ensures, c.layout_count.ensures.count, (layouts-in c.args.checkers c.requires.low c.requires.high).0)

pub nonzero_rem-rest : goal.nonzero_rem-rest
nonzero_rem-rest c = omega (arith, c.from-layouts.ensures, c.layout_count.ensures.count, (layouts-in c.args.checkers c.requires.low c.requires.high).0)

pub loop-row-init : goal.loop-row-init
loop-row-init c =
    let none : 0 * layouts c.args.checkers ≡ 0 = omega arith in
    rw none (sym (live_below-none c.args.checkers))

pub overflow_add-live : goal.overflow_add-live
overflow_add-live c =
    let n = layouts c.args.checkers in
    let many : c.from-layouts.result ≡ n = omega (arith, c.from-layouts.ensures, c.layout_count.ensures.count) in
    let rows : c.args.square / c.from-layouts.result ≤ n = rw many (div-le_of_le-mul n c.requires.square) in
    let room : (c.loop-row.row + 1) * n ≤ n * n = mul-le-mul_right n (omega (arith, rows, c.loop-row-test.true)) in
    let long : length c.deref.result.now ≡ n = ap length c.deref.ensures.0 ∙ c.all_other_points-others.ensures.many in
    omega (arith, c.loop-row.invariant, c.count_row-live.ensures, live_below-le c.args.checkers (c.loop-row.row * n + length c.deref.result.now), long, room, square-size c.args.checkers c.requires.low c.requires.high)

-- the whole rows and the first part of the row after them
with-rest : (c : goal.After-count_row-live-then-rest-gt0) → c.loop-row.live + c.count_row-live-then-rest-gt0.result ≡ live_below c.args.checkers c.args.square
with-rest c =
    let checkers = c.args.checkers in
    let n = layouts checkers in
    let counted = c.from-layouts.result in
    let rows = c.args.square / counted in
    let rest = c.args.square % counted in
    let many : counted ≡ n = omega (arith, c.from-layouts.ensures, c.layout_count.ensures.count) in
    let rows_is : c.loop-row.row ≡ rows = omega (arith, c.loop-row.auto.row-end, c.loop-row-test.false) in
    let live_is : c.loop-row.live ≡ live_below checkers (rows * n) = c.loop-row.invariant ∙ ap (λ (k : ℕ). live_below checkers (k * n)) rows_is in
    let some : 0 < counted = omega (arith, many, (layouts-in checkers c.requires.low c.requires.high).0) in
    let inside : rest ≤ length c.deref-then-rest-gt0.result.now =
    omega (arith, mod_below c.args.square counted some, many, ap length c.deref-then-rest-gt0.ensures.0, c.all_other_points-others.ensures.many) in
    let long : length (take rest c.deref-then-rest-gt0.result.now) ≡ rest = length-take-le rest c.deref-then-rest-gt0.result.now inside in
    let whole : rows * n + rest ≡ c.args.square = ap (λ (k : ℕ). rows * k + rest) (sym many) ∙ div-add-mod' c.args.square counted in
    let both : c.loop-row.live + c.count_row-live-then-rest-gt0.result ≡ live_below checkers (rows * n + length (take rest c.deref-then-rest-gt0.result.now)) = omega (arith, live_is, c.count_row-live-then-rest-gt0.ensures) in
    both ∙ ap (live_below checkers) (ap (λ (k : ℕ). rows * n + k) long ∙ whole)

pub overflow_add-live-then-rest-gt0 : goal.overflow_add-live-then-rest-gt0
overflow_add-live-then-rest-gt0 c = omega (arith, with-rest c, live_below-le c.args.checkers c.args.square, c.requires.square, square-size c.args.checkers c.requires.low c.requires.high)
