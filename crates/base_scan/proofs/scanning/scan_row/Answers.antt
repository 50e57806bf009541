use Rattle.std.proofs.Common.{◌≡◌, ◌<◌, ◌++◌, ◌*◌, ◌∙◌, ℕ, All, Vec, length, sym, ap, subst, arith}
use Rattle.std.specs.Global.{Global}
use Rattle.std.proofs.lemmas.Bool.{iff_false}
use Rattle.std.proofs.lemmas.List.{append-nil}
use Rattle.position_rank.specs.Ranks.{layouts}
use Rattle.turn_rule.specs.Games.{kinds_of}
use Rattle.base_scan.specs.declared.found.State.{State}
use Rattle.base_scan.specs.Sides.{position_of}
use Rattle.base_scan.specs.Found.{IsFoundState, with_kinds}
use Rattle.base_scan.proofs.Scans.{dead-square, few-before, few-layouts, has-rank, is-listed, live-square, scanned, square-more, square-none}
use Rattle.base_scan.proofs.scanning.scan_row.Goals as goal
use Rattle.base_scan.proofs.scanning.scan_row.Goals.{then-are_live+in_ok-scan_position, else-are_live}

pub overflow_mul-first : goal.overflow_mul-first
overflow_mul-first c =
    let checkers = c.args.words.now.game.checkers in
    let in_all : c.args.row < length c.args.all.now = omega (arith, c.requires.row, c.requires.all.many) in
    let one = is-listed checkers c.args.all.now c.requires.all c.args.row c.index-all-row.result c.index-all-row.is in_all in
    omega (arith, few-before checkers c.args.row (length c.args.all.now) c.index-all-row.result one c.requires.row c.requires.all.many)

pub loop-rank-init : goal.loop-rank-init
loop-rank-init c = record { found = sym (append-nil c.args.found.now.items); right = λ before. before }

pub overflow_add-square : goal.overflow_add-square
overflow_add-square c =
    let checkers = c.args.words.now.game.checkers in
    let one = is-listed checkers c.args.all.now c.requires.all c.loop-rank.rank c.index-all-rank.result c.index-all-rank.is c.loop-rank-test.true in
    let few = few-layouts checkers c.index-all-rank.result one in
    omega (arith, few-before checkers c.args.row (length c.args.all.now) c.index-all-rank.result one c.requires.row c.requires.all.many, few, c.loop-rank-test.true, c.requires.all.many)

pub scan_position-requires-clause-live : goal.scan_position-requires-clause-live
scan_position-requires-clause-live c =
    let other = is-listed c.args.words.now.game.checkers c.args.all.now c.requires.all c.loop-rank.rank c.index-all-rank.result c.index-all-rank.is c.loop-rank-test.true in
    (c.are_live.ensures (position_of c.index-all-row.result c.index-all-rank.result) c.of-points.ensures other.points).0 c.if-are_live.true

pub loop-rank-preserved : goal.loop-rank-preserved
loop-rank-preserved c =
    let words = c.args.words.now in
    let groups = c.args.condition.now in
    let game = words.game in
    let all = c.args.all.now in
    let row = c.args.row in
    let rank = c.loop-rank.rank in
    let mover = c.index-all-row.result in
    let other = c.index-all-rank.result in
    let in_all : row < length all = omega (arith, c.requires.row, c.requires.all.many) in
    let inside : rank < layouts game.checkers = omega (arith, c.loop-rank-test.true, c.requires.all.many) in
    let one = is-listed game.checkers all c.requires.all row mover c.index-all-row.is in_all in
    let another = is-listed game.checkers all c.requires.all rank other c.index-all-rank.is c.loop-rank-test.true in
    let high = has-rank game.checkers all c.requires.all row mover c.index-all-row.is in_all in
    let low = has-rank game.checkers all c.requires.all rank other c.index-all-rank.is c.loop-rank-test.true in
    let first = row * layouts game.checkers in
    let old = c.args.found.now.items in
    let so_far = c.loop-rank.found.items in
    let new = c.if-are_live.found.items in
    let right = c.are_live.ensures (position_of mover other) c.of-points.ensures another.points in
    elim c.if-are_live.branch [
      | then-are_live+in_ok-scan_position w ↦ record {
        found = square-more words groups first rank (with_kinds (kinds_of game) (position_of mover other)) old so_far new
            (live-square game row rank mover other one another high low inside (right.0 w.if-are_live.true)) c.loop-rank.invariant.found
            (ap (λ (v : Vec State Global). v.items) w.found-is ∙ w.in_ok-scan_position.ensures.found);
        right = λ before. subst (λ (v : Vec State Global). All (IsFoundState game) v.items) (sym w.found-is) (w.in_ok-scan_position.ensures.right (c.loop-rank.invariant.right before));
      }
      | else-are_live w ↦ record {
        found = ap (λ (v : Vec State Global). v.items) w.found-is
            ∙ square-none words groups first rank old so_far (dead-square game row rank mover other one another high low inside (iff_false right w.if-are_live.false)) c.loop-rank.invariant.found;
        right = λ before. subst (λ (v : Vec State Global). All (IsFoundState game) v.items) (sym w.found-is) (c.loop-rank.invariant.right before);
      }
    ]

pub returns-clause-found : goal.returns-clause-found
returns-clause-found c =
    let end : c.loop-rank.rank ≡ layouts c.args.words.now.game.checkers = omega (arith, c.loop-rank-test.false, c.loop-rank.auto.rank-end, c.requires.all.many) in
    c.loop-rank.invariant.found
    ∙ ap (λ (n : ℕ). c.args.found.now.items ++ scanned c.args.words.now c.args.condition.now (c.args.row * layouts c.args.words.now.game.checkers) n) end

pub returns-clause-right : goal.returns-clause-right
returns-clause-right c = c.loop-rank.invariant.right
