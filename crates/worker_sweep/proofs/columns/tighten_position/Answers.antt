use Rattle.std.proofs.Common.{◌<◌, arith, refl, sym, subst, ◌∙◌}
use Rattle.position_rank.specs.Ranks.{rank_of}
use Rattle.position_rank.specs.Placement.{Placement}
use Rattle.turn_rule.specs.Games.{kinds_of}
use Rattle.turn_rule.specs.States.{IsState}
use Rattle.interval_words.specs.Seats.{GameTable}
use Rattle.interval_words.proofs.SeatNotes.{keeps-refl, keeps-trans, sits-kept, adds-none}
use Rattle.worker_sweep.specs.Blocks.{MaySweep, IsWorkIn}
use Rattle.column_turns.specs.Columns.{position_in}
use Rattle.worker_sweep.proofs.SeatLemmas.{works-trans}
use Rattle.worker_sweep.proofs.ColumnLemmas.{may-still, noted-kind}
use Rattle.worker_sweep.proofs.columns.tighten_position.Goals as goal

pub loop-kind-init : goal.loop-kind-init
loop-kind-init c =
    let game = c.args.pairs.now.board.now.game in
    let seat = c.args.pairs.now.seat in
    record {
      board = refl;
      kept = keeps-refl _;
      noted = λ end k below. absurd (omega (arith, below));
      works = adds-none (IsWorkIn game (rank_of c.args.turns.now.other) seat.view.base) seat.view.work seat.view.work refl;
    }

pub tighten-requires-clause-state : goal.tighten-requires-clause-state
tighten-requires-clause-state c =
    let k = c.loop-kind.kind in
    let below : k < kinds_of c.args.pairs.now.board.now.game = omega (arith, c.loop-kind-test.true, c.requires.kinds) in
    subst (λ (b : GameTable). IsState b.game c.position-position.result k) (sym c.loop-kind.invariant.board)
    (subst (λ (p : Placement). IsState c.args.pairs.now.board.now.game p k) (sym c.position-position.ensures.position) (c.requires.column.states c.args.i k c.requires.position below))

pub tighten-requires-clause-pair : goal.tighten-requires-clause-pair
tighten-requires-clause-pair c =
    let board = c.args.pairs.now.board.now in
    let k = c.loop-kind.kind in
    let below : k < kinds_of board.game = omega (arith, c.loop-kind-test.true, c.requires.kinds) in
    let may = may-still board c.args.pairs.now.seat c.loop-kind.pairs.seat c.args.turns.now c.args.i k c.pair.result c.requires.valid c.args.pairs.now.sits c.loop-kind.invariant.kept c.requires.column c.requires.position below c.pair.ensures in
    subst (λ (b : GameTable). MaySweep b.game c.loop-kind.pairs.seat.view c.position-position.result k c.pair.result) (sym c.loop-kind.invariant.board)
    (subst (λ (p : Placement). MaySweep board.game c.loop-kind.pairs.seat.view p k c.pair.result) (sym c.position-position.ensures.position) may)

pub loop-kind-preserved : goal.loop-kind-preserved
loop-kind-preserved c =
    let board = c.args.pairs.now.board.now in
    let before = c.loop-kind.invariant in
    let k = c.loop-kind.kind in
    let p = position_in c.args.turns.now c.args.i in
    let below : k < kinds_of board.game = omega (arith, c.loop-kind-test.true, c.requires.kinds) in
    let may = may-still board c.args.pairs.now.seat c.loop-kind.pairs.seat c.args.turns.now c.args.i k c.pair.result c.requires.valid c.args.pairs.now.sits before.kept c.requires.column c.requires.position below c.pair.ensures in
    let sits = sits-kept board c.args.pairs.now.seat c.loop-kind.pairs.seat before.kept c.args.pairs.now.sits in
    record {
      board = c.tighten.ensures.board ∙ before.board;
      kept = keeps-trans _ _ _ before.kept c.tighten.ensures.kept;
      noted = noted-kind board c.loop-kind.pairs.seat c.tighten.new.self.seat p k c.pair.result
          (λ j less. let kind : j < kinds_of board.game = omega (arith, less, below) in c.requires.column.states c.args.i j c.requires.position kind)
          sits c.tighten.ensures.kept before.noted may (rw (before.board, c.position-position.ensures.position) at c.tighten.ensures.noted);
      works = works-trans board.game (rank_of c.args.turns.now.other) c.args.pairs.now.seat c.loop-kind.pairs.seat c.tighten.new.self.seat before.kept before.works (rw (before.board, c.position-position.ensures.position) at c.tighten.ensures.works);
    }

pub tighten-requires-clause-hand : goal.tighten-requires-clause-hand
tighten-requires-clause-hand c = omega (arith, c.requires.hand, c.loop-kind.invariant.kept.hands)
