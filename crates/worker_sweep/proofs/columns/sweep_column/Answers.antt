use Rattle.std.proofs.Common.{List, ◌≡◌, ◌<◌, inl, inr, ℕ, length, refl, arith, ap, sym, subst, ◌∙◌}
use Rattle.std.proofs.lemmas.Bool.{cases_lt}
use Rattle.position_rank.specs.Ranks.{rank_of}
use Rattle.cube_actions.specs.Stakes.{Terms, IsValid}
use Rattle.turn_rule.specs.Games.{kinds_of}
use Rattle.turn_rule.specs.Looks.{all_told}
use Rattle.turn_rule.specs.Layouts.{AreLayouts}
use Rattle.turn_rule.specs.States.{IsState}
use Rattle.column_sums.specs.Leaps.{layout_at}
use Rattle.interval_words.specs.Core.{noted}
use Rattle.interval_words.specs.Seats.{GameTable, GameSeat, SitsAt, KeepsNotes}
use Rattle.interval_words.proofs.SeatNotes.{keeps-trans, sits-kept, adds-none}
use Rattle.column_turns.specs.Turns.{AreTurnsOf, mover_at}
use Rattle.worker_sweep.specs.Blocks.{IsWorkIn, WorksIn}
use Rattle.worker_sweep.specs.Columns.{AreNotedTo}
use Rattle.column_turns.specs.Columns.{position_in}
use Rattle.worker_sweep.specs.Sources.{board_source}
use Rattle.worker_sweep.proofs.ColumnLemmas.{column-later, column-states, column-filled, noted-later, column-swept, column-rank}
use Rattle.worker_sweep.proofs.StateLemmas.{keeps-looked}
use Rattle.worker_sweep.proofs.SeatLemmas.{works-trans}
use Rattle.worker_sweep.proofs.columns.sweep_column.Goals as goal

pub fetch_words-requires : goal.fetch_words-requires
fetch_words-requires c =
    let game = c.args.board.now.game in
    let column = c.fill.new.self in
    let layouts = subst (AreLayouts game.checkers) (sym c.fill.ensures.layouts) c.requires.room.layouts in
    let inside : c.args.block < length column.layouts = omega (arith, c.requires.block, layouts.many) in
    let valid : IsValid game.stakes = subst IsValid c.stakes-stakes.ensures c.kinds-kinds.ensures.valid in
    let board_is = ap (λ s. s.0) c.fill.ensures.stays ∙ c.new-pairs.ensures.board in
    let is = column-states game column c.args.block layouts inside (c.fill.ensures.other ∙ ap (λ (l : List (List ℕ)). layout_at l c.args.block) (sym c.fill.ensures.layouts)) c.fill.ensures.movers in
    record { states = λ i below. subst (λ (b : GameTable). IsState b.game (position_in column i) 0) (sym board_is) (is i 0 below valid.some) }

pub loop-i-init : goal.loop-i-init
loop-i-init c =
    let old = c.new-pairs.result in
    let new = c.fill.new.pairs in
    let board = c.args.board.now in
    let game = board.game in
    let column = c.fill.new.self in
    let same : new.board.now ≡ old.board.now = ap (λ s. s.0) c.fill.ensures.stays in
    let base : new.seat.view.base ≡ old.seat.view.base = ap (λ s. s.1) c.fill.ensures.stays in
    let hands : new.seat.view.hands ≡ old.seat.view.hands = ap (λ s. s.3) c.fill.ensures.stays in
    let board_is = c.new-pairs.ensures.board in
    let looked = keeps-looked old.board.now new.board.now old.seat new.seat same base hands old.sits new.sits (c.fill.ensures.later.notes.words refl) in
    let layouts = subst (AreLayouts game.checkers) (sym c.fill.ensures.layouts) c.requires.room.layouts in
    let inside : c.args.block < length column.layouts = omega (arith, c.requires.block, layouts.many) in
    let many = length column.movers in
    let place = mover_at column.layouts column.other column.movers in
    let one = subst (λ (b : GameTable). AreTurnsOf (board_source b.game old.seat.view.base) (all_told (noted new.board.now.game new.seat.view.notes)) c.stakes-stakes.result.now place many column.pairs) board_is c.fill.ensures.turns in
    let two = subst (λ (b : GameTable). AreTurnsOf (board_source game old.seat.view.base) (all_told (noted b.game new.seat.view.notes)) c.stakes-stakes.result.now place many column.pairs) (same ∙ board_is) one in
    let three = subst (λ (n : ℕ). AreTurnsOf (board_source game n) (all_told (noted game new.seat.view.notes)) c.stakes-stakes.result.now place many column.pairs) (sym base) two in
    let turns = subst (λ (s : Terms). AreTurnsOf (board_source game new.seat.view.base) (all_told (noted game new.seat.view.notes)) s place many column.pairs) c.stakes-stakes.ensures three in
    let after = subst (λ (s : GameSeat). KeepsNotes s new.seat) c.new-pairs.ensures.seat looked in
    let sits : SitsAt board new.seat = sits-kept board c.args.seat new.seat after c.requires.seat in
    let valid : IsValid game.stakes = subst IsValid c.stakes-stakes.ensures c.kinds-kinds.ensures.valid in
    let filled = column-filled game new.seat.view column c.args.block layouts inside (c.fill.ensures.other ∙ ap (λ (l : List (List ℕ)). layout_at l c.args.block) (sym c.fill.ensures.layouts)) (c.fill.ensures.kinds ∙ c.requires.room.kinds) c.fill.ensures.movers turns in
    record {
      board = c.fetch_words.ensures.board ∙ (same ∙ board_is);
      kept = keeps-trans _ _ _ after c.fetch_words.ensures.kept;
      column = column-later board new.seat c.fetch_words.new.pairs.seat column valid sits c.fetch_words.ensures.kept filled;
      noted = λ i below. absurd (omega (arith, below));
      works =
          adds-none (IsWorkIn game (rank_of column.other) c.args.seat.view.base) c.args.seat.view.work c.fetch_words.new.pairs.seat.view.work
          (c.fetch_words.ensures.work ∙ (ap (λ s. s.2) c.fill.ensures.stays ∙ ap (λ (s : GameSeat). s.view.work) c.new-pairs.ensures.seat));
    }

pub tighten_position-requires-clause-valid : goal.tighten_position-requires-clause-valid
tighten_position-requires-clause-valid c =
    subst (λ (b : GameTable). IsValid b.game.stakes) (sym c.loop-i.invariant.board) (subst IsValid c.stakes-stakes.ensures c.kinds-kinds.ensures.valid)

pub loop-i-preserved : goal.loop-i-preserved
loop-i-preserved c =
    let board = c.args.board.now in
    let before = c.loop-i.invariant in
    let old = c.loop-i.pairs.seat in
    let new = c.tighten_position.new.pairs.seat in
    let sits : SitsAt board old = sits-kept board c.args.seat old before.kept c.requires.seat in
    let valid : IsValid board.game.stakes = subst IsValid c.stakes-stakes.ensures c.kinds-kinds.ensures.valid in
    let now = subst (λ (b : GameTable). AreNotedTo b.game new.view (position_in c.fill.new.self c.loop-i.i) (kinds_of b.game)) before.board c.tighten_position.ensures.noted in
    record {
      board = c.tighten_position.ensures.board ∙ before.board;
      kept = keeps-trans _ _ _ before.kept c.tighten_position.ensures.kept;
      column = column-later board old new c.fill.new.self valid sits c.tighten_position.ensures.kept before.column;
      noted = λ i below. elim (cases_lt i c.loop-i.i) [
        | inl earlier ↦ (
            let inside : i < length c.fill.new.self.movers = omega (arith, earlier, c.loop-i-test.true, c.len-i-end.ensures) in
            noted-later board old new (position_in c.fill.new.self i) (kinds_of board.game) (λ k less. before.column.states i k inside less) sits c.tighten_position.ensures.kept (before.noted i earlier))
        | inr from ↦ (
            let same : c.loop-i.i ≡ i = omega (arith, below, from) in
            subst (λ (n : ℕ). AreNotedTo board.game new.view (position_in c.fill.new.self n) (kinds_of board.game)) same now)
      ];
      works =
          works-trans board.game (rank_of c.fill.new.self.other) c.args.seat old new before.kept before.works
          (subst (λ (b : GameTable). WorksIn b.game (rank_of c.fill.new.self.other) old new) before.board c.tighten_position.ensures.works);
    }

pub returns-clause-works : goal.returns-clause-works
returns-clause-works c =
    let column = c.fill.new.self in
    let game = c.args.board.now.game in
    let layouts = subst (AreLayouts game.checkers) (sym c.fill.ensures.layouts) c.requires.room.layouts in
    let inside : c.args.block < length column.layouts = omega (arith, c.requires.block, layouts.many) in
    let ranked = column-rank game column c.args.block layouts inside (c.fill.ensures.other ∙ ap (λ (l : List (List ℕ)). layout_at l c.args.block) (sym c.fill.ensures.layouts)) in
    subst (λ (n : ℕ). WorksIn game n c.args.seat c.loop-i.pairs.seat) ranked c.loop-i.invariant.works

pub returns-clause-swept : goal.returns-clause-swept
returns-clause-swept c =
    let column = c.fill.new.self in
    let game = c.args.board.now.game in
    let layouts = subst (AreLayouts game.checkers) (sym c.fill.ensures.layouts) c.requires.room.layouts in
    let inside : c.args.block < length column.layouts = omega (arith, c.requires.block, layouts.many) in
    column-swept game c.loop-i.pairs.seat.view column c.args.block layouts inside (c.fill.ensures.other ∙ ap (λ (l : List (List ℕ)). layout_at l c.args.block) (sym c.fill.ensures.layouts)) c.fill.ensures.movers
    (λ i below. let done : i < c.loop-i.i = omega (arith, below, c.loop-i-test.false, c.len-i-end.ensures) in c.loop-i.invariant.noted i done)

pub tighten_position-requires-clause-hand : goal.tighten_position-requires-clause-hand
tighten_position-requires-clause-hand c = omega (arith, c.requires.hand, c.loop-i.invariant.kept.hands)
