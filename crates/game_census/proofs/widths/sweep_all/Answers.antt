use Rattle.std.proofs.Common.{◌∙◌, ◌<◌, ℕ, ap, subst, length, arith}
use Rattle.std.proofs.lemmas.List.{length-set}
use Rattle.worker_sweep.specs.Blocks.{blocks}
use Rattle.game_census.proofs.widths.sweep_all.Goals as goal

pub sweep_block-requires-clause-block : goal.sweep_block-requires-clause-block
sweep_block-requires-clause-block c =
    subst (λ (n : ℕ). c.loop-block.block < n) (c.blocks_of-block-end.ensures.blocks ∙ ap (λ (n : ℕ). blocks n) c.checkers.ensures.checkers) c.loop-block-test.true

pub loop-block-preserved : goal.loop-block-preserved
loop-block-preserved c =
    let works = c.loop-block.invariant in
    let keeps = c.sweep_block.ensures.seat in
    record {
      seat = record { table = keeps.table ∙ works.seat.table; game = keeps.game ∙ works.seat.game };
      hand = omega (arith, keeps.hands, works.hand);
      marks = ap length c.sweep_block.ensures.marks ∙ (length-set c.loop-block.worker.marks c.loop-block.block _ ∙ works.marks);
    }
