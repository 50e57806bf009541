use Rattle.std.proofs.Common.{◌∙◌, List, ℕ, sym, subst, arith}
use Rattle.play_text.specs.Notation.{IsPlayText}
use Rattle.record_maker.proofs.choice.written_play.Goals as goal

-- the text that was printed is that of steps
pub unreachable-requires : goal.unreachable-requires
unreachable-requires c =
    let printed = c.as_str.ensures.value ∙ c.print_play-text.ensures in
    let told = c.printed_plays_are_read.ensures c.args.position.now c.args.play.now.items c.requires (omega (arith, c.len-moves.ensures.fits, c.len-moves.ensures.value)) in
    c.in-None.ensures told.0 (subst (λ (text : List ℕ). IsPlayText text told.0) (sym printed) told.2)
