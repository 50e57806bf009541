-- Texts that are printed piece by piece.
use Rattle.std.proofs.Common.{◌≡◌, ℕ, List, [], ◌∷◌, ◌++◌, sym, ap, append_assoc}
use Rattle.std.proofs.lemmas.List.{append-nil}
use Rattle.std.specs.List.{flat_map}
use Rattle.std.proofs.lemmas.List.Concat.{flat_map-append}
use Rattle.move_rules.specs.declared.written.Step.{Step}
use Rattle.game_record.specs.declared.line.Line.{Line}
use Rattle.record_text.specs.Texts.{line_text, lines_text, steps_text, spaced_step}
use Rattle.play_text.specs.Notation.{step_text}

-- the text of lines, and of lines behind them
pub lines_text_append : (lines more : List Line) → lines_text (lines ++ more) ≡ lines_text lines ++ lines_text more
lines_text_append lines more = flat_map-append (λ line. line_text line ++ 10 ∷ []) lines more

-- the text of steps begins with the first, and each other has a space before it
pub steps_text_cons : (step : Step) (steps : List Step) → steps_text (step ∷ steps) ≡ step_text step ++ flat_map spaced_step steps
steps_text_cons step [] = sym (append-nil (step_text step))
steps_text_cons step (next ∷ steps) = ap (λ text. step_text step ++ 32 ∷ text) (steps_text_cons next steps)

-- the first step was added to a text, and then the others
pub steps_added : (before between end : List ℕ) (steps : List Step) (step : Step) (rest : List Step) → steps ≡ step ∷ rest → between ≡ before ++ step_text step → end ≡ between ++ flat_map spaced_step rest → end ≡ before ++ steps_text steps
steps_added before between end steps step rest all first others = rw (others, first, all, steps_text_cons step rest) (append_assoc before (step_text step) (flat_map spaced_step rest))
