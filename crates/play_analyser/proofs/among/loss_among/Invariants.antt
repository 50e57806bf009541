use Rattle.std.proofs.Common.{◌≡◌, take}
use Rattle.play_analyser.specs.Losses.{loss}
use Rattle.play_analyser.proofs.among.loss_among.Given as goal

-- what is lost against the others so far
abbrev pub invariant-loop-other : goal.invariant-loop-other
invariant-loop-other l = l.behind_by ≡ loss (record { chosen = l.chosen; others = take l.other-index l.others })
