use Rattle.position_rank.specs.LiveRanks.{live_rank_of}
use Rattle.directed_fixed.specs.declared.bounds.End.TheVariants.{Lower}
use Rattle.turn_rule.specs.Games.{kinds_of}
use Rattle.interval_words.specs.Numbers.{state_of, word_of}
use Rattle.base_verify.specs.Findings.{HoldBetween}
use Rattle.base_verify.specs.Checks.{word_place}
use Rattle.base_verify.proofs.states.position_finding.Given as goal

abbrev pub invariant-loop-kind : goal.invariant-loop-kind
invariant-loop-kind l = HoldBetween l.words (word_place l.words (live_rank_of l.ends)) (word_of Lower (state_of (kinds_of l.words.game) l.ends l.kind))
