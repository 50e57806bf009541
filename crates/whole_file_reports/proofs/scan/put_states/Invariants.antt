use Rattle.std.proofs.Common.{◌≡◌, ◌++◌, ℕ, List, take, Ok}
use Rattle.std.specs.List.{flat_map}
use Rattle.outside_log.specs.Sink.{Puts}
use Rattle.hyper_outside.specs.declared.outside.Failed.{Failed}
use Rattle.whole_file_reports.specs.Scans.{found_text}
use Rattle.whole_file_reports.proofs.scan.put_states.Given as goal

-- the lines so far were put, but for those that wait
abbrev pub invariant-states : goal.invariant-states
invariant-states g l =
    (text : List ℕ) × Puts {T = Unit {0}} {E = Failed} (g.O.Sink.output l.fn.out) (g.O.Sink.output l.out) text (Ok tt)
    × (flat_map (found_text l.words) (take l.state-index l.fn.states) ≡ text ++ l.lines.bytes)
