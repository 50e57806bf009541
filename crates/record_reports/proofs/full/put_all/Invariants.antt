use Rattle.std.proofs.Common.{take, Ok}
use Rattle.std.specs.List.{flat_map}
use Rattle.outside_log.specs.Sink.{Puts}
use Rattle.hyper_outside.specs.declared.outside.Failed.{Failed}
use Rattle.record_reports.specs.Full.{full_line}
use Rattle.record_reports.proofs.full.put_all.Given as goal

-- the lines so far were put
abbrev pub invariant-decisions : goal.invariant-decisions
invariant-decisions g l =
    Puts {T = Unit {0}} {E = Failed} (g.O.Sink.output l.fn.out) (g.O.Sink.output l.out) (flat_map (full_line l.board l.rec.stakes) (take l.judged-index l.list)) (Ok tt)
