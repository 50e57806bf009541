use Rattle.std.proofs.Common.{◌≡◌, drop}
use Rattle.base_scan.specs.Meets.{meets_by, says_by}
use Rattle.base_scan.proofs.Telling.{tells}
use Rattle.base_scan.proofs.numbers.meets_by.Given as goal

abbrev pub invariant-loop-joined : goal.invariant-loop-joined
invariant-loop-joined l =
    meets_by l.fn.depth l.fn.words l.fn.condition l.fn.seen.position l.fn.seen.kind
    ≡ tells (says_by l.fn.depth l.fn.words l.fn.seen.position l.fn.seen.kind) l.all (drop l.joined-index l.joined-items)
