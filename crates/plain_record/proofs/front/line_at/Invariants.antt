use Rattle.std.proofs.Common.{◌≡◌, ◌-◌, drop}
use Rattle.plain_record.specs.Plain.{parts}
use Rattle.plain_record.proofs.front.line_at.Given as goal

-- the parts that are left
abbrev pub invariant-lines : goal.invariant-lines
invariant-lines l = drop (l._passed - 1) (parts 10 l.text) ≡ parts 10 l.rest
