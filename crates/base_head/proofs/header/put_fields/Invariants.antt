use Rattle.std.proofs.Common.{◌≡◌, ◌++◌, take, flat_map}
use Rattle.base_head.specs.Headers.{field}
use Rattle.base_head.proofs.header.put_fields.Given as goal

-- the fields so far were added
abbrev pub invariant-fields : goal.invariant-fields
invariant-fields g l = l.out.items ≡ l.fn.out.items ++ flat_map field (take l.number-index l.fields)
