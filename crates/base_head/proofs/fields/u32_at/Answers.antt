use Rattle.std.proofs.Common.{ap, ◌∙◌}
use Rattle.std.proofs.lemmas.List.{take_rest}
use Rattle.byteorder.specs.Endian.{big_number}
use Rattle.base_head.proofs.fields.u32_at.Goals as goal

pub returns : goal.returns
returns c = c.read_u32.ensures ∙ ap (big_number 4) (take_rest c.args.bytes.now c.args.at)
