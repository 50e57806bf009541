use Rattle.std.proofs.Common.{take}
use Rattle.system_files.proofs.PutLemmas.{front-of}
use Rattle.system_files.proofs.real_files.Part.add.Goals as goal

pub returns-then-write_out-bytes-clause-taken : goal.returns-then-write_out-bytes-clause-taken
returns-then-write_out-bytes-clause-taken g c =
    let left = front-of c.write_out.result c.args.bytes.now in
    (take c.write_out.result c.args.bytes.now, left.0, left.1, c.write_out.ensures.taken)
