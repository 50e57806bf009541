use Rattle.std.proofs.Common.{rules}
use Rattle.memory_files.specs.Calls.{front_of}
use Rattle.memory_files.proofs.Fronts.{front-rest}
use Rattle.memory_files.proofs.sinks.MemSinkSink.put.Goals as goal

pub returns-clause-put : goal.returns-clause-put
returns-clause-put c =
    let left = front-rest c.count-failing.result c.args.bytes.now in
    record {
      gains = (front_of c.count-failing.result c.args.bytes.now, left.0, left.1, search rules);
      cause = search rules;
    }
